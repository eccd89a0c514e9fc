-- The items at the position that were found behind calls, as more are found.
use Rattle.std.proofs.Common.{◌≡◌, ⊎_elim, ℕ, ◌+◌, ◌<◌, List, [], ◌∷◌, ◌++◌, Some, length, map, Contains, refl, sym, subst, arith, slice_get, length-append, append_assoc}
use Rattle.std.proofs.lemmas.List.{append-nil, length-map}
use Rattle.std.proofs.lemmas.Option.{slice_get_within}
use Rattle.std.proofs.lemmas.List.Elements.{Contains-append_left, Contains-append_right, Contains-append_cases}
use Rattle.ig_text.proofs.Lists.{left_at, right_at, sides, at_from_contains, contains_from_at, it_is_in, contains_one, none_in_nil, unmapped_at}
use Rattle.ig_item.specs.declared.items.Item as stored
use Rattle.ig_item.specs.declared.ways.Way.{Way}
use Rattle.ig_item.specs.declared.ways.Way.TheVariants.{Leaf, Node}
use Rattle.ig_run_tables.specs.Returned.{Entry, entry}
use Rattle.ig_plain.specs.Trail.{ComesOnce, IsNodeAt, Indexes}

-- of the same lists
pub indexed_same : (done done2 here here2 : List stored.Item) (firsts firsts2 : List Way) (returned returned2 : List Entry) → done2 ≡ done →
    here2 ≡ here → firsts2 ≡ firsts → returned2 ≡ returned → Indexes done here firsts returned → Indexes done2 here2 firsts2 returned2
indexed_same done done2 here here2 firsts firsts2 returned returned2 d h f r i =
    subst (λ (z : List stored.Item). Indexes z here2 firsts2 returned2) (sym d)
    (subst (λ (z : List stored.Item). Indexes done z firsts2 returned2) (sym h)
    (subst (λ (z : List Way). Indexes done here z returned2) (sym f)
    (subst (λ (z : List Entry). Indexes done here firsts z) (sym r) i)))

-- a way that stands behind those of so many items is the one that was added
way_behind : (firsts : List Way) (way other : Way) (k : ℕ) → length firsts ≡ k → slice_get (firsts ++ way ∷ []) k ≡ Some other → other ≡ way
way_behind firsts way other k long at =
    ⊎_elim (λ (h : slice_get firsts k ≡ Some other). let l = slice_get_within firsts k other h in absurd (omega (arith, l, long)))
    (λ (h : (m : ℕ) × (k ≡ length firsts + m) × (slice_get (way ∷ []) m ≡ Some other)).
    contains_one way other (contains_from_at (way ∷ []) h.0 other h.2)) (sides firsts (way ∷ []) k other at)

way_before : (firsts : List Way) (way other : Way) (k : ℕ) → k < length firsts → slice_get (firsts ++ way ∷ []) k ≡ Some other →
    slice_get firsts k ≡ Some other
way_before firsts way other k lt at =
    ⊎_elim (λ (h : slice_get firsts k ≡ Some other). h)
    (λ (h : (m : ℕ) × (k ≡ length firsts + m) × (slice_get (way ∷ []) m ≡ Some other)). absurd (omega (arith, lt, h.1)))
    (sides firsts (way ∷ []) k other at)

-- one item more, in that way
module _ (done here : List stored.Item) (firsts : List Way) (returned : List Entry) (x : stored.Item) (way : Way)
    (i : Indexes done here firsts returned) where
  numbered_one : length (firsts ++ way ∷ []) ≡ length (done ++ (here ++ x ∷ []))
  numbered_one =
      let a = length-append firsts (way ∷ []) in let b = length-append done (here ++ x ∷ []) in let c = length-append here (x ∷ []) in
      let d = length-append done here in let e = i.numbered in omega (arith, a, b, c, d, e)

  sound_one : (e : Entry) → slice_get (done ++ here) e.number ≡ Some e.item → slice_get (done ++ (here ++ x ∷ [])) e.number ≡ Some e.item
  sound_one e at =
      subst (λ (z : List stored.Item). slice_get z e.number ≡ Some e.item) (append_assoc done here (x ∷ []))
      (left_at (done ++ here) (x ∷ []) e.number e.item at)

  complete_one : (more : List Entry) → ((prev callee : ℕ) → Node prev callee ≡ way → Contains more (entry x (length done + length here))) →
      (k : ℕ) (y : stored.Item) → slice_get (here ++ x ∷ []) k ≡ Some y → IsNodeAt (firsts ++ way ∷ []) (length done + k) →
      Contains (returned ++ more) (entry y (length done + k))
  complete_one more new k y at (prev, callee, node) =
      let long = i.numbered in let both = length-append done here in
      ⊎_elim
      (λ (h : slice_get here k ≡ Some y).
      let l = slice_get_within here k y h in
      Contains-append_left returned more (entry y (length done + k))
      (i.complete k y h (prev, callee, way_before firsts way (Node prev callee) (length done + k) (omega (arith, l, long, both)) node)))
      (λ (h : (m : ℕ) × (k ≡ length here + m) × (slice_get (x ∷ []) m ≡ Some y)).
      let l = slice_get_within (x ∷ []) h.0 y h.2 in
      let last : k ≡ length here = omega (arith, l, h.1) in
      let same : x ≡ y = sym (contains_one x y (contains_from_at (x ∷ []) h.0 y h.2)) in
      Contains-append_right returned more (entry y (length done + k))
      (subst (λ (z : stored.Item). Contains more (entry z (length done + k))) same
      (subst (λ (n : ℕ). Contains more (entry x (length done + n))) (sym last)
      (new prev callee (way_behind firsts way (Node prev callee) (length done + k) (omega (arith, last, long, both)) node)))))
      (sides here (x ∷ []) k y at)

-- by no call
pub indexed_once : (done here : List stored.Item) (firsts : List Way) (returned : List Entry) (x : stored.Item) (way : Way) → ComesOnce way →
    Indexes done here firsts returned → Indexes done (here ++ x ∷ []) (firsts ++ way ∷ []) returned
indexed_once done here firsts returned x way once i =
    record {
      numbered = numbered_one done here firsts returned x way i;
      sound = λ e c. sound_one done here firsts returned x way i e (i.sound e c);
      complete = λ k y at node.
          subst (λ (z : List Entry). Contains z (entry y (length done + k))) (append-nil returned)
          (complete_one done here firsts returned x way i [] (λ prev callee is. absurd (subst ComesOnce (sym is) once)) k y at node);
    }

-- by a call
pub indexed_node : (done here : List stored.Item) (firsts : List Way) (returned : List Entry) (x : stored.Item) (way : Way) (number : ℕ) →
    number ≡ length done + length here → Indexes done here firsts returned →
    Indexes done (here ++ x ∷ []) (firsts ++ way ∷ []) (returned ++ entry x number ∷ [])
indexed_node done here firsts returned x way number is i =
    record {
      numbered = numbered_one done here firsts returned x way i;
      sound = λ e c.
          ⊎_elim (λ (h : Contains returned e). sound_one done here firsts returned x way i e (i.sound e h))
          (λ (h : Contains (entry x number ∷ []) e).
          subst (λ (z : Entry). slice_get (done ++ (here ++ x ∷ [])) z.number ≡ Some z.item) (sym (contains_one (entry x number) e h)) new_at)
          (Contains-append_cases returned (entry x number ∷ []) e c);
      complete = complete_one done here firsts returned x way i (entry x number ∷ [])
          (λ prev callee same.
          subst (λ (n : ℕ). Contains (entry x number ∷ []) (entry x n)) is (it_is_in (entry x number)));
    }
  where
    new_at : slice_get (done ++ (here ++ x ∷ [])) number ≡ Some x
    new_at =
        subst (λ (z : List stored.Item). slice_get z number ≡ Some x) (append_assoc done here (x ∷ []))
        (right_at (done ++ here) (x ∷ []) number 0 x (let e = length-append done here in omega (arith, is, e)) refl)

-- those at the next position came by leaves
pub indexed_next : (done here more : List stored.Item) (firsts : List Way) (numbers : List ℕ) (returned : List Entry) → length numbers ≡ length more →
    Indexes done here firsts returned → Indexes (done ++ here) more (firsts ++ map Leaf numbers) []
indexed_next done here more firsts numbers returned long i =
    record {
      numbered =
          let a = length-append firsts (map Leaf numbers) in let b = length-map numbers Leaf in let c = length-append (done ++ here) more in
          let d = i.numbered in omega (arith, a, b, c, d, long);
      sound = λ e c. absurd (none_in_nil e c);
      complete = λ k x at node. absurd (never k node);
    }
  where
    never : (k : ℕ) → IsNodeAt (firsts ++ map Leaf numbers) (length (done ++ here) + k) → ⊥
    never k (prev, callee, node) =
        ⊎_elim
        (λ (h : slice_get firsts (length (done ++ here) + k) ≡ Some (Node prev callee)).
        let l = slice_get_within firsts (length (done ++ here) + k) (Node prev callee) h in let n = i.numbered in omega (arith, l, n))
        (λ (h : (m : ℕ) × (length (done ++ here) + k ≡ length firsts + m) × (slice_get (map Leaf numbers) m ≡ Some (Node prev callee))).
        let u = unmapped_at Leaf numbers h.0 (Node prev callee) h.2 in let e = u.2 in cc)
        (sides firsts (map Leaf numbers) (length (done ++ here) + k) (Node prev callee) node)

-- an item that is found behind calls only, and of which no number is known, isn't there
pub not_indexed : (done here : List stored.Item) (firsts : List Way) (returned : List Entry) (x : stored.Item) →
    Indexes done here firsts returned → ((number : ℕ) → Contains returned (entry x number) → ⊥) →
    ((k : ℕ) → slice_get here k ≡ Some x → IsNodeAt firsts (length done + k)) → Contains here x → ⊥
not_indexed done here firsts returned x i none nodes c =
    let at = at_from_contains here x c in none (length done + at.0) (i.complete at.0 x at.1 (nodes at.0 at.1))

-- nothing is found
pub indexed_none : Indexes [] [] [] []
indexed_none = record { numbered = refl; sound = λ e c. absurd (none_in_nil e c); complete = λ k x at node. cc at }
