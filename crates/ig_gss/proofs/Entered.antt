-- The table of pops by node and end, when pops are entered.
use Rattle.std.proofs.Common.{◌≡◌, ◌∙◌, inl, inr, ⊎_elim, ℕ, ◌<◌, true, false, List, [], ◌∷◌, ◌++◌, Some, None, Contains, length, map, reverse, slice_get, refl, sym, ap, subst, arith}
use Rattle.std.specs.Prelude.{IfSome, OnOk, Result, Ok, Err}
use Rattle.std.proofs.lemmas.Bool.{cases_eq}
use Rattle.std.proofs.lemmas.List.{reverse-append}
use Rattle.std.proofs.lemmas.List.Elements.{Contains-append_left}
use Rattle.std.proofs.lemmas.List.Sorted.{IsPermutation-reverse, IsPermutation-sym, Contains-permutation}
use Rattle.indexmap.specs.IndexMap.{insert_entry}
use Rattle.ig_text.proofs.Lists.{none_in_nil, contains_first, contains_later, contains_from_at, in_rest, in_pushed, unmapped_in, it_is_in, place_cases}
use Rattle.ig_gss.specs.declared.marks.Pop.{Pop}
use Rattle.ig_gss.specs.declared.tops.Tops.{Tops}
use Rattle.ig_gss.specs.declared.places.Place.{Place}
use Rattle.ig_gss.specs.Nodes.{Node, ended, pops_at, ends_at}
use Rattle.ig_gss.specs.Places.{place, HasAll, GrowsBy, IsEntered, IsHighest}
use Rattle.ig_gss.specs.Views.{AreIndexed}
use Rattle.ig_gss.proofs.Keyed.{place_eq, place_decides, in_inserted, keys_kept, key_there}

pub in_reverse : {X : Type 0} (xs : List X) (x : X) → Contains (reverse xs) x → Contains xs x
in_reverse xs x = Contains-permutation _ _ x (IsPermutation-sym _ _ (IsPermutation-reverse xs))

pub in_back : {X : Type 0} (xs : List X) (x : X) → Contains xs x → Contains (reverse xs) x
in_back xs x = Contains-permutation _ _ x (IsPermutation-reverse xs)

-- the same table
pub same_grows : (node : ℕ) (pops : List Pop) (old new : List (Place × ℕ)) → new ≡ old → GrowsBy node pops old new
same_grows node pops old new is =
    record {
      sound = λ q done c. inl (subst (λ z. Contains z (q, done)) is c);
      kept = λ q c. subst (λ z. Contains (map (λ e. e.0) z) q) (sym is) c;
    }

-- nothing is entered yet
pub none_entered : (node : ℕ) (pops rest : List Pop) (ends : List (Place × ℕ)) → rest ≡ pops → IsEntered node pops rest ends ends
none_entered node pops rest ends is =
    record {
      grows = same_grows node pops ends ends refl;
      within = λ p c. subst (λ z. Contains z p) is c;
      others = λ p c. inl (subst (λ z. Contains z p) (sym is) c);
    }

-- one more is entered
pub one_entered : (node : ℕ) (pops rest left : List Pop) (p : Pop) (old now new : List (Place × ℕ)) → IsEntered node pops rest old now →
    rest ≡ p ∷ left → new ≡ insert_entry place_eq now (place node p.end) p.done → IsEntered node pops left old new
one_entered node pops rest left p old now new i is made =
    record {
      grows =
          record {
            sound = λ q done c.
                ⊎_elim (λ (h : Contains now (q, done)). i.grows.sound q done h)
                (λ (h : (q, done) ≡ (place node p.end, p.done)).
                inr (
                  ap (λ (z : Place × ℕ). z.0.node) h,
                  subst (Contains pops) (λ j. record { end = (sym h j).0.end; done = (sym h j).1 })
                      (i.within p (subst (λ z. Contains z p) (sym is) (contains_first p left))),
                ))
                (in_inserted place_decides now (place node p.end) p.done (q, done) (subst (λ z. Contains z (q, done)) made c));
            kept = λ q c. subst (λ z. Contains (map (λ e. e.0) z) q) (sym made) (keys_kept place_decides now (place node p.end) p.done q (i.grows.kept q c));
          };
      within = λ x c. i.within x (subst (λ z. Contains z x) (sym is) (contains_later p left x c));
      others = λ x c.
          ⊎_elim
          (λ (h : Contains rest x).
          ⊎_elim
          (λ (e : p ≡ x).
          inr (subst (λ z. Contains (map (λ y. y.0) new) (place node z.end)) e
          (subst (λ z. Contains (map (λ y. y.0) z) (place node p.end)) (sym made) (key_there place_decides now (place node p.end) p.done))))
          (λ (g : Contains left x). inl g) (in_rest p left x (subst (λ z. Contains z x) is h)))
          (λ (h : Contains (map (λ y. y.0) now) (place node x.end)).
          inr (subst (λ z. Contains (map (λ y. y.0) z) (place node x.end)) (sym made) (keys_kept place_decides now (place node p.end) p.done (place node x.end) h)))
          (i.others x c);
    }

-- all are entered
pub all_entered : (node : ℕ) (pops rest : List Pop) (old new : List (Place × ℕ)) → IsEntered node pops rest old new → rest ≡ [] → HasAll node pops new
all_entered node pops rest old new i is p c =
    ⊎_elim (λ (h : Contains rest p). absurd (none_in_nil p (subst (λ z. Contains z p) is h)))
    (λ (h : Contains (map (λ y. y.0) new) (place node p.end)). h) (i.others p c)

-- where the latest one is the highest, what is above it is above all
pub above_all : (ps : List Pop) (end : ℕ) → IsHighest ps → IfSome (slice_get ps 0) (λ l. l.end < end) → (q : Pop) → Contains ps q → q.end < end
above_all [] end high above q c = absurd (none_in_nil q c)
above_all (p ∷ ps) end high above q c =
    ⊎_elim (λ (e : p ≡ q). subst (λ z. z.end < end) e above)
    (λ (h : Contains ps q). let l = high q h in omega (arith, l, above)) (in_rest p ps q c)

-- the table after a walk that entered pops of one node
pub grown_index : (nodes : List Node) (tops : List Tops) (ends more : List (Place × ℕ)) (k : ℕ) (ps : List Pop) → AreIndexed nodes tops ends →
    GrowsBy k ps ends more → ps ≡ reverse (pops_at nodes k) → AreIndexed nodes tops more
grown_index nodes tops ends more k ps a g is =
    record {
      sound = λ q done c.
          ⊎_elim (λ (h : Contains ends (q, done)). a.sound q done h)
          (λ (h : (q.node ≡ k) × Contains ps (ended q.end done)).
          subst (λ z. Contains (pops_at nodes z) (ended q.end done)) (sym h.0)
          (in_reverse (pops_at nodes k) (ended q.end done) (subst (λ z. Contains z (ended q.end done)) is h.1)))
          (g.sound q done c);
      all = λ j t at is p c. g.kept (place j p.end) (a.all j t at is p c);
      rising = a.rising;
    }

-- what is entered of the node
pub has_all : (nodes : List Node) (k : ℕ) (ps : List Pop) (ends : List (Place × ℕ)) → ps ≡ reverse (pops_at nodes k) → HasAll k ps ends →
    HasAll k (pops_at nodes k) ends
has_all nodes k ps ends is h p c = h p (subst (λ z. Contains z p) (sym is) (in_back (pops_at nodes k) p c))

pub had_all : (nodes : List Node) (tops : List Tops) (ends : List (Place × ℕ)) (k : ℕ) (t : Tops) (ps : List Pop) → AreIndexed nodes tops ends →
    slice_get tops k ≡ Some t → t.is_indexed ≡ true → ps ≡ reverse (pops_at nodes k) → HasAll k ps ends
had_all nodes tops ends k t ps a at is same p c =
    a.all k t at is p (in_reverse (pops_at nodes k) p (subst (λ z. Contains z p) same c))

-- the same pops, by tops that say the same of the table
pub same_index : (old new : List Node) (tops more : List Tops) (ends : List (Place × ℕ)) → AreIndexed old tops ends →
    ((j : ℕ) → pops_at new j ≡ pops_at old j) →
    ((j : ℕ) (u : Tops) → slice_get more j ≡ Some u → (v : Tops) × (slice_get tops j ≡ Some v) × (v.is_indexed ≡ u.is_indexed)) →
    AreIndexed new more ends
same_index old new tops more ends a stay flags =
    record {
      sound = λ q done c. subst (λ z. Contains z (ended q.end done)) (sym (stay q.node)) (a.sound q done c);
      all = λ j u at is.
          let v = flags j u at in
          subst (λ z. HasAll j z ends) (sym (stay j)) (a.all j v.0 v.1 (v.2 ∙ is));
      rising = λ j u at is.
          let v = flags j u at in
          subst (λ z. IsHighest (reverse z)) (sym (stay j)) (a.rising j v.0 v.1 (v.2 ∙ is));
    }

-- all pops of a node are in the table
pub set_index : (nodes : List Node) (tops more : List Tops) (ends : List (Place × ℕ)) (k : ℕ) → AreIndexed nodes tops ends →
    HasAll k (pops_at nodes k) ends → ((u : Tops) → slice_get more k ≡ Some u → u.is_indexed ≡ true) →
    ((j : ℕ) (u : Tops) → (j ≡ k → ⊥) → slice_get more j ≡ Some u → slice_get tops j ≡ Some u) → AreIndexed nodes more ends
set_index nodes tops more ends k a has here others =
    record {
      sound = a.sound;
      all = λ j u at is.
          ⊎_elim (λ (e : j ≡ k). subst (λ z. HasAll z (pops_at nodes z) ends) (sym e) has)
          (λ (o : j ≡ k → ⊥). a.all j u (others j u o at) is) (cases_eq j k);
      rising = λ j u at is.
          ⊎_elim
          (λ (e : j ≡ k).
          let t : u.is_indexed ≡ true = here u (subst (λ z. slice_get more z ≡ Some u) e at) in
          let no : true ≡ false = sym t ∙ is in cc)
          (λ (o : j ≡ k → ⊥). a.rising j u (others j u o at) is) (cases_eq j k);
    }

-- a new node has no pops
pub node_index : (nodes new : List Node) (tops more : List Tops) (t : Tops) (ends : List (Place × ℕ)) → AreIndexed nodes tops ends →
    ((j : ℕ) → pops_at new j ≡ pops_at nodes j) → pops_at nodes (length tops) ≡ [] → more ≡ tops ++ t ∷ [] → t.is_indexed ≡ false →
    AreIndexed new more ends
node_index nodes new tops more t ends a stay none made flag =
    record {
      sound = λ q done c. subst (λ z. Contains z (ended q.end done)) (sym (stay q.node)) (a.sound q done c);
      all = λ j u at is.
          ⊎_elim (λ (h : slice_get tops j ≡ Some u). subst (λ z. HasAll j z ends) (sym (stay j)) (a.all j u h is))
          (λ (h : (j ≡ length tops) × (t ≡ u)).
          let e : t.is_indexed ≡ u.is_indexed = ap (λ z. z.is_indexed) h.1 in
          let no : true ≡ false = sym is ∙ sym e ∙ flag in cc)
          (place_cases tops t u j (subst (λ z. slice_get z j ≡ Some u) made at));
      rising = λ j u at is.
          ⊎_elim (λ (h : slice_get tops j ≡ Some u). subst (λ z. IsHighest (reverse z)) (sym (stay j)) (a.rising j u h is))
          (λ (h : (j ≡ length tops) × (t ≡ u)). subst (λ z. IsHighest (reverse z)) (sym (stay j ∙ ap (pops_at nodes) h.0 ∙ none)) tt)
          (place_cases tops t u j (subst (λ z. slice_get z j ≡ Some u) made at));
    }

-- one more pop of node k
module _ (old new : List Node) (tops more : List Tops) (k : ℕ) (p : Pop) (there : pops_at new k ≡ pops_at old k ++ p ∷ [])
    (elsewhere : (j : ℕ) → (j ≡ k → ⊥) → pops_at new j ≡ pops_at old j)
    (others : (j : ℕ) (u : Tops) → (j ≡ k → ⊥) → slice_get more j ≡ Some u → slice_get tops j ≡ Some u) where
  grows : (j : ℕ) (x : Pop) → Contains (pops_at old j) x → Contains (pops_at new j) x
  grows j x c =
      ⊎_elim
      (λ (e : j ≡ k).
      subst (λ z. Contains (pops_at new z) x) (sym e)
      (subst (λ z. Contains z x) (sym there) (Contains-append_left (pops_at old k) (p ∷ []) x (subst (λ z. Contains (pops_at old z) x) e c))))
      (λ (o : j ≡ k → ⊥). subst (λ z. Contains z x) (sym (elsewhere j o)) c)
      (cases_eq j k)

  -- it is the highest
  pub rising_index : (ends : List (Place × ℕ)) (t : Tops) → AreIndexed old tops ends → slice_get tops k ≡ Some t → t.is_indexed ≡ false →
      ((u : Tops) → slice_get more k ≡ Some u → u.is_indexed ≡ false) → IfSome (slice_get (reverse (pops_at old k)) 0) (λ l. l.end < p.end) →
      AreIndexed new more ends
  rising_index ends t a was flag here above =
      record {
        sound = λ q done c. grows q.node (ended q.end done) (a.sound q done c);
        all = λ j u at is.
            ⊎_elim
            (λ (e : j ≡ k).
            let f : u.is_indexed ≡ false = here u (subst (λ z. slice_get more z ≡ Some u) e at) in
            let no : true ≡ false = sym is ∙ f in absurd (true_not_false no))
            (λ (o : j ≡ k → ⊥). subst (λ z. HasAll j z ends) (sym (elsewhere j o)) (a.all j u (others j u o at) is))
            (cases_eq j k);
        rising = λ j u at is.
            ⊎_elim
            (λ (e : j ≡ k).
            subst (λ z. IsHighest (reverse (pops_at new z))) (sym e)
            (subst (λ z. IsHighest (reverse z)) (sym there)
            (subst IsHighest (sym (reverse-append (pops_at old k) (p ∷ [])))
            (above_all (reverse (pops_at old k)) p.end (a.rising k t was flag) above))))
            (λ (o : j ≡ k → ⊥). subst (λ z. IsHighest (reverse z)) (sym (elsewhere j o)) (a.rising j u (others j u o at) is))
            (cases_eq j k);
      }
    where
      true_not_false : true ≡ false → ⊥
      true_not_false e = cc

  -- it is entered, as are those before it
  pub falling_index : (ends after : List (Place × ℕ)) → AreIndexed old tops ends → HasAll k (pops_at old k) ends →
      ((u : Tops) → slice_get more k ≡ Some u → u.is_indexed ≡ true) → after ≡ insert_entry place_eq ends (place k p.end) p.done →
      AreIndexed new more after
  falling_index ends after a has here made =
      record {
        sound = λ q done c.
            ⊎_elim (λ (h : Contains ends (q, done)). grows q.node (ended q.end done) (a.sound q done h))
            (λ (h : (q, done) ≡ (place k p.end, p.done)).
            let e : q.node ≡ k = ap (λ (z : Place × ℕ). z.0.node) h in
            subst (λ z. Contains (pops_at new z) (ended q.end done)) (sym e)
            (subst (λ z. Contains z (ended q.end done)) (sym there)
            (subst (Contains (pops_at old k ++ p ∷ [])) (λ j. record { end = (sym h j).0.end; done = (sym h j).1 })
            (pushed_in (pops_at old k)))))
            (in_inserted place_decides ends (place k p.end) p.done (q, done) (subst (λ z. Contains z (q, done)) made c));
        all = λ j u at is x c.
            subst (λ z. Contains (map (λ y. y.0) z) (place j x.end)) (sym made)
            (⊎_elim
            (λ (e : j ≡ k).
            subst (λ z. Contains (map (λ y. y.0) (insert_entry place_eq ends (place k p.end) p.done)) (place z x.end)) (sym e)
            (⊎_elim (λ (h : Contains (pops_at old k) x). keys_kept place_decides ends (place k p.end) p.done (place k x.end) (has x h))
            (λ (h : x ≡ p).
            subst (λ z. Contains (map (λ y. y.0) (insert_entry place_eq ends (place k p.end) p.done)) (place k z.end)) (sym h)
            (key_there place_decides ends (place k p.end) p.done))
            (in_pushed (pops_at old k) p x (subst (λ z. Contains z x) there (subst (λ z. Contains (pops_at new z) x) e c)))))
            (λ (o : j ≡ k → ⊥).
            keys_kept place_decides ends (place k p.end) p.done (place j x.end)
            (a.all j u (others j u o at) is x (subst (λ z. Contains z x) (elsewhere j o) c)))
            (cases_eq j k));
        rising = λ j u at is.
            ⊎_elim
            (λ (e : j ≡ k).
            let t : u.is_indexed ≡ true = here u (subst (λ z. slice_get more z ≡ Some u) e at) in
            let no : true ≡ false = sym t ∙ is in absurd (true_not_false no))
            (λ (o : j ≡ k → ⊥). subst (λ z. IsHighest (reverse z)) (sym (elsewhere j o)) (a.rising j u (others j u o at) is))
            (cases_eq j k);
      }
    where
      true_not_false : true ≡ false → ⊥
      true_not_false e = cc

      pushed_in : (xs : List Pop) → Contains (xs ++ p ∷ []) p
      pushed_in [] = it_is_in p
      pushed_in (x ∷ xs) = contains_later x (xs ++ p ∷ []) p (pushed_in xs)

-- what is asked of a node's pops, by the latest one
module _ (ps : List Pop) (end : ℕ) where
  pub no_pops : None ≡ slice_get (reverse ps) 0 → Contains (map (λ p. p.end) ps) end → ⊥
  no_pops none c =
      let u = unmapped_in (λ p. p.end) ps end c in
      empty (reverse ps) (in_back ps u.0 u.1) none
    where
      empty : (qs : List Pop) {x : Pop} → Contains qs x → None ≡ slice_get qs 0 → ⊥
      empty [] {x} c e = none_in_nil x c
      empty (q ∷ qs) c e = cc

  pub latest_pop : (p : Pop) → Some p ≡ slice_get (reverse ps) 0 → p.end ≡ end → Contains ps (ended end p.done)
  latest_pop p is e =
      in_reverse ps (ended end p.done)
      (subst (Contains (reverse ps)) (λ j. record { end = e j; done = p.done }) (contains_from_at (reverse ps) 0 p (sym is)))

  pub none_above : IsHighest (reverse ps) → IfSome (slice_get (reverse ps) 0) (λ l. l.end < end) → Contains (map (λ p. p.end) ps) end → ⊥
  none_above high above c =
      let u = unmapped_in (λ p. p.end) ps end c in
      let l = above_all (reverse ps) end high above u.0 (in_back ps u.0 u.1) in
      let e = u.2 in omega (arith, l, e)

-- what the table says of a node that is indexed
pub by_table : (nodes : List Node) (tops : List Tops) (ends : List (Place × ℕ)) (k end done : ℕ) → AreIndexed nodes tops ends →
    Contains ends (place k end, done) → Contains (pops_at nodes k) (ended end done)
by_table nodes tops ends k end done a c = a.sound (place k end) done c

pub not_in_table : (nodes : List Node) (ends : List (Place × ℕ)) (k end : ℕ) → HasAll k (pops_at nodes k) ends →
    (Contains (map (λ e. e.0) ends) (place k end) → ⊥) → Contains (ends_at nodes k) end → ⊥
not_in_table nodes ends k end has none c =
    let u = unmapped_in (λ p. p.end) (pops_at nodes k) end c in
    none (subst (λ z. Contains (map (λ e. e.0) ends) (place k z)) u.2 (has u.0 u.1))

-- what was entered stays where no more memory is had
pub still_all : {A E : Type 0} (r : Result A E) (node : ℕ) (pops : List Pop) (old new : List (Place × ℕ)) → new ≡ old → HasAll node pops old →
    OnOk r (HasAll node pops new)
still_all (Ok x) node pops old new is h = subst (HasAll node pops) (sym is) h
still_all (Err e) node pops old new is h = tt
