-- Each edge of a node meets each of its pops, once.
use Rattle.std.proofs.Common.{◌≡◌, ◌⊎◌, inl, inr, ⊎_elim, ℕ, zero, suc, ◌<◌, List, [], ◌∷◌, ◌++◌, Some, Contains, length, map, reverse, slice_get, refl, sym, ap, ◌∙◌, subst, arith}
use Rattle.std.proofs.lemmas.Bool.{cases_eq}
use Rattle.std.proofs.lemmas.List.{reverse-append}
use Rattle.std.proofs.lemmas.List.Elements.{Contains-append_cases, Contains-append_left, Contains-append_right}
use Rattle.std.proofs.lemmas.List.Sorted.{IsPermutation-reverse, IsPermutation-sym, Contains-permutation}
use Rattle.ig_text.proofs.Lists.{none_in_nil, mapped_in, unmapped_in, unmapped_at, in_pushed, at_from_contains}
use Rattle.ig_text.proofs.Differing.{both_differ, pushed_differ}
use Rattle.ig_item.specs.WellKinded.{NoneTwice}
use Rattle.ig_item.specs.declared.items.InstanceKey.{InstanceKey}
use Rattle.ig_gss.specs.Nodes.{Node, edges_at, pops_at, items_at, ends_at, with_edge, with_pop, FindsNode, MakesNode, fresh}
use Rattle.ig_gss.specs.declared.marks.Edge.{Edge}
use Rattle.ig_gss.specs.declared.marks.Pop.{Pop}
use Rattle.ig_gss.specs.Laws as laws
use Rattle.ig_gss.specs.Laws.{Met, Runs, EachPairOnce, met_by_edge, met_by_pop}
use Rattle.ig_gss.proofs.Grown.{edges_there, edges_elsewhere, pops_stay, pops_there, pops_elsewhere, edges_stay, fresh_edges, fresh_pops}

-- lists in which nothing stands twice, mapped and turned round
none_differ : {X : Type 0} → NoneTwice {X = X} []
none_differ i j x a b = cc

map_differ : {X Y : Type 0} (f : X → Y) → ((x y : X) → f x ≡ f y → x ≡ y) → (xs : List X) → NoneTwice xs → NoneTwice (map f xs)
map_differ f tells xs differ i j y a b =
    let u = unmapped_at f xs i y a in
    let v = unmapped_at f xs j y b in
    differ i j u.0 u.1 (subst (λ z. slice_get xs j ≡ Some z) (tells v.0 u.0 (v.2 ∙ sym u.2)) v.1)

rest_differs : {X : Type 0} (x : X) (xs : List X) → NoneTwice (x ∷ xs) → NoneTwice xs
rest_differs x xs differ i j y a b = let e = differ (suc i) (suc j) y a b in omega (arith, e)

first_differs : {X : Type 0} (x : X) (xs : List X) → NoneTwice (x ∷ xs) → Contains xs x → ⊥
first_differs x xs differ c =
    let at = at_from_contains xs x c in
    let e = differ zero (suc at.0) x refl at.1 in omega (arith, e)

in_reverse : {X : Type 0} (xs : List X) (x : X) → Contains (reverse xs) x → Contains xs x
in_reverse xs x = Contains-permutation _ _ x (IsPermutation-sym _ _ (IsPermutation-reverse xs))

reverse_differ : {X : Type 0} (xs : List X) → NoneTwice xs → NoneTwice (reverse xs)
reverse_differ [] differ = none_differ
reverse_differ (x ∷ xs) differ =
    subst NoneTwice (sym (reverse-append (x ∷ []) xs))
    (pushed_differ (reverse xs) x (reverse_differ xs (rest_differs x xs differ)) (λ c. first_differs x xs differ (in_reverse xs x c)))

-- the marks of one kind and of the other one, by node
module _ {A B : Type 0} (make : ℕ → A → B → Met) (a_of : Met → A) (b_of : Met → B)
    (node_is : (k : ℕ) (a : A) (b : B) → (make k a b).node ≡ k) (a_is : (k : ℕ) (a : A) (b : B) → a_of (make k a b) ≡ a)
    (b_is : (k : ℕ) (a : A) (b : B) → b_of (make k a b) ≡ b) (whole : (m : Met) → make m.node (a_of m) (b_of m) ≡ m) where
  pub record Fits (these : ℕ → List A) (those : ℕ → List B) (met : List Met) : Type 0 where
    pub once : NoneTwice met
    pub these_once : (k : ℕ) → NoneTwice (these k)
    pub those_once : (k : ℕ) → NoneTwice (those k)
    pub sound : (m : Met) → Contains met m → Contains (these m.node) (a_of m) × Contains (those m.node) (b_of m)
    pub all : (m : Met) → Contains (these m.node) (a_of m) → Contains (those m.node) (b_of m) → Contains met m

  -- the marks of the first kind have grown by one, which met each of the other kind
  module _ (these more : ℕ → List A) (those same : ℕ → List B) (before : List Met) (k : ℕ) (a : A) (f : Fits these those before)
      (none : Contains (these k) a → ⊥) (there : more k ≡ these k ++ a ∷ []) (elsewhere : (j : ℕ) → (j ≡ k → ⊥) → more j ≡ these j)
      (stay : (j : ℕ) → same j ≡ those j) where
    abbrev news : List Met
    news = map (make k a) (reverse (those k))

    grows : (j : ℕ) (x : A) → Contains (these j) x → Contains (more j) x
    grows j x c =
        ⊎_elim
        (λ (e : j ≡ k).
        subst (λ z. Contains (more z) x) (sym e)
        (subst (λ z. Contains z x) (sym there) (Contains-append_left (these k) (a ∷ []) x (subst (λ z. Contains (these z) x) e c))))
        (λ (other : j ≡ k → ⊥). subst (λ z. Contains z x) (sym (elsewhere j other)) c)
        (cases_eq j k)

    -- what met now
    met_now : (m : Met) → Contains news m → (m.node ≡ k) × (a_of m ≡ a) × Contains (those k) (b_of m)
    met_now m c =
        let u = unmapped_in (make k a) (reverse (those k)) m c in (
          ap (λ z. z.node) (sym u.2) ∙ node_is k a u.0,
          ap a_of (sym u.2) ∙ a_is k a u.0,
          subst (Contains (those k)) (sym (b_is k a u.0) ∙ ap b_of u.2)
              (in_reverse (those k) u.0 u.1),
        )

    apart : (m : Met) → Contains before m → Contains news m → ⊥
    apart m c d =
        let n = met_now m d in
        let s = f.sound m c in
        none (subst (λ z. Contains (these z) a) n.0 (subst (Contains (these m.node)) n.1 s.0))

    pub grown : (met : List Met) → met ≡ before ++ news → Fits more same met
    grown met is =
        record {
          once = subst NoneTwice (sym is)
              (both_differ before news f.once
              (map_differ (make k a) (λ x y e. sym (b_is k a x) ∙ ap b_of e ∙ b_is k a y) (reverse (those k)) (reverse_differ (those k) (f.those_once k)))
              apart);
          these_once = λ j.
              ⊎_elim (λ (e : j ≡ k). subst (λ z. NoneTwice (more z)) (sym e) (subst NoneTwice (sym there) (pushed_differ (these k) a (f.these_once k) none)))
              (λ (other : j ≡ k → ⊥). subst NoneTwice (sym (elsewhere j other)) (f.these_once j)) (cases_eq j k);
          those_once = λ j. subst NoneTwice (sym (stay j)) (f.those_once j);
          sound = λ m c.
              ⊎_elim
              (λ (h : Contains before m). let s = f.sound m h in (grows m.node (a_of m) s.0, subst (λ z. Contains z (b_of m)) (sym (stay m.node)) s.1))
              (λ (h : Contains news m).
              let n = met_now m h in (
                subst (λ z. Contains (more z) (a_of m)) (sym n.0)
                    (subst (λ z. Contains z (a_of m)) (sym there)
                    (subst (Contains (these k ++ a ∷ [])) (sym n.1) (Contains-append_right (these k) (a ∷ []) a (0, omega arith, refl)))),
                subst (λ z. Contains z (b_of m)) (sym (stay m.node)) (subst (λ z. Contains (those z) (b_of m)) (sym n.0) n.2),
              ))
              (Contains-append_cases before news m (subst (λ z. Contains z m) is c));
          all = λ m in_these in_those.
              let those_there : Contains (those m.node) (b_of m) = subst (λ z. Contains z (b_of m)) (stay m.node) in_those in
              let old : Contains (these m.node) (a_of m) → Contains met m = λ c.
              subst (λ z. Contains z m) (sym is) (Contains-append_left before news m (f.all m c those_there)) in
              ⊎_elim
              (λ (e : m.node ≡ k).
              ⊎_elim (λ (c : Contains (these k) (a_of m)). old (subst (λ z. Contains (these z) (a_of m)) (sym e) c))
              (λ (new : a_of m ≡ a).
              let it : make k a (b_of m) ≡ m = ap (λ z. make z a (b_of m)) (sym e) ∙ ap (λ z. make m.node z (b_of m)) (sym new) ∙ whole m in
              subst (λ z. Contains z m) (sym is)
              (Contains-append_right before news m
              (subst (Contains news) it
              (mapped_in (make k a) (reverse (those k)) (b_of m)
              (Contains-permutation _ _ (b_of m) (IsPermutation-reverse (those k)) (subst (λ z. Contains (those z) (b_of m)) e those_there))))))
              (in_pushed (these k) a (a_of m) (subst (λ z. Contains z (a_of m)) there (subst (λ z. Contains (more z) (a_of m)) e in_these))))
              (λ (other : m.node ≡ k → ⊥). old (subst (λ z. Contains z (a_of m)) (elsewhere m.node other) in_these))
              (cases_eq m.node k);
        }

  -- marks that are the same by node
  pub alike : (these more : ℕ → List A) (those same : ℕ → List B) (met : List Met) → Fits these those met → ((j : ℕ) → more j ≡ these j) →
      ((j : ℕ) → same j ≡ those j) → Fits more same met
  alike these more those same met f these_stay those_stay =
      record {
        once = f.once;
        these_once = λ j. subst NoneTwice (sym (these_stay j)) (f.these_once j);
        those_once = λ j. subst NoneTwice (sym (those_stay j)) (f.those_once j);
        sound = λ m c.
            let s = f.sound m c in
            (subst (λ z. Contains z (a_of m)) (sym (these_stay m.node)) s.0, subst (λ z. Contains z (b_of m)) (sym (those_stay m.node)) s.1);
        all = λ m c d.
            f.all m (subst (λ z. Contains z (a_of m)) (these_stay m.node) c) (subst (λ z. Contains z (b_of m)) (those_stay m.node) d);
      }

abbrev edge_made : ℕ → Edge → Pop → Met
edge_made k e p = record { node = k; edge = e; pop = p }

abbrev pop_made : ℕ → Pop → Edge → Met
pop_made k p e = record { node = k; edge = e; pop = p }

-- as edges with their pops, and as pops with their edges
abbrev EdgesFit : (ℕ → List Edge) → (ℕ → List Pop) → List Met → Type 0
EdgesFit = Fits edge_made (λ m. m.edge) (λ m. m.pop) (λ k a b. refl) (λ k a b. refl) (λ k a b. refl) (λ m. refl)

abbrev PopsFit : (ℕ → List Pop) → (ℕ → List Edge) → List Met → Type 0
PopsFit = Fits pop_made (λ m. m.pop) (λ m. m.edge) (λ k a b. refl) (λ k a b. refl) (λ k a b. refl) (λ m. refl)

turned : (es : ℕ → List Edge) (ps : ℕ → List Pop) (met : List Met) → EdgesFit es ps met → PopsFit ps es met
turned es ps met f =
    record { once = f.once; these_once = f.those_once; those_once = f.these_once; sound = λ m c. let s = f.sound m c in (s.1, s.0); all = λ m c d. f.all m d c }

turned_back : (es : ℕ → List Edge) (ps : ℕ → List Pop) (met : List Met) → PopsFit ps es met → EdgesFit es ps met
turned_back es ps met f =
    record { once = f.once; these_once = f.those_once; those_once = f.these_once; sound = λ m c. let s = f.sound m c in (s.1, s.0); all = λ m c d. f.all m d c }

edge_added : (old new : List Node) (before met : List Met) (k : ℕ) (e : Edge) → k < length old →
    EdgesFit (edges_at old) (pops_at old) before → (Contains (items_at old k) e.item → ⊥) → new ≡ with_edge old k e →
    met ≡ before ++ met_by_edge old k e → EdgesFit (edges_at new) (pops_at new) met
edge_added old new before met k e lt f none made is =
    subst (λ z. EdgesFit (edges_at z) (pops_at z) met) (sym made)
    (grown edge_made (λ m. m.edge) (λ m. m.pop) (λ k a b. refl) (λ k a b. refl) (λ k a b. refl) (λ m. refl)
    (edges_at old) (edges_at (with_edge old k e)) (pops_at old) (pops_at (with_edge old k e)) before k e f
    (λ c. none (mapped_in (λ z. z.item) (edges_at old k) e c))
    (edges_there old k e lt) (λ j other. edges_elsewhere old k j e other) (λ j. pops_stay old k j e) met is)

pop_added : (old new : List Node) (before met : List Met) (k : ℕ) (p : Pop) → k < length old →
    PopsFit (pops_at old) (edges_at old) before → (Contains (ends_at old k) p.end → ⊥) → new ≡ with_pop old k p →
    met ≡ before ++ met_by_pop old k p → PopsFit (pops_at new) (edges_at new) met
pop_added old new before met k p lt f none made is =
    subst (λ z. PopsFit (pops_at z) (edges_at z) met) (sym made)
    (grown pop_made (λ m. m.pop) (λ m. m.edge) (λ k a b. refl) (λ k a b. refl) (λ k a b. refl) (λ m. refl)
    (pops_at old) (pops_at (with_pop old k p)) (edges_at old) (edges_at (with_pop old k p)) before k p f
    (λ c. none (mapped_in (λ z. z.end) (pops_at old k) p c))
    (pops_there old k p lt) (λ j other. pops_elsewhere old k j p other) (λ j. edges_stay old k j p) met is)

node_asked : (old new : List Node) (met : List Met) (key : InstanceKey) (k : ℕ) → EdgesFit (edges_at old) (pops_at old) met →
    FindsNode old new key k ⊎ MakesNode old new key k → EdgesFit (edges_at new) (pops_at new) met
node_asked old new met key k f (inl a) = subst (λ z. EdgesFit (edges_at z) (pops_at z) met) (sym a.0) f
node_asked old new met key k f (inr a) =
    subst (λ z. EdgesFit (edges_at z) (pops_at z) met) (sym a.0)
    (alike edge_made (λ m. m.edge) (λ m. m.pop) (λ k a b. refl) (λ k a b. refl) (λ k a b. refl) (λ m. refl)
    (edges_at old) (edges_at (old ++ fresh key ∷ [])) (pops_at old) (pops_at (old ++ fresh key ∷ [])) met f
    (fresh_edges old key) (fresh_pops old key))

fits : {nodes : List Node} {met : List Met} → Runs nodes met → EdgesFit (edges_at nodes) (pops_at nodes) met
fits laws.begins =
    record {
      once = none_differ;
      these_once = λ k. none_differ;
      those_once = λ k. none_differ;
      sound = λ m c. absurd (none_in_nil m c);
      all = λ m c d. absurd (none_in_nil m.edge c);
    }
fits (laws.asks_node old new met key k run step) = node_asked old new met key k (fits run) step
fits (laws.adds_edge old new before met k e run lt none made is) = edge_added old new before met k e lt (fits run) none made is
fits (laws.adds_pop old new before met k p run lt none made is) =
    turned_back _ _ met (pop_added old new before met k p lt (turned _ _ before (fits run)) none made is)

-- the law
pub each_pair_meets_once : EachPairOnce
each_pair_meets_once nodes met run =
    let f = fits run in (f.once, (λ m. (f.sound m, λ c. f.all m c.0 c.1)))
