-- Item nodes from which links lead to two entries, the marks that tell of them, and the nodes that they make ambiguous.
use Rattle.std.proofs.Common.{◌≡◌, ◌↔◌, ◌⊎◌, ⊎_elim, inl, inr, ℕ, zero, suc, ◌+◌, ◌<◌, ◌≤◌, List, [], ◌∷◌, ◌++◌, Some, None, Option, Bool, true, IsTrue, length, slice_get, Contains, refl, sym, ap, ◌∙◌, subst, arith}
use Rattle.std.specs.Prelude.{slice_index}
use Rattle.std.specs.List.Sorted.{IsStrictlyIncreasing}
use Rattle.std.proofs.lemmas.Option.{same_Some, slice_get_within}
use Rattle.std.proofs.lemmas.List.Elements.{Contains-push}
use Rattle.std.proofs.lemmas.Bool.{cases_lt}
use Rattle.std.proofs.lemmas.List.{length_push}
use Rattle.ig_text.proofs.Lists.{in_pushed, at_from_contains, contains_from_at, get_within, none_in_nil, place_cases}
use Rattle.ig_forest_tables.specs.Forest.{Forest, Node, ItemNode, PreviousIsBefore}
use Rattle.ig_forest_tables.specs.Unfold.{IsTrim}
use Rattle.ig_forest_tables.specs.declared.entry.Choice.{Choice}
use Rattle.ig_forest_tables.specs.declared.entry.Entry.{Entry}
use Rattle.ig_forest_tables.specs.declared.entry.Entry.TheVariants.{Begin, Pass, Take}
use Rattle.ig_query.specs.Ambiguity as forked
use Rattle.ig_query.specs.Ambiguity.{AreAmbiguous, IsAmbiguous, IsForked, link}
use Rattle.ig_query.specs.CodeAmbiguity.{AreMarks, AreNumbers, HasChoice, HasFork, IsMarked, IsNumber, LeadsToMark, LinksToMark}
use Rattle.ig_query.proofs.Through.{old_in}

-- a mark at an optional number
record MarkedAt (o : Option ℕ) (marks : List Bool) : Type 0 where
  number : ℕ
  is : o ≡ Some number
  at : slice_get marks number ≡ Some true

marked_at : (o : Option ℕ) (marks : List Bool) → IsMarked o marks → MarkedAt o marks
marked_at None marks m = absurd m
marked_at (Some k) marks m = record { number = k; is = refl; at = m }

to_marked : (o : Option ℕ) (marks : List Bool) (k : ℕ) → o ≡ Some k → slice_get marks k ≡ Some true → IsMarked o marks
to_marked o marks k e at = subst (λ (z : Option ℕ). IsMarked z marks) (sym e) at

link_before : (k prev : ℕ) (e : Entry) → PreviousIsBefore k e → link e ≡ Some prev → prev < k
link_before k prev Begin before l = cc
link_before k prev (Pass p) before l = let same : p ≡ prev = same_Some p prev l in omega (arith, before, same)
link_before k prev (Take p child) before l = let same : p ≡ prev = same_Some p prev l in omega (arith, before, same)

module _ (f : Forest) where
  pub marks_begin : (marks : List Bool) → marks ≡ [] → AreMarks f 0 marks
  marks_begin marks e =
      record {
        number = ap length e;
        each = λ k mark at. let no : slice_get [] k ≡ Some mark = subst (λ (z : List Bool). slice_get z k ≡ Some mark) e at in cc;
      }

  module _ (trim : IsTrim f) (k : ℕ) (it : ItemNode) (marks : List Bool) (are : AreMarks f k marks) (there : slice_get f.items k ≡ Some it) where
    to_fork : LinksToMark it.entries marks → IsForked f k
    to_fork (inl two) = forked.here k it there two
    to_fork (inr (e, among, marked)) =
        let m = marked_at (link e) marks marked in
        forked.behind k m.number it e there among m.is ((are.each m.number true m.at).0 refl)

    from_fork_at : (j : ℕ) → IsForked f j → j ≡ k → LinksToMark it.entries marks
    from_fork_at j (forked.here i other at two) same =
        let is : other ≡ it = same_Some other it (sym at ∙ ap (slice_get f.items) same ∙ there) in
        inl (subst (λ (z : ItemNode). 1 < length z.entries) is two)
    from_fork_at j (forked.behind i prev other e at among l fork) same =
        let is : other ≡ it = same_Some other it (sym at ∙ ap (slice_get f.items) same ∙ there) in
        let inside : Contains it.entries e = subst (λ (z : ItemNode). Contains z.entries e) is among in
        let lt : prev < k = link_before k prev e (trim.onward k it e there inside) l in
        let number_is = are.number in
        let m = get_within marks prev (omega (arith, lt, number_is)) in
        let on : m.0 ≡ true = (are.each prev m.0 m.1).1 fork in
        inr (e, inside, to_marked (link e) marks prev l (m.1 ∙ ap Some on))

    pub marks_next : (mark : Bool) (more : List Bool) → IsTrue mark ↔ LinksToMark it.entries marks → more ≡ marks ++ mark ∷ [] →
        AreMarks f (k + 1) more
    marks_next mark more links is =
        record {
          number = let n = are.number in let l = ap length is in let a = length_push marks mark in omega (arith, n, l, a);
          each = λ j b at.
              ⊎_elim (λ old. are.each j b old)
              (λ new.
              let here : j ≡ k = new.0 ∙ are.number in
              let same : mark ≡ b = new.1 in (
                λ t. subst (IsForked f) (sym here) (to_fork (links.0 (same ∙ t))),
                λ fork. sym same ∙ links.1 (from_fork_at j fork here),
              ))
              (place_cases marks mark b j (subst (λ (z : List Bool). slice_get z j ≡ Some b) is at));
        }

-- the only member of a list, if any, and its mark
module _ {X : Type 0} (P : X → Type 0) (xs : List X) where
  abbrev pub TwoOrOne : Type 0
  TwoOrOne = (1 < length xs) ⊎ ((x : X) × Contains xs x × P x)

  only_one : (x y : X) → length xs ≤ 1 → slice_get xs 0 ≡ Some x → Contains xs y → y ≡ x
  only_one x y few first c =
      let at = at_from_contains xs y c in
      let within = slice_get_within xs at.0 y at.1 in
      let here : at.0 ≡ 0 = omega (arith, within, few) in
      same_Some y x (sym at.1 ∙ ap (slice_get xs) here ∙ first)

  pub of_one : (x : X) (mark : Bool) → length xs ≤ 1 → slice_get xs 0 ≡ Some x → IsTrue mark ↔ P x → IsTrue mark ↔ TwoOrOne
  of_one x mark few first is = (
    λ t. inr (x, contains_from_at xs 0 x first, is.0 t),
    λ w. is.1 (⊎_elim (λ two. absurd (omega (arith, two, few))) (λ r. subst P (only_one x r.0 few first r.1) r.2) w),
  )

  pub of_none : length xs ≤ 1 → slice_get xs 0 ≡ None → TwoOrOne → ⊥
  of_none few none (inl two) = omega (arith, two, few)
  of_none few none (inr r) =
      let at = at_from_contains xs r.0 r.1 in
      let within = slice_get_within xs at.0 r.0 at.1 in
      let here : at.0 ≡ 0 = omega (arith, within, few) in
      let no : None ≡ Some r.0 = sym none ∙ ap (slice_get xs) (sym here) ∙ at.1 in cc

-- numbers below k, and k behind them
rising_more : (xs : List ℕ) (k : ℕ) → IsStrictlyIncreasing xs → ((v : ℕ) → Contains xs v → v < k) → IsStrictlyIncreasing (xs ++ k ∷ [])
rising_more [] k rising below j lt = absurd (omega (arith, lt))
rising_more (x ∷ []) k rising below zero lt = below x (contains_from_at (x ∷ []) 0 x refl)
rising_more (x ∷ []) k rising below (suc j) lt = absurd (omega (arith, lt))
rising_more (x ∷ y ∷ ys) k rising below zero lt = rising 0 (omega arith)
rising_more (x ∷ y ∷ ys) k rising below (suc j) lt =
    let more : suc (j + 1) ≡ suc j + 1 = omega arith in
    subst (λ n. slice_index (y ∷ ys ++ k ∷ []) j < slice_index (x ∷ y ∷ ys ++ k ∷ []) n) more
    (rising_more (y ∷ ys) k
    (λ i within.
    let next : suc i + 1 ≡ suc (i + 1) = omega arith in
    subst (λ n. slice_index (y ∷ ys) i < slice_index (x ∷ y ∷ ys) n) next (rising (suc i) (omega (arith, within))))
    (λ v c. let at = at_from_contains (y ∷ ys) v c in below v (contains_from_at (x ∷ y ∷ ys) (suc at.0) v at.1)) j (omega (arith, lt)))

module _ (f : Forest) (marks : List Bool) where
  pub numbers_begin : (numbers : List ℕ) → numbers ≡ [] → AreNumbers f marks 0 numbers
  numbers_begin numbers e =
      subst (λ (z : List ℕ). AreNumbers f marks 0 z) (sym e)
      (record {
        members = λ v. (λ c. absurd (none_in_nil v c), λ n. let low = n.below in absurd (omega (arith, low)));
        order = λ k lt. absurd (omega (arith, lt));
      })

  module _ (k : ℕ) (node : Node) (numbers : List ℕ) (are : AreNumbers f marks k numbers) (there : slice_get f.nodes k ≡ Some node) where
    later : (v : ℕ) → IsNumber f marks k v → IsNumber f marks (k + 1) v
    later v n =
        record { node = n.node; below = let low = n.below in omega (arith, low); there = n.there; leads = n.leads }

    this_or_earlier : (v : ℕ) → IsNumber f marks (k + 1) v → IsNumber f marks k v ⊎ ((v ≡ k) × LeadsToMark node.alternatives marks)
    this_or_earlier v n = by (cases_lt v k)
      where
        by : (v < k) ⊎ (k ≤ v) → IsNumber f marks k v ⊎ ((v ≡ k) × LeadsToMark node.alternatives marks)
        by (inl lt) = inl (record { node = n.node; below = lt; there = n.there; leads = n.leads })
        by (inr le) =
            let low = n.below in
            let same : v ≡ k = omega (arith, le, low) in
            let is : n.node ≡ node = same_Some n.node node (sym n.there ∙ ap (slice_get f.nodes) same ∙ there) in
            inr (same, subst (λ (z : Node). LeadsToMark z.alternatives marks) is n.leads)

    pub numbers_without : (LeadsToMark node.alternatives marks → ⊥) → AreNumbers f marks (k + 1) numbers
    numbers_without never =
        record {
          members = λ v. (
            λ c. later v ((are.members v).0 c),
            λ n. ⊎_elim (λ m. (are.members v).1 m) (λ p. absurd (never p.1)) (this_or_earlier v n),
          );
          order = are.order;
        }

    pub numbers_with : (more : List ℕ) → LeadsToMark node.alternatives marks → more ≡ numbers ++ k ∷ [] → AreNumbers f marks (k + 1) more
    numbers_with more leads is =
        subst (λ (z : List ℕ). AreNumbers f marks (k + 1) z) (sym is)
        (record {
          members = λ v. (
            λ c.
                ⊎_elim (λ old. later v ((are.members v).0 old))
                (λ same.
                record {
                  node = node;
                  below = omega (arith, same);
                  there = ap (slice_get f.nodes) same ∙ there;
                  leads = leads;
                })
                (in_pushed numbers k v c),
            λ n.
                ⊎_elim (λ m. old_in numbers k v ((are.members v).1 m))
                (λ p. subst (Contains (numbers ++ k ∷ [])) (sym p.0) (Contains-push numbers k)) (this_or_earlier v n),
          );
          order = rising_more numbers k are.order (λ v c. ((are.members v).0 c).below);
        })

module _ (f : Forest) where
  -- the numbers of nodes that lead to a mark are those of the ambiguous nodes
  pub are_ambiguous : IsTrim f → (marks : List Bool) (numbers : List ℕ) → AreMarks f (length f.items) marks →
      AreNumbers f marks (length f.nodes) numbers → AreAmbiguous f numbers
  are_ambiguous trim marks numbers are found =
      record {
        members = λ v. (
          λ c. let n = (found.members v).0 c in record { node = n.node; there = n.there; ways = to_ways n.node n.leads },
          λ a.
              (found.members v).1
              (record {
                node = a.node;
                below = slice_get_within f.nodes v a.node a.there;
                there = a.there;
                leads = from_ways v a.node a.there a.ways;
              }),
        );
        order = found.order;
      }
    where
      to_ways : (node : Node) → LeadsToMark node.alternatives marks →
          (1 < length node.alternatives) ⊎ ((choice : Choice) × Contains node.alternatives choice × IsForked f choice.item)
      to_ways node (inl two) = inl two
      to_ways node (inr (choice, among, at)) = inr (choice, among, (are.each choice.item true at).0 refl)

      from_ways : (v : ℕ) (node : Node) → slice_get f.nodes v ≡ Some node →
          (1 < length node.alternatives) ⊎ ((choice : Choice) × Contains node.alternatives choice × IsForked f choice.item) →
          LeadsToMark node.alternatives marks
      from_ways v node there (inl two) = inl two
      from_ways v node there (inr (choice, among, fork)) =
          let within = trim.forest.alternatives v node choice there among in
          let number_is = are.number in
          let m = get_within marks choice.item (omega (arith, within, number_is)) in
          inr (choice, among, m.1 ∙ ap Some ((are.each choice.item m.0 m.1).1 fork))

  -- an ambiguous node means two alternatives or two entries
  fork_there : (k : ℕ) → IsForked f k → HasFork f
  fork_there k (forked.here i it at two) = record { number = k; item = it; there = at; two = two }
  fork_there k (forked.behind i prev it e at among l fork) = fork_there prev fork

  pub two_somewhere : IsAmbiguous f → HasChoice f ⊎ HasFork f
  two_somewhere (v, a) =
      ⊎_elim (λ two. inl (record { number = v; node = a.node; there = a.there; two = two }))
      (λ r. inr (fork_there r.0.item r.2)) a.ways

  pub from_choice : HasChoice f → IsAmbiguous f
  from_choice h = (h.number, record { node = h.node; there = h.there; ways = inl h.two })
