-- The rules of a forest, as they are gathered.
use Rattle.std.proofs.Common.{◌≡◌, ◌⊎◌, inl, inr, ℕ, suc, ◌+◌, ◌<◌, ◌≤◌, List, [], ◌∷◌, ◌++◌, Some, length, get_or, take, slice_get, Contains, sym, ap, ◌∙◌, subst, arith}
use Rattle.std.proofs.lemmas.Option.{slice_get_within}
use Rattle.std.proofs.lemmas.List.Elements.{Contains-append_left, Contains-push, Contains-push_cases}
use Rattle.std.proofs.lemmas.List.{take_all}
use Rattle.ig_text.proofs.Lists.{get_within, none_in_nil}
use Rattle.ig_text.proofs.Orders.{le_or_lt}
use Rattle.ig_forest_tables.specs.Forest.{Forest, ItemNode, IsForest, IsPrevious}
use Rattle.ig_forest_tables.specs.declared.entry.Choice.{Choice}
use Rattle.ig_forest_tables.specs.declared.entry.Entry.{Entry}
use Rattle.ig_forest_tables.specs.declared.entry.Entry.TheVariants.{Begin, Pass, Take}
use Rattle.ig_forest_tables.specs.declared.entry.Child.TheVariants as child
use Rattle.ig_heights.specs.Fits.{FitsRule, FitAll}
use Rattle.ig_heights.specs.Table.{bottom_of, entry_rule, choice_rule, choices_in, entries_in, choices_at, entries_at, IsRuleOf, IsRuleBy, IsLeastTable, Adds}
use Rattle.ig_heights.specs.Table as table
use Rattle.ig_heights.specs.declared.rule.Rule.{Rule}
use Rattle.ig_heights.specs.declared.rule.Table.{Table}
use Rattle.ig_heights.proofs.Using.{taken_only, taken_all, taken_here}

pub adds_none : (xs : List Rule) (P : Rule → Type 0) → ((r : Rule) → P r → ⊥) → Adds xs xs P
adds_none xs P never r = (λ c. inl c, λ s. elim s [ inl old ↦ old | inr p ↦ absurd (never r p) ])

adds_then : (a b c : List Rule) (P Q R : Rule → Type 0) → Adds a b P → Adds b c Q → ((r : Rule) → R r → P r ⊎ Q r) →
    ((r : Rule) → P r → R r) → ((r : Rule) → Q r → R r) → Adds a c R
adds_then a b c P Q R ab bc part left right r = (
  λ h. elim ((bc r).0 h) [
    | inl in_b ↦ elim ((ab r).0 in_b) [ inl old ↦ inl old | inr p ↦ inr (left r p) ]
    | inr q ↦ inr (right r q)
  ],
  λ s. elim s [
    | inl old ↦ (bc r).1 (inl ((ab r).1 (inl old)))
    | inr new ↦ elim (part r new) [ inl p ↦ (bc r).1 (inl ((ab r).1 (inr p))) | inr q ↦ (bc r).1 (inr q) ]
  ],
)

adds_push : (a b : List Rule) (x : Rule) → b ≡ a ++ x ∷ [] → Adds a b (λ r. r ≡ x)
adds_push a b x is r = (
  λ h. elim (Contains-push_cases a x r (subst (λ (z : List Rule). Contains z r) is h)) [ inl old ↦ inl old | inr new ↦ inr (sym new) ],
  λ s. subst (λ (z : List Rule). Contains z r) (sym is) (elim s [
    | inl old ↦ Contains-append_left a (x ∷ []) r old
    | inr new ↦ subst (Contains (a ++ x ∷ [])) (sym new) (Contains-push a x)
  ]),
)

module _ {X : Type 0} (make : X → Rule) (xs : List X) where
  pub made_none : (a : List Rule) → Adds a a (IsRuleBy make (take 0 xs))
  made_none a = adds_none a (IsRuleBy make (take 0 xs)) (λ r p. none_in_nil p.one p.among)

  pub made_next : (a b c : List Rule) (i : ℕ) (d : X) (rule : Rule) → i < length xs → Adds a b (IsRuleBy make (take i xs)) →
      c ≡ b ++ rule ∷ [] → rule ≡ make (get_or xs i d) → Adds a c (IsRuleBy make (take (i + 1) xs))
  made_next a b c i d rule less ab is rule_is =
      adds_then a b c (IsRuleBy make (take i xs)) (λ r. r ≡ rule) (IsRuleBy make (take (i + 1) xs)) ab (adds_push b c rule is)
      (λ r p. elim (taken_only xs i d less p.one p.among) [
        | inl old ↦ inl (record { one = p.one; among = old; is = p.is })
        | inr same ↦ inr (p.is ∙ ap make same ∙ sym rule_is)
      ])
      (λ r p. record { one = p.one; among = taken_all xs i d less p.one p.among; is = p.is })
      (λ r e. record { one = get_or xs i d; among = taken_here xs i d less; is = e ∙ rule_is })

  pub made_all : (a b : List Rule) (n : ℕ) → length xs ≤ n → Adds a b (IsRuleBy make (take n xs)) → Adds a b (IsRuleBy make xs)
  made_all a b n past adds = subst (λ (z : List X). Adds a b (IsRuleBy make z)) (take_all n xs past) adds

  pub made_nil : (a : List Rule) → [] ≡ xs → Adds a a (IsRuleBy make xs)
  made_nil a is = subst (λ (z : List X). Adds a a (IsRuleBy make z)) is (adds_none a (IsRuleBy make []) (λ r p. none_in_nil p.one p.among))

module _ (f : Forest) where
  abbrev N : ℕ
  N = length f.nodes

  pub rules_none : (a : List Rule) → Adds a a (IsRuleOf f 0 0)
  rules_none a = adds_none a (IsRuleOf f 0 0) never
    where
      never : (r : Rule) → IsRuleOf f 0 0 r → ⊥
      never r (table.entry k it e less has among is) = omega (arith, less)
      never r (table.choice v node c less has among is) = omega (arith, less)

  pub nodes_next : (a b c : List Rule) (v nodes bottom : ℕ) → v < length f.nodes → nodes ≡ length f.nodes → bottom ≡ bottom_of f →
      Adds a b (IsRuleOf f v 0) → Adds b c (IsRuleBy (choice_rule nodes bottom v) (choices_at f v)) → Adds a c (IsRuleOf f (v + 1) 0)
  nodes_next a b c v nodes bottom inside many base ab bc =
      adds_then a b c (IsRuleOf f v 0) (IsRuleBy (choice_rule nodes bottom v) (choices_at f v)) (IsRuleOf f (v + 1) 0) ab bc
      part left right
    where
      make_is : (c : Choice) → choice_rule nodes bottom v c ≡ choice_rule (length f.nodes) (bottom_of f) v c
      make_is c = ap (λ (n : ℕ). choice_rule n bottom v c) many ∙ ap (λ (n : ℕ). choice_rule (length f.nodes) n v c) base

      part : (r : Rule) → IsRuleOf f (v + 1) 0 r → IsRuleOf f v 0 r ⊎ IsRuleBy (choice_rule nodes bottom v) (choices_at f v) r
      part r (table.entry k it e less has among is) = absurd (omega (arith, less))
      part r (table.choice u node c less has among is) =
          elim (le_or_lt v u) [
            | inr before ↦ inl (table.choice u node c before has among is)
            | inl past ↦
                let same : u ≡ v = omega (arith, past, less) in
                let at_v : choices_at f v ≡ node.alternatives = ap (λ (n : ℕ). choices_at f n) (sym same) ∙ ap choices_in has in
                inr (record {
                  one = c;
                  among = subst (λ (z : List Choice). Contains z c) (sym at_v) among;
                  is = is ∙ ap (λ (n : ℕ). choice_rule (length f.nodes) (bottom_of f) n c) same ∙ sym (make_is c);
                })
          ]

      left : (r : Rule) → IsRuleOf f v 0 r → IsRuleOf f (v + 1) 0 r
      left r (table.entry k it e less has among is) = absurd (omega (arith, less))
      left r (table.choice u node c less has among is) = table.choice u node c (omega (arith, less)) has among is

      right : (r : Rule) → IsRuleBy (choice_rule nodes bottom v) (choices_at f v) r → IsRuleOf f (v + 1) 0 r
      right r p =
          let n = get_within f.nodes v inside in
          table.choice v n.0 p.one (omega arith) n.1 (subst (λ (z : List Choice). Contains z p.one) (ap choices_in n.1) p.among)
          (p.is ∙ make_is p.one)

  pub items_next : (a b c : List Rule) (k nodes bottom : ℕ) → k < length f.items → nodes ≡ length f.nodes → bottom ≡ bottom_of f →
      Adds a b (IsRuleOf f 0 k) → Adds b c (IsRuleBy (entry_rule nodes bottom k) (entries_at f k)) → Adds a c (IsRuleOf f 0 (k + 1))
  items_next a b c k nodes bottom inside many base ab bc =
      adds_then a b c (IsRuleOf f 0 k) (IsRuleBy (entry_rule nodes bottom k) (entries_at f k)) (IsRuleOf f 0 (k + 1)) ab bc
      part left right
    where
      make_is : (e : Entry) → entry_rule nodes bottom k e ≡ entry_rule (length f.nodes) (bottom_of f) k e
      make_is e = ap (λ (n : ℕ). entry_rule n bottom k e) many ∙ ap (λ (n : ℕ). entry_rule (length f.nodes) n k e) base

      part : (r : Rule) → IsRuleOf f 0 (k + 1) r → IsRuleOf f 0 k r ⊎ IsRuleBy (entry_rule nodes bottom k) (entries_at f k) r
      part r (table.choice u node c less has among is) = absurd (omega (arith, less))
      part r (table.entry j it e less has among is) =
          elim (le_or_lt k j) [
            | inr before ↦ inl (table.entry j it e before has among is)
            | inl past ↦
                let same : j ≡ k = omega (arith, past, less) in
                let at_k : entries_at f k ≡ it.entries = ap (λ (n : ℕ). entries_at f n) (sym same) ∙ ap entries_in has in
                inr (record {
                  one = e;
                  among = subst (λ (z : List Entry). Contains z e) (sym at_k) among;
                  is = is ∙ ap (λ (n : ℕ). entry_rule (length f.nodes) (bottom_of f) n e) same ∙ sym (make_is e);
                })
          ]

      left : (r : Rule) → IsRuleOf f 0 k r → IsRuleOf f 0 (k + 1) r
      left r (table.choice u node c less has among is) = absurd (omega (arith, less))
      left r (table.entry j it e less has among is) = table.entry j it e (omega (arith, less)) has among is

      right : (r : Rule) → IsRuleBy (entry_rule nodes bottom k) (entries_at f k) r → IsRuleOf f 0 (k + 1) r
      right r p =
          let n = get_within f.items k inside in
          table.entry k n.0 p.one (omega arith) n.1 (subst (λ (z : List Entry). Contains z p.one) (ap entries_in n.1) p.among)
          (p.is ∙ make_is p.one)

  pub upto_nodes : (a b : List Rule) (v nodes : ℕ) → v ≤ nodes → nodes ≤ v → nodes ≡ length f.nodes → Adds a b (IsRuleOf f v 0) →
      Adds a b (IsRuleOf f (length f.nodes) 0)
  upto_nodes a b v nodes low high is adds =
      let e : v ≡ length f.nodes = omega (arith, low, high, is) in subst (λ (n : ℕ). Adds a b (IsRuleOf f n 0)) e adds

  pub upto_items : (a b : List Rule) (k items : ℕ) → k ≤ items → items ≤ k → items ≡ length f.items → Adds a b (IsRuleOf f 0 k) →
      Adds a b (IsRuleOf f 0 (length f.items))
  upto_items a b k items low high is adds =
      let e : k ≡ length f.items = omega (arith, low, high, is) in subst (λ (n : ℕ). Adds a b (IsRuleOf f 0 n)) e adds

  -- the numbers of a forest's rules are there
  module _ (good : IsForest f) where
    prev_there : (dot prev : ℕ) → IsPrevious f dot prev → prev < length f.items
    prev_there dot prev p = slice_get_within f.items prev p.it p.there

    entry_fits : (k : ℕ) (it : ItemNode) (e : Entry) → k < length f.items → slice_get f.items k ≡ Some it → Contains it.entries e →
        FitsRule (suc (bottom_of f)) (entry_rule (length f.nodes) (bottom_of f) k e)
    entry_fits k it Begin less has among = record { target = omega (arith, less); left = omega arith; right = omega arith }
    entry_fits k it (Pass prev) less has among =
        let p = prev_there it.dot prev (good.entries k it (Pass prev) has among) in
        record { target = omega (arith, less); left = omega (arith, p); right = omega arith }
    entry_fits k it (Take prev (child.Leaf span)) less has among =
        let p = prev_there it.dot prev (good.entries k it (Take prev (child.Leaf span)) has among) in
        record { target = omega (arith, less); left = omega (arith, p); right = omega arith }
    entry_fits k it (Take prev (child.Node v)) less has among =
        let g = good.entries k it (Take prev (child.Node v)) has among in
        let p = prev_there it.dot prev g.0 in let v_there = g.1 in
        record { target = omega (arith, less); left = omega (arith, p); right = omega (arith, v_there) }

    rule_fits : (r : Rule) → IsRuleOf f (length f.nodes) (length f.items) r → FitsRule (suc (bottom_of f)) r
    rule_fits r (table.entry k it e less has among is) =
        subst (FitsRule (suc (bottom_of f))) (sym is) (entry_fits k it e less has among)
    rule_fits r (table.choice v node c less has among is) =
        let i = good.alternatives v node c has among in
        subst (FitsRule (suc (bottom_of f))) (sym is)
        (record { target = omega (arith, less); left = omega (arith, i); right = omega arith })

    widen_nodes : (r : Rule) → IsRuleOf f (length f.nodes) 0 r → IsRuleOf f (length f.nodes) (length f.items) r
    widen_nodes r (table.entry k it e less has among is) = absurd (omega (arith, less))
    widen_nodes r (table.choice v node c less has among is) = table.choice v node c less has among is

    widen_items : (r : Rule) → IsRuleOf f 0 (length f.items) r → IsRuleOf f (length f.nodes) (length f.items) r
    widen_items r (table.choice v node c less has among is) = absurd (omega (arith, less))
    widen_items r (table.entry k it e less has among is) = table.entry k it e less has among is

    parted : (r : Rule) → IsRuleOf f (length f.nodes) (length f.items) r →
        IsRuleOf f (length f.nodes) 0 r ⊎ IsRuleOf f 0 (length f.items) r
    parted r (table.choice v node c less has among is) = inl (table.choice v node c less has among is)
    parted r (table.entry k it e less has among is) = inr (table.entry k it e less has among is)

    module _ (a b rs : List Rule) (none : a ≡ []) (first : Adds a b (IsRuleOf f (length f.nodes) 0))
        (second : Adds b rs (IsRuleOf f 0 (length f.items))) where
      all_sound : (r : Rule) → Contains rs r → IsRuleOf f (length f.nodes) (length f.items) r
      all_sound r c =
          elim ((second r).0 c) [
            | inl in_b ↦ elim ((first r).0 in_b) [
              | inl in_a ↦ absurd (none_in_nil r (subst (λ (z : List Rule). Contains z r) none in_a))
              | inr p ↦ widen_nodes r p
            ]
            | inr p ↦ widen_items r p
          ]

      all_there : (r : Rule) → IsRuleOf f (length f.nodes) (length f.items) r → Contains rs r
      all_there r p = elim (parted r p) [ inl q ↦ (second r).1 (inl ((first r).1 (inr q))) | inr q ↦ (second r).1 (inr q) ]

      pub all_fit : (parts : ℕ) → parts ≡ suc (bottom_of f) → FitAll parts rs
      all_fit parts is r c = subst (λ (n : ℕ). FitsRule n r) (sym is) (rule_fits r (all_sound r c))

    pub table_least : (t : Table) (a b : List Rule) → t.nodes ≡ length f.nodes → t.bottom ≡ bottom_of f → t.parts ≡ suc t.bottom →
        a ≡ [] → Adds a b (IsRuleOf f (length f.nodes) 0) → Adds b t.rules.items (IsRuleOf f 0 (length f.items)) → IsLeastTable f t
    table_least t a b nodes bottom parts none first second = record {
      nodes = nodes;
      bottom = bottom;
      parts = parts;
      sound = all_sound a b t.rules.items none first second;
      whole = all_there a b t.rules.items none first second;
    }
