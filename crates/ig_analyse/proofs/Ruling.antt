-- What the rules of a core grammar derive is what is made.
use Rattle.std.proofs.Common.{◌≡◌, inl, inr, ◌∙◌, ℕ, zero, suc, ◌+◌, List, [], ◌∷◌, Some, Bool, true, false, ◌&&◌, if◌then◌else◌, Contains, length, slice_get, refl, sym, ap, subst, arith}
use Rattle.std.proofs.lemmas.List.Elements.{Contains-append_left, Contains-append_right, Contains-append_cases}
use Rattle.std.proofs.lemmas.Option.{slice_get_within, same_Some}
use Rattle.ig_text.proofs.Lists.{none_in_nil, contains_first, contains_one, at_from_contains, contains_from_at}
use Rattle.ig_item.specs.WellKinded.{IsWellKinded}
use Rattle.ig_item.specs.declared.core_grammar.Nonterminal.{Nonterminal}
use Rattle.ig_item.specs.declared.core_grammar.CoreAlt.{CoreAlt}
use Rattle.ig_analyse.specs.Steps.{callees, has_terminal}
use Rattle.ig_analyse.specs.Facts.{IsMade, by}
use Rattle.ig_analyse.specs.Marks.{MarkExactly}
use Rattle.ig_analyse.specs.Rules.{rule_of, rules_of, rules_from, IsDerived, derive, AreInside, MarkDerived}
use Rattle.ig_analyse.specs.declared.rules.Rule.{Rule}
use Rattle.ig_analyse.proofs.Calling.{flattened, flattens, callee_within}

abbrev rule_for : ℕ → CoreAlt → Rule
rule_for n a = record { head = n; callees = callees a.steps }

second_false : (b d : Bool) → b ≡ true → (b && d) ≡ false → d ≡ false
second_false b d t e = sym (ap (λ z. z && d) t) ∙ e

not_both : (b d : Bool) → (b ≡ true → d ≡ false) → (b && d) ≡ false
not_both true d h = h refl
not_both false d h = refl

module _ (bare : Bool) where
  -- the rule comes from an alternative of these nonterminals, which have the numbers from n on
  record Comes (n : ℕ) (xs : List Nonterminal) (rule : Rule) : Type 0 where
    place : ℕ
    k : ℕ
    nonterminal : Nonterminal
    alternative : CoreAlt
    there : slice_get xs place ≡ Some nonterminal
    has : slice_get nonterminal.alternatives k ≡ Some alternative
    head : rule.head ≡ n + place
    called : rule.callees ≡ callees alternative.steps
    quiet : bare ≡ true → has_terminal alternative.steps ≡ false

  of_alternative : (n : ℕ) (a : CoreAlt) (rule : Rule) → Contains (rule_of bare n a) rule →
      (rule.head ≡ n) × (rule.callees ≡ callees a.steps) × (bare ≡ true → has_terminal a.steps ≡ false)
  of_alternative n a rule c =
      (elim (bare && has_terminal a.steps) as (λ v. (bare && has_terminal a.steps) ≡ v →
      (rule.head ≡ n) × (rule.callees ≡ callees a.steps) × (bare ≡ true → has_terminal a.steps ≡ false)) [
        | true ↦ λ e. absurd (none_in_nil rule (subst (λ z. Contains (if z then [] else rule_for n a ∷ []) rule) e c))
        | false ↦ λ e.
            let is : rule ≡ rule_for n a = contains_one (rule_for n a) rule (subst (λ z. Contains (if z then [] else rule_for n a ∷ []) rule) e c) in
            (ap (λ (z : Rule). z.head) is, ap (λ (z : Rule). z.callees) is, λ b. second_false bare (has_terminal a.steps) b e)
      ])
      refl

  comes : (n : ℕ) (xs : List Nonterminal) (rule : Rule) → Contains (rules_from bare n xs) rule → Comes n xs rule
  comes n [] rule c = absurd (none_in_nil rule c)
  comes n (x ∷ xs) rule c = elim (Contains-append_cases (rules_of bare n x) (rules_from bare (suc n) xs) rule c) [
    | inl own ↦
        let f = flattened (rule_of bare n) x.alternatives rule own in
        let a = of_alternative n f.1 rule f.3 in
        let h = a.0 in
        record {
          place = 0;
          k = f.0;
          nonterminal = x;
          alternative = f.1;
          there = refl;
          has = f.2;
          head = omega (arith, h);
          called = a.1;
          quiet = a.2;
        }
    | inr later ↦
        let r = comes (suc n) xs rule later in
        let h = r.head in
        record {
          place = suc r.place;
          k = r.k;
          nonterminal = r.nonterminal;
          alternative = r.alternative;
          there = r.there;
          has = r.has;
          head = omega (arith, h);
          called = r.called;
          quiet = r.quiet;
        }
  ]

  -- and each alternative has its rule
  its_rule : (n m : ℕ) (a : CoreAlt) → n ≡ m → (bare ≡ true → has_terminal a.steps ≡ false) →
      Contains (rule_of bare n a) (record { head = m; callees = callees a.steps })
  its_rule n m a same quiet =
      subst (λ z. Contains (rule_of bare n a) (record { head = z; callees = callees a.steps })) same
      (subst (λ z. Contains (if z then [] else rule_for n a ∷ []) (rule_for n a)) (sym (not_both bare (has_terminal a.steps) quiet)) (contains_first (rule_for n a) []))

  goes : (n m : ℕ) (xs : List Nonterminal) (place k : ℕ) (x : Nonterminal) (a : CoreAlt) → slice_get xs place ≡ Some x →
      slice_get x.alternatives k ≡ Some a → n + place ≡ m → (bare ≡ true → has_terminal a.steps ≡ false) →
      Contains (rules_from bare n xs) (record { head = m; callees = callees a.steps })
  goes n m [] place k x a there has e quiet = absurd (cc)
  goes n m (y ∷ ys) zero k x a there has e quiet =
      let same : y ≡ x = same_Some y x there in
      let it : Rule = record { head = m; callees = callees a.steps } in
      Contains-append_left (rules_of bare n y) (rules_from bare (suc n) ys) it
      (flattens (rule_of bare n) y.alternatives k it a (ap (λ (z : Nonterminal). slice_get z.alternatives k) same ∙ has)
      (its_rule n m a (omega (arith, e)) quiet))
  goes n m (y ∷ ys) (suc place) k x a there has e quiet =
      Contains-append_right (rules_of bare n y) (rules_from bare (suc n) ys) (record { head = m; callees = callees a.steps })
      (goes (suc n) m ys place k x a there has (omega (arith, e)) quiet)

  module _ (core : List Nonterminal) where
    abbrev rules : List Rule
    rules = rules_from bare 0 core

    derived_made : (n : ℕ) → IsDerived rules n → IsMade core bare n
    derived_made n (derive k _ rule there head each) =
        let c = comes 0 core rule (contains_from_at rules k rule there) in
        let h = c.head in
        let place : c.place ≡ n = omega (arith, h, head) in
        by n (suc c.k) c.nonterminal c.alternative (record { there = ap (slice_get core) (sym place) ∙ c.there; has = c.has }) c.quiet
        (λ m called. derived_made m (each m (subst (λ z. Contains z m) (sym c.called) called)))

    made_derived : (n : ℕ) → IsMade core bare n → IsDerived rules n
    made_derived n (by _ zero nonterminal alternative has quiet made) = let h = has.has in absurd (cc)
    made_derived n (by _ (suc a) nonterminal alternative has quiet made) =
        let c = goes 0 n core n a nonterminal alternative has.there has.has (omega arith) quiet in
        let at = at_from_contains rules (record { head = n; callees = callees alternative.steps }) c in
        derive at.0 n (record { head = n; callees = callees alternative.steps }) at.1 refl (λ m called. made_derived m (made m called))

    pub rules_inside : IsWellKinded core → AreInside (length core) rules
    rules_inside kinded =
        record {
          heads = λ k rule there.
              let c = comes 0 core rule (contains_from_at rules k rule there) in
              let l = slice_get_within core c.place c.nonterminal c.there in
              let h = c.head in omega (arith, l, h);
          callees = λ k m rule there called.
              let c = comes 0 core rule (contains_from_at rules k rule there) in
              callee_within core kinded c.place (suc c.k) c.nonterminal c.alternative (record { there = c.there; has = c.has }) m
              (subst (λ z. Contains z m) c.called called);
        }

    pub marks_made : (marks : List Bool) → MarkDerived (length core) rules marks → MarkExactly core (IsMade core bare) marks
    marks_made marks d =
        record { long = d.long; same = λ n. (λ h. derived_made n ((d.same n).0 h), λ m. (d.same n).1 (made_derived n m)) }
