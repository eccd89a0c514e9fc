-- Parameters with names that differ.
use Rattle.std.proofs.Common.{◌≡◌, ◌∙◌, ℕ, zero, suc, Bool, true, false, List, [], ◌∷◌}
use Rattle.std.proofs.Common.{take, Some, refl, sym, ap, arith}
use Rattle.std.specs.Prelude.{◌≢◌, Contains, slice_get}
use Rattle.std.proofs.lemmas.Option.{same_Some}
use Rattle.std.proofs.lemmas.Bool.{or_left, or_right}
use Rattle.ig_text.proofs.Lists.{at_from_contains, from_map}
use Rattle.ig_text.proofs.Characters.{itself}
use Rattle.ig_grammar.specs.Names.{AreDistinct}
use Rattle.ig_grammar.specs.Visible.{parameters}
use Rattle.ig_grammar.specs.Visible as visible
use Rattle.ig_grammar.specs.declared.declaration.Param.{Param}
use Rattle.ig_ebnf_variables.proofs.Definitions.{has}
use Rattle.ig_ebnf_variables.proofs.VisibleKinds.{has_named}
use Rattle.ig_ebnf_variables.proofs.LoweredCalm.{Distinct}
use Rattle.ig_pass.specs.Passing.{parameter_names}
use Rattle.ig_text.specs.Words.{is_word}

first_unseen : (p : Param) (ps : List Param) → ((k : ℕ) (q : Param) → slice_get ps k ≡ Some q → q.name ≢ p.name) →
    has (parameters ps) p.name ≡ false
first_unseen p ps each = go (has (parameters ps) p.name) refl
  where
    go : (t : Bool) → has (parameters ps) p.name ≡ t → t ≡ false
    go true e =
        let at = at_from_contains (visible.names (parameters ps)) p.name (has_named (parameters ps) p.name e) in
        let pair = from_map (λ (z : List ℕ × _). z.0) (parameters ps) at.0 p.name at.1 in
        let q = from_map (λ (z : Param). (z.name, z.kind)) ps at.0 pair.0 pair.1 in
        absurd (each at.0 q.0 q.1 (sym (pair.2 ∙ ap (λ (z : List ℕ × _). z.0) q.2)))
    go false e = refl

pub distinct_parameters : (ps : List Param) →
    ((k : ℕ) (p : Param) → slice_get ps k ≡ Some p → Contains (visible.names (parameters (take k ps))) p.name → ⊥) →
    Distinct (parameters ps)
distinct_parameters [] each = tt
distinct_parameters (p ∷ ps) each = (
  first_unseen p ps (λ k q e same. each (suc k) q e (0, omega arith, sym same)),
  distinct_parameters ps
      (λ k q e among. each (suc k) q e (let l = among.1 in (suc among.0, omega (arith, l), among.2))),
)

has_at : (ps : List Param) (k : ℕ) (name : List ℕ) → slice_get (parameter_names ps) k ≡ Some name → has (parameters ps) name ≡ true
has_at [] k name e = cc
has_at (q ∷ ps) zero name e =
    or_left (is_word q.name name) (has (parameters ps) name) (ap (λ z. is_word z name) (same_Some q.name name e) ∙ itself name)
has_at (q ∷ ps) (suc k) name e = or_right (is_word q.name name) (has (parameters ps) name) (has_at ps k name e)

pub different : (ps : List Param) → Distinct (parameters ps) → AreDistinct (parameter_names ps)
different [] d i j name p q = absurd (cc)
different (x ∷ ps) d zero zero name p q = refl
different (x ∷ ps) d zero (suc j) name p q =
    let bad : true ≡ false = sym (has_at ps j name q) ∙ ap (has (parameters ps)) (sym (same_Some x.name name p)) ∙ d.0 in absurd (cc)
different (x ∷ ps) d (suc i) zero name p q =
    let bad : true ≡ false = sym (has_at ps i name p) ∙ ap (has (parameters ps)) (sym (same_Some x.name name q)) ∙ d.0 in absurd (cc)
different (x ∷ ps) d (suc i) (suc j) name p q = ap suc (different ps d.1 i j name p q)
