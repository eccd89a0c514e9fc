-- For the proof checker alone: a reader need not read this file.
-- How steps are stored.
use Rattle.std.specs.Prelude.{◌≡◌, ◌⊎◌, ℕ, List, Option, refl}
use Rattle.std.specs.Coded.{Coded, code_by, coded_ℕ, coded_list, coded_option, coded×, coded⊎}
use Rattle.std.proofs.Common.{inl, inr}
use Rattle.ig_text.specs.declared.pattern.Pattern.{Pattern}
use Rattle.ig_text.specs.contracts.pattern.Pattern as pattern
use Rattle.ig_expr.specs.Expression.{Expression}
use Rattle.ig_expr.specs.Stored.{expression_code}
use Rattle.ig_item.specs.Step.{Step, Test, Bind, Term, Call}

-- a step stored as the parts of its form, from which it is read back: so a proof tells steps apart
abbrev pub Ending : Type 0
Ending = Option (List ℕ) × List Pattern

abbrev pub Parts : Type 0
Parts = Expression ⊎ ((List ℕ × Expression) ⊎ ((Pattern × Ending) ⊎ ((ℕ × List Expression) × Ending)))

abbrev pub coded_word : Coded (List ℕ)
coded_word = coded_list coded_ℕ

abbrev pub coded_ending : Coded Ending
coded_ending = coded× (coded_option coded_word) (coded_list pattern.the_row.coded)

abbrev pub coded_parts : Coded Parts
coded_parts =
    coded⊎ expression_code (coded⊎ (coded× coded_word expression_code) (coded⊎ (coded× pattern.the_row.coded coded_ending) (coded× (coded× coded_ℕ (coded_list expression_code)) coded_ending)))

abbrev pub parts_of : Step → Parts
parts_of (Test e) = inl e
parts_of (Bind x e) = inr (inl (x, e))
parts_of (Term what label excluded) = inr (inr (inl (what, (label, excluded))))
parts_of (Call callee arguments label excluded) = inr (inr (inr ((callee, arguments), (label, excluded))))

abbrev pub step_with : Parts → Step
step_with (inl e) = Test e
step_with (inr (inl (x, e))) = Bind x e
step_with (inr (inr (inl (what, (label, excluded))))) = Term what label excluded
step_with (inr (inr (inr ((callee, arguments), (label, excluded))))) = Call callee arguments label excluded

pub step_with-parts_of : (s : Step) → step_with (parts_of s) ≡ s
step_with-parts_of (Test e) = refl
step_with-parts_of (Bind x e) = refl
step_with-parts_of (Term what label excluded) = refl
step_with-parts_of (Call callee arguments label excluded) = refl

abbrev pub step_code : Coded Step
step_code = code_by Parts coded_parts parts_of step_with step_with-parts_of
