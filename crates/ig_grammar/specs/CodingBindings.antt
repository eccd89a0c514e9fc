-- For the proof checker alone: a reader need not read this file.
-- How bindings are stored.
use Rattle.std.specs.Prelude.{ℕ, List, refl}
use Rattle.std.specs.Coded.{Coded, code_by, coded×, coded_ℕ, coded_list}
use Rattle.ig_expr.specs.Expression.{Expression}
use Rattle.ig_expr.specs.Stored.{expression_code}
use Rattle.ig_grammar.specs.Binding.{Binding}

abbrev pub binding_code : Coded Binding
binding_code =
    code_by (List ℕ × Expression) (coded× (coded_list coded_ℕ) expression_code)
    (λ b. (b.name, b.value)) (λ p. record { name = p.0; value = p.1 }) (λ _. refl)
