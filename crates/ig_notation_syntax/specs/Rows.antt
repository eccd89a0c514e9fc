-- Functions and operators have their rows in the machine's table. This stands here with its proofs, for those who read them, too;
-- nothing of it has to be believed.
use Rattle.std.proofs.Common.{◌≡◌, ℕ, List, [], ◌∷◌, refl}
use Rattle.std.specs.Prelude.{Some}
use Rattle.ig_expr.specs.declared.operator.Op.{Op}
use Rattle.ig_expr.specs.declared.operator.Function.{Function}
use Rattle.ig_notation_syntax.specs.Token.{Token}
use Rattle.ig_notation_syntax.specs.Rules as rule
use Rattle.ig_notation_syntax.specs.Rules.{IsFunction, IsOperator}
use Rattle.ig_notation_syntax.specs.Machine.{expression, term, operator_rest, close_bracket, after, after_function}

pub function_row : (x : List ℕ) (f : Function) → IsFunction x f → after_function x ≡ Some (expression ∷ close_bracket ∷ [])
function_row x f rule.begin = refl
function_row x f rule.end = refl
function_row x f rule.size = refl
function_row x f rule.column = refl
function_row x f rule.line = refl
function_row x f rule.number_of = refl

pub operator_row : (t : Token) (o : Op) → IsOperator t o → after operator_rest t ≡ Some (term ∷ [])
operator_row t o rule.addition = refl
operator_row t o rule.subtraction = refl
operator_row t o rule.multiplication = refl
operator_row t o rule.division = refl
operator_row t o rule.remainder = refl
operator_row t o rule.less = refl
operator_row t o rule.less_equal = refl
operator_row t o rule.greater = refl
operator_row t o rule.greater_equal = refl
operator_row t o rule.equal = refl
operator_row t o rule.not_equal = refl
operator_row t o rule.conjunction = refl
operator_row t o rule.disjunction = refl
