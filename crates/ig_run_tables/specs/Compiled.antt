-- Expressions whose variables are looked up before the run.
use Rattle.std.specs.Prelude.{◌≡◌, ℕ, Bool, not, List, [], ◌∷◌, Option, Some, None, option_map, slice_get, map, ℤ, pos, int_lt, int_le}
use Rattle.std.specs.Ordering.{int_eq}
use Rattle.ig_text.specs.Input.{Input}
use Rattle.ig_expr.specs.Evaluation.{value_of}
use Rattle.ig_expr.specs.Expression as tree
use Rattle.ig_expr.specs.Expression.{Expression}
use Rattle.ig_expr.specs.Names.{place_of}
use Rattle.ig_expr.specs.declared.operator.Op.{Op}
use Rattle.ig_expr.specs.declared.operator.Op.TheVariants.{Less, LessEqual, Greater, GreaterEqual, Equal, NotEqual}
use Rattle.ig_expr.specs.declared.value.Value.{Value}
use Rattle.ig_expr.specs.declared.value.Value.TheVariants as value
use Rattle.ig_item.specs.Step.{Step, Test, Bind, Term, Call}
use Rattle.ig_run_tables.specs.declared.compiled.Atom.{Atom}
use Rattle.ig_run_tables.specs.declared.compiled.Atom.TheVariants.{Constant, Here, Place}
use Rattle.ig_run_tables.specs.declared.compiled.Form.{Form}
use Rattle.ig_run_tables.specs.declared.compiled.Form.TheVariants.{Alone, Binary, Other}
use Rattle.ig_run_tables.specs.declared.steps.Arguments.{Arguments}
use Rattle.ig_run_tables.specs.declared.steps.Arguments.TheVariants.{Own, Listed}

-- the expression as an atom, where these names are visible
abbrev pub atom_of : List (List ℕ) → Expression → Option Atom
atom_of names (tree.Integer n) = Some (Constant (value.Int n))
atom_of names (tree.Truth b) = Some (Constant (value.Bool b))
atom_of names tree.Here = Some Here
atom_of names (tree.Variable x) = option_map Place (place_of names x)
atom_of names e = None

abbrev pub alone : Option Atom → Form
alone None = Other
alone (Some a) = Alone a

abbrev pub binary : Op → Option Atom → Option Atom → Form
binary op None b = Other
binary op (Some a) None = Other
binary op (Some a) (Some b) = Binary op a b

-- the form of the expression, where these names are visible
abbrev pub form_of : List (List ℕ) → Expression → Form
form_of names (tree.Binary op a b) = binary op (atom_of names a) (atom_of names b)
form_of names e = alone (atom_of names e)

-- the value of the atom at a position, in an environment with these values
abbrev pub value_at : List Value → ℕ → Atom → Option Value
value_at values here (Constant v) = Some v
value_at values here Here = Some (value.Int (pos here))
value_at values here (Place k) = slice_get values k

-- the value of the form alone, if it is an atom
abbrev pub value_by : List Value → ℕ → Form → Option Value
value_by values here (Alone a) = value_at values here a
value_by values here f = None

-- what the forms stand for are, in order, the values of the environment, all of them atoms
abbrev pub AreOwn : List Value → ℕ → List Form → Type 0
AreOwn values here forms = map (value_by values here) forms ≡ map Some values

-- how integers compare, where the operator compares
abbrev pub comparison : Op → ℤ → ℤ → Option Bool
comparison Less a b = Some (int_lt a b)
comparison LessEqual a b = Some (int_le a b)
comparison Greater a b = Some (int_lt b a)
comparison GreaterEqual a b = Some (int_le b a)
comparison Equal a b = Some (int_eq a b)
comparison NotEqual a b = Some (not (int_eq a b))
comparison op a b = None

abbrev pub compared : Op → Option Value → Option Value → Option Bool
compared op (Some (value.Int a)) (Some (value.Int b)) = comparison op a b
compared op a b = None

-- the expressions of a step
abbrev pub expressions_of : Step → List Expression
expressions_of (Test e) = e ∷ []
expressions_of (Bind name e) = e ∷ []
expressions_of (Term what label excluded) = []
expressions_of (Call callee arguments label excluded) = arguments

-- the forms of the expressions of each step, where these names are visible before it
abbrev pub forms_along : List (List (List ℕ)) → List Step → List (List Form)
forms_along [] steps = []
forms_along (names ∷ others) [] = []
forms_along (names ∷ others) (step ∷ steps) = map (form_of names) (expressions_of step) ∷ forms_along others steps

-- the expressions have these values at a position, in an environment with the names and values that are visible
abbrev pub AreValuesOf : Input → List (List ℕ) → List Value → ℕ → List Expression → List Value → Type 0
AreValuesOf text names values here es vs = map (value_of text names values here) es ≡ map Some vs

-- the values of arguments, where the environment has these values
abbrev pub values_in : List Value → Arguments → List Value
values_in values Own = values
values_in values (Listed vs) = vs
