-- Environments: names with their values, in the order in which they were bound.
use Rattle.std.specs.Prelude.{◌≡◌, ℕ, List, [], ◌∷◌, map, if◌then◌else◌, Some}
use Rattle.ig_expr.specs.Expression.{Expression}
use Rattle.ig_expr.specs.Evaluation.{value_of}
use Rattle.ig_text.specs.Input.{Input}
use Rattle.ig_text.specs.Words.{is_word}
use Rattle.ig_expr.specs.declared.value.Value.{Value}
use Rattle.ig_grammar.specs.Binding.{Binding}
use Rattle.ig_grammar.specs.declared.declaration.Param.{Param}

-- pairs of a name and its value, in order of binding
abbrev pub Environment : Type 0
Environment = List (List ℕ × Value)

abbrev pub names : Environment → List (List ℕ)
names env = map (λ pair. pair.0) env

abbrev pub values : Environment → List Value
values env = map (λ pair. pair.1) env

-- the expression has this value at the position
abbrev pub HasValue : Input → Environment → ℕ → Expression → Value → Type 0
HasValue text env here e v = value_of text (names env) (values env) here e ≡ Some v

-- each expression has its value at the position
pub data HaveValues (text : Input) (env : Environment) (here : ℕ) : List Expression → List Value → Type 0 where
  no_values : HaveValues text env here [] []
  next_value : (e : Expression) (es : List Expression) (v : Value) (vs : List Value) →
      HasValue text env here e v → HaveValues text env here es vs → HaveValues text env here (e ∷ es) (v ∷ vs)

-- the environment has each parameter with its value, and nothing else
pub data AreBound : List Param → List Value → Environment → Type 0 where
  no_parameters : AreBound [] [] []
  next_parameter : (p : Param) (ps : List Param) (v : Value) (vs : List Value) (env others : Environment) →
      AreBound ps vs others → env ≡ (p.name, v) ∷ others → AreBound (p ∷ ps) (v ∷ vs) env

-- the environment with the value in place of that of the same name, or at the end where the name is new
abbrev pub with_value : Environment → List ℕ → Value → Environment
with_value [] name v = (name, v) ∷ []
with_value (pair ∷ others) name v =
    if is_word pair.0 name then (name, v) ∷ others else pair ∷ with_value others name v

-- the environment with the values of the bindings in place of those of the same names
abbrev pub replaced : Environment → List Binding → List Value → Environment
replaced env [] vs = env
replaced env (b ∷ bs) [] = env
replaced env (b ∷ bs) (v ∷ vs) = replaced (with_value env b.name v) bs vs
