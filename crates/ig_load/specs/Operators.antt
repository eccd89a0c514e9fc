-- Chains: letters with operators between them.
use Rattle.std.specs.Prelude.{ℕ, ◌+◌, ◌<◌, List, [], ◌∷◌, flat_map}

pub data Operator : Type 0 where
  power : Operator
  times : Operator
  plus : Operator
  minus : Operator

-- the operators `^`, `*`, `+` and `-`, as they are written
abbrev pub sign : Operator → ℕ
sign power = 94
sign times = 42
sign plus = 43
sign minus = 45

-- the letter with so many before it, from `a` on
abbrev pub letter : ℕ → ℕ
letter n = 97 + n

-- how many letters there are
abbrev pub letters : ℕ
letters = 26

-- an operator, and the number of the letter behind it
pub record Step : Type 0 where
  pub operator : Operator
  pub operand : ℕ

abbrev pub step_text : Step → List ℕ
step_text step = sign step.operator ∷ letter step.operand ∷ []

-- the text of a letter, and then of operators and letters
abbrev pub chain : ℕ → List Step → List ℕ
chain first steps = letter first ∷ flat_map step_text steps

-- the operand is a letter
abbrev pub HasLetter : Step → Type 0
HasLetter step = step.operand < letters
