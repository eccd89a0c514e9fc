-- The input of a load, which a size and a number decide.
use Rattle.std.specs.Prelude.{ℕ, zero, suc, ◌+◌, ◌-◌, ◌*◌, ◌/◌, ◌%◌, ◌^◌, List, [], ◌∷◌}
use Rattle.ig_load.specs.Operators.{Operator, power, times, plus, minus, Step, letters, chain}

-- a draw replaces the state by this one
abbrev pub next_state : ℕ → ℕ
next_state state = (state * 6364136223846793005 + 1442695040888963407) % 2 ^ 64

-- and gives this number, by the new state
abbrev pub drawn : ℕ → ℕ
drawn state = state / 2 ^ 33

-- the operators in their order, from 0
abbrev pub operator_of : ℕ → Operator
operator_of zero = power
operator_of (suc zero) = times
operator_of (suc (suc zero)) = plus
operator_of number = minus

-- an operand is one draw modulo the number of letters, by the state behind it
abbrev pub operand_at : ℕ → ℕ
operand_at state = drawn state % letters

-- an operator is one draw modulo 4
abbrev pub operator_at : ℕ → Operator
operator_at state = operator_of (drawn state % 4)

-- so many operators, each with an operand, drawn from a state on
abbrev pub steps_from : ℕ → ℕ → List Step
steps_from state zero = []
steps_from state (suc n) =
    record { operator = operator_at (next_state state); operand = operand_at (next_state (next_state state)) } ∷
    steps_from (next_state (next_state state)) n

-- an operand, and then an operator and an operand until there are `size` operands; the first state is the number
abbrev pub LoadInput : ℕ → ℕ → List ℕ
LoadInput size number = chain (operand_at (next_state number)) (steps_from (next_state number) (size - 1))
