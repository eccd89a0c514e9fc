-- What a reader of a part of the rules promises, in terms of the machine.
use Rattle.std.specs.Prelude.{◌≡◌, ℕ, ◌≤◌, List, ◌++◌, length, drop, Some}
use Rattle.ig_notation_syntax.specs.Token.{Token}
use Rattle.ig_notation_syntax.specs.Machine.{Want, run}

-- The tokens from number i up to number j read as the value; and the machine, with `wanted` on any stack at i, does
-- what it does with `rest` on this stack at j.
pub record Goes (V : Type 0) (reads : List Token → List Token → V → Type 0) (wanted rest : List Want) (tokens : List Token) (i j : ℕ) (value : V) : Type 0 where
  pub reading : reads (drop i tokens) (drop j tokens) value
  pub within : j ≤ length tokens
  pub onward : i ≤ j
  pub runs : (behind : List Want) → run i (wanted ++ behind) (drop i tokens) ≡ run j (rest ++ behind) (drop j tokens)

-- the machine, with `wanted` on any stack at number i, stops at number n
pub record Stopped (wanted : List Want) (tokens : List Token) (i n : ℕ) : Type 0 where
  pub stops : (behind : List Want) → run i (wanted ++ behind) (drop i tokens) ≡ Some n
