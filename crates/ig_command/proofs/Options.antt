-- The value of an option, looked for one option after the other.
use Rattle.std.proofs.Common.{ℕ, List, ◌∷◌, Option, Some, None}
use Rattle.ig_command.specs.Commands.{once}

-- the one value, where one may have been found already
abbrev pub once_behind : Option (List ℕ) → List (List ℕ) → Option (Option (List ℕ))
once_behind None values = once values
once_behind (Some value) values = once (value ∷ values)
