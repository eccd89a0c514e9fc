-- How many declarations and symbols a grammar has that passes take.
use Rattle.std.specs.Prelude.{ℕ}

-- fewer declarations than this, so that each number fits
abbrev pub most_declarations : ℕ
most_declarations = 16777216

-- fewer declarations, levels, alternatives and symbols than this, so that behind each pass the bounds on counts hold
abbrev pub counts_before_passes : ℕ
counts_before_passes = 1048576
