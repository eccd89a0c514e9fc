-- The limit of core grammars.
use Rattle.std.specs.Prelude.{ℕ}

-- the most dots that a core grammar has
abbrev pub most_dots : ℕ
most_dots = 65536
