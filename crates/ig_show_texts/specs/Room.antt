-- How many bytes a piece has room for.
use Rattle.std.specs.Prelude.{ℕ}

-- the most bytes of a piece
abbrev pub piece_room : ℕ
piece_room = 96
