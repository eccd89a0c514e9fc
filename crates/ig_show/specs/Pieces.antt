-- The pieces of a canonical text.
use Rattle.std.specs.Prelude.{ℕ, List, [], ◌∷◌, ◌++◌}
use Rattle.ig_notation_syntax.specs.Token.{Token}
use Rattle.ig_show.specs.Spelling.{spelling}

-- a space, a line feed or a token
pub data Piece : Type 0 where
  blank : Piece
  line_end : Piece
  token : Token → Piece

-- the characters of pieces, joined
abbrev pub text : List Piece → List ℕ
text [] = []
text (blank ∷ ps) = 32 ∷ text ps
text (line_end ∷ ps) = 10 ∷ text ps
text (token t ∷ ps) = spelling t ++ text ps

-- the tokens among pieces
abbrev pub tokens : List Piece → List Token
tokens [] = []
tokens (blank ∷ ps) = tokens ps
tokens (line_end ∷ ps) = tokens ps
tokens (token t ∷ ps) = t ∷ tokens ps
