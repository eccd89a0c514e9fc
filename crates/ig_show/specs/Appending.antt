-- What a function adds to the bytes that it writes to.
use Rattle.std.specs.Prelude.{◌≡◌, ℕ, List, ◌++◌, chars}
use Rattle.ig_show.specs.Pieces.{Piece, text}

-- the characters grew by the word
pub record Appends (before after word : List ℕ) : Type 0 where
  pub grown : (s : List ℕ) → chars after ++ s ≡ chars before ++ (word ++ s)

-- the characters grew by the pieces that `shown` puts before others
pub record Adds (before after : List ℕ) (shown : List Piece → List Piece) : Type 0 where
  pub grown : (ps : List Piece) → chars after ++ text ps ≡ chars before ++ text (shown ps)
