-- What a function adds to the bytes that it writes to, beside a word; what a text is in bytes.
use Rattle.std.specs.Prelude.{◌≡◌, ℕ, List, ◌++◌, chars, IsUtf8}
use Rattle.ig_show.specs.Pieces.{Piece, text}

-- the characters grew by the word, and by the pieces that `shown` puts before others
pub record AddsBehind (before after word : List ℕ) (shown : List Piece → List Piece) : Type 0 where
  pub grown : (ps : List Piece) → chars after ++ text ps ≡ chars before ++ (word ++ text (shown ps))

-- the characters grew by the pieces that `shown` puts before others, and by the word
pub record AddsBefore (before after word : List ℕ) (shown : List Piece → List Piece) : Type 0 where
  pub grown : (ps qs : List Piece) → text qs ≡ word ++ text ps → chars after ++ text ps ≡ chars before ++ text (shown qs)

-- the bytes are the characters in UTF-8
pub record IsText (bytes characters : List ℕ) : Type 0 where
  pub utf8 : IsUtf8 bytes
  pub spelled : chars bytes ≡ characters
