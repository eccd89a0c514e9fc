-- The tokens of a text, each with the byte at which it begins, and where a text breaks. Which token stands first in a text
-- and which separator does is that of any notation: `First text t rest` and `Separates text rest` say what stands before
-- the rest.
use Rattle.std.specs.Prelude.{◌≡◌, ◌≢◌, ℕ, ◌+◌, ◌<◌, ◌⊎◌, List, [], ◌∷◌, ◌++◌, length, encode_utf8_all}

-- the number of bytes that the characters take
abbrev pub bytes : List ℕ → ℕ
bytes cs = length (encode_utf8_all cs)

-- the token stands first, and no other one that does is as long
pub record IsLongest {Token : Type 0} (First : List ℕ → Token → List ℕ → Type 0) (text : List ℕ) (t : Token) (rest : List ℕ) :
    Type 0 where
  pub stands : First text t rest
  pub longest : (u : Token) (more : List ℕ) → First text u more → (length rest < length more) ⊎ ((u ≡ t) × (more ≡ rest))

-- neither a separator nor a token stands first in the text, nor does it end
pub record IsBroken {Token : Type 0} (First : List ℕ → Token → List ℕ → Type 0) (Separates : List ℕ → List ℕ → Type 0) (text : List ℕ) : Type 0 where
  pub no_end : text ≢ []
  pub no_separator : (rest : List ℕ) → Separates text rest → ⊥
  pub no_token : (t : Token) (rest : List ℕ) → First text t rest → ⊥

-- the text, whose first byte is the one at `at`, is these tokens, each the longest where it stands, and separators
pub data Lexes {Token : Type 0} (First : List ℕ → Token → List ℕ → Type 0) (Separates : List ℕ → List ℕ → Type 0) : ℕ → List ℕ → List (Token × ℕ) → Type 0 where
  nothing : (at : ℕ) (text : List ℕ) → text ≡ [] → Lexes First Separates at text []
  a_separator : (at n : ℕ) (text front rest : List ℕ) (ts : List (Token × ℕ)) → Separates text rest →
      text ≡ front ++ rest → n ≡ at + bytes front → Lexes First Separates n rest ts → Lexes First Separates at text ts
  a_token : (at n : ℕ) (text front rest : List ℕ) (t : Token) (ts : List (Token × ℕ)) → IsLongest First text t rest →
      text ≡ front ++ rest → n ≡ at + bytes front → Lexes First Separates n rest ts → Lexes First Separates at text ((t, at) ∷ ts)

-- behind separators and longest tokens the text is broken at the byte b
pub data Breaks {Token : Type 0} (First : List ℕ → Token → List ℕ → Type 0) (Separates : List ℕ → List ℕ → Type 0) : ℕ → List ℕ → ℕ → Type 0 where
  here : (at : ℕ) (text : List ℕ) → IsBroken First Separates text → Breaks First Separates at text at
  past_separator : (at n : ℕ) (text front rest : List ℕ) (b : ℕ) → Separates text rest →
      text ≡ front ++ rest → n ≡ at + bytes front → Breaks First Separates n rest b → Breaks First Separates at text b
  past_token : (at n : ℕ) (text front rest : List ℕ) (t : Token) (b : ℕ) → IsLongest First text t rest →
      text ≡ front ++ rest → n ≡ at + bytes front → Breaks First Separates n rest b → Breaks First Separates at text b
