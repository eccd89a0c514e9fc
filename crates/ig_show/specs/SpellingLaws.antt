-- What holds of canonical spellings.
use Rattle.std.specs.Prelude.{◌≡◌, ℕ, List, Bool, true, false}
use Rattle.ig_notation_syntax.specs.Token.{Token, Name, Head, Number, Literal, OneOf}
use Rattle.ig_notation_syntax.specs.Spelling.{IsToken}
use Rattle.ig_show.specs.Spelling.{spelling}

-- the canonical spelling is one by the table
abbrev pub IsSpelled : Token → Type 0
IsSpelled t = IsToken (spelling t) t

-- the token is a sign or a keyword
abbrev pub is_fixed : Token → Bool
is_fixed (Name x) = false
is_fixed (Head x) = false
is_fixed (Number n) = false
is_fixed (Literal word) = false
is_fixed (OneOf c) = false
is_fixed t = true

-- signs and keywords have one spelling, and it is this
abbrev pub FixedTokensAreSpelled : Type 0
FixedTokensAreSpelled = (t : Token) → is_fixed t ≡ true → IsSpelled t

-- a token that is spelled in any way is spelled so
abbrev pub TokensAreSpelled : Type 0
TokensAreSpelled = (front : List ℕ) (t : Token) → IsToken front t → IsSpelled t
