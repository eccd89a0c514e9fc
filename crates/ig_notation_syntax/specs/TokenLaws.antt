-- Laws of the tokens of a text.
use Rattle.std.specs.Prelude.{◌≡◌, ℕ, ◌≤◌, ◌⊎◌, Bool, true, not, ◌&&◌, ◌==◌, List, [], ◌++◌, length, IsTrue}
use Rattle.unicode_ident.specs.Ident.{is_xid_continue}
use Rattle.ig_notation_syntax.specs.Token as token
use Rattle.ig_notation_syntax.specs.Token.{Token}
use Rattle.ig_notation_syntax.specs.Spelling.{IsToken, IsSeparator, IsLongest, StandsFirst, begins, may_precede}
use Rattle.ig_notation_syntax.specs.Lexing.{Lexes, Breaks, IsBroken}
use Rattle.ig_notation_syntax.specs.Scanner as scanner
use Rattle.ig_notation_syntax.specs.Scanner.{Next, next}

-- what stands first, by the spellings alone
abbrev pub IsNext : List ℕ → Next → Type 0
IsNext text scanner.ended = text ≡ []
IsNext text (scanner.separator rest) = IsSeparator text rest × ((t : Token) (more : List ℕ) → StandsFirst text t more → ⊥)
IsNext text (scanner.token t rest) = IsLongest text t rest × ((more : List ℕ) → IsSeparator text more → ⊥)
IsNext text scanner.broken = IsBroken text

-- a token that the scanner finds is the longest of the table, and where it finds nothing no token and no separator begins
abbrev pub LongestTokenIsNext : Type 0
LongestTokenIsNext = (text : List ℕ) → IsNext text (next text)

-- a text has one list of tokens at most
abbrev pub TokensAreSingle : Type 0
TokensAreSingle =
    (at : ℕ) (text : List ℕ) (ts us : List (Token × ℕ)) → Lexes at text ts → Lexes at text us → ts ≡ us

-- a text breaks at one place at most
abbrev pub BreakIsSingle : Type 0
BreakIsSingle = (at : ℕ) (text : List ℕ) (a b : ℕ) → Breaks at text a → Breaks at text b → a ≡ b

-- a text is tokens or breaks
abbrev pub LexesOrBreaks : Type 0
LexesOrBreaks = (at : ℕ) (text : List ℕ) →
    ((ts : List (Token × ℕ)) × Lexes at text ts) ⊎ ((b : ℕ) × Breaks at text b)

-- and not both
abbrev pub NeverBoth : Type 0
NeverBoth = (at : ℕ) (text : List ℕ) (ts : List (Token × ℕ)) (b : ℕ) → Lexes at text ts → Breaks at text b → ⊥

-- a text has no more tokens than characters
abbrev pub TokensAreFew : Type 0
TokensAreFew = (at : ℕ) (text : List ℕ) (ts : List (Token × ℕ)) → Lexes at text ts → length ts ≤ length text

-- what stands behind a token makes no longer one of it
abbrev pub ends : Token → List ℕ → Bool
ends (token.Name x) rest = not (begins is_xid_continue rest) && not (begins (λ c. c == 40) rest)
ends (token.Head x) rest = true
ends (token.Literal word) rest = true
ends token.Semicolon rest = true
ends token.Equals rest = not (begins (λ c. c == 61) rest)
ends token.Bar rest = true
ends token.Greater rest = not (begins (λ c. c == 61) rest)
ends token.Colon rest = true
ends token.Comma rest = true
ends token.Open rest = true
ends token.Close rest = true
ends token.OpenBrace rest = true
ends token.CloseBrace rest = true
ends token.Question rest = true
ends token.Star rest = true
ends token.Plus rest = true
ends token.Minus rest = true
ends token.Backslash rest = true
ends token.NotFollowedBy rest = true
ends token.NotPrecededBy rest = true
ends token.EqualTo rest = true
ends token.NotEqualTo rest = true
ends token.Less rest = not (begins (λ c. c == 61) rest)
ends token.AtMost rest = true
ends token.AtLeast rest = true
ends (token.OneOf c) rest = may_precede (token.OneOf c) rest
ends t rest = not (begins is_xid_continue rest)

-- so it is the longest that stands there
abbrev pub EndedTokensAreLongest : Type 0
EndedTokensAreLongest = (front rest : List ℕ) (t : Token) → IsToken front t → IsTrue (ends t rest) → IsLongest (front ++ rest) t rest
