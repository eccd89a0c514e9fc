-- Laws of the tokens of a text.
use Rattle.std.specs.Prelude.{◌≡◌, ℕ, ◌≤◌, List, ◌∷◌, ◌++◌, Bool, true, false, All, map, length}
use Rattle.std.specs.List.{list_all}
use Rattle.ig_notation_syntax.specs.Spelling.{begins}
use Rattle.ig_notation_syntax.specs.Texts.{IsLongest, Lexes, Breaks}
use Rattle.ig_w3c_syntax.specs.Token.{Token, Name}
use Rattle.ig_w3c_syntax.specs.Spelling.{StandsFirst, IsSeparator, AreSeparators, is_character, run, past}
use Rattle.ig_w3c_syntax.specs.TokenForms.{least_of, HasForm}

-- a text has one list of tokens at most
abbrev pub TokensAreSingle : Type 0
TokensAreSingle =
    (at : ℕ) (text : List ℕ) (ts us : List (Token × ℕ)) → Lexes StandsFirst IsSeparator at text ts →
    Lexes StandsFirst IsSeparator at text us → ts ≡ us

-- a text breaks at one place at most
abbrev pub BreakIsSingle : Type 0
BreakIsSingle =
    (at : ℕ) (text : List ℕ) (a b : ℕ) → Breaks StandsFirst IsSeparator at text a → Breaks StandsFirst IsSeparator at text b →
    a ≡ b

-- no text is tokens and breaks as well
abbrev pub NeverBoth : Type 0
NeverBoth =
    (at : ℕ) (text : List ℕ) (ts : List (Token × ℕ)) (b : ℕ) → Lexes StandsFirst IsSeparator at text ts →
    Breaks StandsFirst IsSeparator at text b → ⊥

-- a text has no fewer characters than its tokens have at least
abbrev pub TokensAreFew : Type 0
TokensAreFew =
    (at : ℕ) (text : List ℕ) (ts : List (Token × ℕ)) → Lexes StandsFirst IsSeparator at text ts → least_of ts ≤ length text

-- each token of a text has the form of one
abbrev pub TokensHaveForms : Type 0
TokensHaveForms =
    (at : ℕ) (text : List ℕ) (ts : List (Token × ℕ)) → Lexes StandsFirst IsSeparator at text ts →
    All (HasForm (list_all is_character text ≡ true)) (map (λ p. p.0) ts)

-- no `::=` stands behind a name
abbrev pub EndsThere : Token → List ℕ → Type 0
EndsThere (Name x) rest = (more : List ℕ) → AreSeparators rest (58 ∷ 58 ∷ 61 ∷ more) → ⊥
EndsThere t rest = Unit {0}

-- a token that stands first is the longest there, a name where it is no head
abbrev pub StandingTokensAreLongest : Type 0
StandingTokensAreLongest =
    (text rest : List ℕ) (t : Token) → StandsFirst text t rest → EndsThere t rest → IsLongest StandsFirst text t rest

-- characters of a kind with none of it behind them are the longest front of that kind
abbrev pub FrontsAreRuns : Type 0
FrontsAreRuns =
    (p : ℕ → Bool) (text front rest : List ℕ) → text ≡ front ++ rest → list_all p front ≡ true → begins p rest ≡ false →
    (front ≡ run p text) × (rest ≡ past p text)
