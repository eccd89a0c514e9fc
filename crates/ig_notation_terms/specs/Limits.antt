-- The limits that the tokens of a grammar text keep, and the byte at which a token stands.
use Rattle.std.specs.Prelude.{◌≡◌, ℕ, zero, suc, ◌+◌, ◌-◌, ◌<◌, ◌≤◌, List, [], ◌∷◌, ◌++◌, All, map}
use Rattle.ig_text.specs.Limits.{integers_end}
use Rattle.ig_notation_syntax.specs.Token.{Token, Head, Number, Open, Close, OpenBrace, CloseBrace}
use Rattle.ig_notation_syntax.specs.View.{token_of}
use Rattle.ig_notation_syntax.specs.declared.token.Placed.{Placed}

-- what the tokens mean, without their places
abbrev pub meanings : List Placed → List Token
meanings placed = map (λ p. token_of p.token) placed

-- the first byte of the token of this number, or the end of the text where there is none
abbrev pub byte_of : {Token : Type 0} → ℕ → List (Token × ℕ) → ℕ → ℕ
byte_of end [] number = end
byte_of end (p ∷ tokens) zero = p.1
byte_of end (p ∷ tokens) (suc number) = byte_of end tokens number

-- the most brackets that may be open at one place
abbrev pub most_open : ℕ
most_open = 64

-- a number is a value of an integer
abbrev pub NumberFits : Token → Type 0
NumberFits (Number n) = n < integers_end
NumberFits t = Unit {0}

abbrev pub NumbersFit : List Token → Type 0
NumbersFit tokens = All NumberFits tokens

-- how many brackets are open behind a token, of n that are open before it: a closing one where none is open changes nothing
abbrev pub opened : ℕ → Token → ℕ
opened n (Head x) = n + 1
opened n Open = n + 1
opened n OpenBrace = n + 1
opened n Close = n - 1
opened n CloseBrace = n - 1
opened n t = n

-- and behind some tokens
abbrev pub open_behind : ℕ → List Token → ℕ
open_behind n [] = n
open_behind n (t ∷ tokens) = open_behind (opened n t) tokens

-- nowhere are more open than that, where n are open at the front
abbrev pub IsShallowFrom : ℕ → List Token → Type 0
IsShallowFrom n tokens = (front rest : List Token) → tokens ≡ front ++ rest → open_behind n front ≤ most_open

abbrev pub IsShallow : List Token → Type 0
IsShallow tokens = IsShallowFrom 0 tokens
