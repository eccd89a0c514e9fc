-- What a stored token means.
use Rattle.std.specs.Prelude.{ℕ, List, chars, map}
use Rattle.ig_w3c_syntax.specs.Token as spec
use Rattle.ig_w3c_syntax.specs.declared.token.Token.{Token}
use Rattle.ig_w3c_syntax.specs.declared.token.Token.TheVariants as stored
use Rattle.ig_w3c_syntax.specs.declared.token.Placed.{Placed}

abbrev pub token_of : Token → spec.Token
token_of (stored.Head x) = spec.Head (chars x.now)
token_of (stored.Name x) = spec.Name (chars x.now)
token_of (stored.Text x) = spec.Text (chars x.now)
token_of (stored.Code c) = spec.Code c
token_of (stored.Set class) = spec.OneOf class
token_of stored.Bar = spec.Bar
token_of stored.Open = spec.Open
token_of stored.Close = spec.Close
token_of stored.Question = spec.Question
token_of stored.Star = spec.Star
token_of stored.Plus = spec.Plus
token_of stored.Minus = spec.Minus

-- the tokens, each with the byte at which it begins
abbrev pub placed_of : Placed → spec.Token × ℕ
placed_of p = (token_of p.token, p.at)

abbrev pub tokens_of : List Placed → List (spec.Token × ℕ)
tokens_of placed = map placed_of placed

-- what the tokens mean, without their places
abbrev pub meanings : List Placed → List spec.Token
meanings placed = map (λ p. token_of p.token) placed
