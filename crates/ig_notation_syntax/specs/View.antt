-- What a stored token means.
use Rattle.std.specs.Prelude.{ℕ, List, [], ◌∷◌, false, chars, unwrap_or, map}
use Rattle.ig_text.specs.declared.class.Class.{Class}
use Rattle.ig_text.specs.declared.class.Class.TheVariants as class
use Rattle.ig_expr.specs.Reading.{spelled}
use Rattle.ig_notation_syntax.specs.Token as spec
use Rattle.ig_notation_syntax.specs.Scanner.{literal_of, class_of}
use Rattle.ig_notation_syntax.specs.declared.token.Token.{Token}
use Rattle.ig_notation_syntax.specs.declared.token.Token.TheVariants as stored
use Rattle.ig_notation_syntax.specs.declared.token.Placed.{Placed}

-- the text of a literal, by what stands between its quotes; empty where that is none
abbrev pub literal_text : List ℕ → List ℕ
literal_text inside = unwrap_or (literal_of inside) []

-- the class of what stands between two brackets; an empty one where that is none
abbrev pub class_within : List ℕ → Class
class_within inside = unwrap_or (class_of inside) (class.Ranges false [])

abbrev pub token_of : Token → spec.Token
token_of (stored.Name x) = spec.Name (chars x.now)
token_of (stored.Head x) = spec.Head (chars x.now)
token_of (stored.Number x) = spec.Number (spelled 0 (chars x.now))
token_of (stored.Literal x) = spec.Literal (literal_text (chars x.now))
token_of (stored.Ranges x) = spec.OneOf (class_within (chars x.now))
token_of stored.Any = spec.OneOf class.Any
token_of stored.XidStart = spec.OneOf class.XidStart
token_of stored.XidContinue = spec.OneOf class.XidContinue
token_of stored.Semicolon = spec.Semicolon
token_of stored.Equals = spec.Equals
token_of stored.Bar = spec.Bar
token_of stored.Greater = spec.Greater
token_of stored.Colon = spec.Colon
token_of stored.Comma = spec.Comma
token_of stored.Open = spec.Open
token_of stored.Close = spec.Close
token_of stored.OpenBrace = spec.OpenBrace
token_of stored.CloseBrace = spec.CloseBrace
token_of stored.Question = spec.Question
token_of stored.Star = spec.Star
token_of stored.Plus = spec.Plus
token_of stored.Minus = spec.Minus
token_of stored.Backslash = spec.Backslash
token_of stored.NotFollowedBy = spec.NotFollowedBy
token_of stored.NotPrecededBy = spec.NotPrecededBy
token_of stored.EqualTo = spec.EqualTo
token_of stored.NotEqualTo = spec.NotEqualTo
token_of stored.Less = spec.Less
token_of stored.AtMost = spec.AtMost
token_of stored.AtLeast = spec.AtLeast
token_of stored.Start = spec.Start
token_of stored.Syntax = spec.Syntax
token_of stored.Lexical = spec.Lexical
token_of stored.Layout = spec.Layout
token_of stored.Left = spec.Left
token_of stored.Right = spec.Right
token_of stored.Nonassoc = spec.Nonassoc
token_of stored.Offside = spec.Offside
token_of stored.Ignore = spec.Ignore
token_of stored.Align = spec.Align
token_of stored.When = spec.When
token_of stored.Let = spec.Let
token_of stored.Here = spec.Here
token_of stored.True = spec.True
token_of stored.False = spec.False
token_of stored.And = spec.And
token_of stored.Or = spec.Or
token_of stored.Not = spec.Not
token_of stored.Div = spec.Div
token_of stored.Mod = spec.Mod
token_of stored.Int = spec.Int
token_of stored.Bool = spec.Bool
token_of stored.Span = spec.Span
token_of stored.Tabs = spec.Tabs
token_of stored.Return = spec.Return
token_of (stored.Exact x) = spec.Literal (chars x.now)
token_of (stored.Character c) = spec.Literal (c ∷ [])
token_of (stored.Made negated ranges) = spec.OneOf (class.Ranges negated ranges.now)

-- the tokens, each with the byte at which it begins
abbrev pub placed_of : Placed → spec.Token × ℕ
placed_of p = (token_of p.token, p.at)

abbrev pub tokens_of : List Placed → List (spec.Token × ℕ)
tokens_of placed = map placed_of placed
