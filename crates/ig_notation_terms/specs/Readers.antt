-- What the readers of parts of the rules promise.
use Rattle.std.specs.Prelude.{◌≡◌, ℕ, ◌+◌, ◌<◌, List, [], ◌∷◌, ◌++◌, length, drop, map, None, codes, ℤ, pos}
use Rattle.std.specs.Borrow.{Bor}
use Rattle.ig_text.specs.declared.pattern.Pattern.{Pattern}
use Rattle.ig_text.specs.Limits.{integers_end}
use Rattle.ig_expr.specs.Expression.{Expression}
use Rattle.ig_notation_syntax.specs.Token as token
use Rattle.ig_notation_syntax.specs.Token.{Token, Head, Close, Equals, Semicolon, Number}
use Rattle.ig_notation_syntax.specs.Rules.{IsFunction, ReadsTerm}
use Rattle.ig_grammar.specs.declared.filter.Filter.{Filter}
use Rattle.ig_notation_syntax.specs.Machine as want
use Rattle.ig_notation_syntax.specs.Machine.{Want, after, run}
use Rattle.ig_notation_syntax.specs.Reading.{Stopped}
use Rattle.ig_notation_terms.specs.declared.fault.RuleFault.{RuleFault}
use Rattle.ig_notation_terms.specs.declared.fault.RuleFault.TheVariants.{Unexpected, Memory}
use Rattle.ig_notation_terms.specs.declared.signs.Sign.{Sign}
use Rattle.ig_notation_terms.specs.declared.signs.Sign.TheVariants as signs
use Rattle.ig_notation_terms.specs.declared.expressions.Named.{Named}
use Rattle.ig_notation_terms.specs.declared.expressions.Named.TheVariants as named
use Rattle.ig_notation_terms.specs.declared.filters.FilterSign.{FilterSign}
use Rattle.ig_notation_terms.specs.declared.filters.FilterSign.TheVariants as filter_signs
use Rattle.ig_grammar.specs.declared.filter.Filter.TheVariants as filters

-- a place in a list that the machine holds
pub record IsPlace (i : ℕ) : Type 0 where
  pub below : i < integers_end

-- the token of number i is t
pub record Stands (tokens : List Token) (i : ℕ) (t : Token) : Type 0 where
  pub there : drop i tokens ≡ t ∷ drop (i + 1) tokens
  pub within : i < length tokens
  pub place : IsPlace i

-- the token of number i is that number
pub record StandsNumber (tokens : List Token) (i : ℕ) (n : ℤ) : Type 0 where
  pub spelled : ℕ
  pub stands : Stands tokens i (Number spelled)
  pub is_number : n ≡ pos spelled

-- the token of number i is t, and j is the number behind it
pub record Takes (t : Token) (tokens : List Token) (i j : ℕ) : Type 0 where
  pub stands : Stands tokens i t
  pub next : j ≡ i + 1

-- nothing that the want can begin with has number i
pub data Misses (wanted : Want) (tokens : List Token) (i : ℕ) : Type 0 where
  at_end : drop i tokens ≡ [] → Misses wanted tokens i
  at_token : (t : Token) → Stands tokens i t → after wanted t ≡ None → Misses wanted tokens i

-- the same, and the fault says so
pub record MissesAt (wanted : Want) (tokens : List Token) (i : ℕ) (fault : RuleFault) : Type 0 where
  pub misses : Misses wanted tokens i
  pub is_fault : fault ≡ Unexpected i

-- the tokens end before number i, where a token is wanted
pub record EndsAt (tokens : List Token) (i : ℕ) (fault : RuleFault) : Type 0 where
  pub ended : drop i tokens ≡ []
  pub is_fault : fault ≡ Unexpected i

-- at number i the wants, on any stack, stop the machine where the fault says; want of memory may come at any time
abbrev pub StopsAt : List Want → List Token → ℕ → RuleFault → Type 0
StopsAt wanted tokens i (Unexpected n) = Stopped wanted tokens i n
StopsAt wanted tokens i Memory = Unit {0}

-- with a on any stack at number i the machine does what it does with b at number j
pub record Runs (a b : List Want) (tokens : List Token) (i j : ℕ) : Type 0 where
  pub go_on : (behind : List Want) → run i (a ++ behind) (drop i tokens) ≡ run j (b ++ behind) (drop j tokens)

-- the token of number i has a property
pub record Finds (P : Token → Type 0) (tokens : List Token) (i : ℕ) : Type 0 where
  pub found : Token
  pub stands : Stands tokens i found
  pub fits : P found

-- a part behind a token
abbrev pub Behind : {V : Type 0} → Token → (List Token → List Token → V → Type 0) → List Token → List Token → V → Type 0
Behind t reads from rest value = reads (t ∷ from) rest value

-- a token, and a part behind it
pub record After {V : Type 0} (t : Token) (reads : List Token → List Token → V → Type 0) (from rest : List Token) (value : V) : Type 0 where
  pub middle : List Token
  pub is : from ≡ t ∷ middle
  pub part : reads middle rest value

-- a part, and the `)` behind it
abbrev pub Closed : {V : Type 0} → (List Token → List Token → V → Type 0) → List Token → List Token → V → Type 0
Closed reads from rest value = reads from (Close ∷ rest) value

-- the front of a list, whatever follows in it
abbrev pub Front : {V : Type 0} → (List Token → List Token → List V → Type 0) → List Token → List Token → List V → Type 0
Front {V} reads from rest values = (end : List Token) (more : List V) → reads rest end more → reads from end (values ++ more)

-- the token for which a sign stands, and what is wanted where it is
abbrev pub sign_token : Sign → Token
sign_token signs.Semicolon = Semicolon
sign_token signs.Equals = Equals
sign_token signs.Bar = token.Bar
sign_token signs.Greater = token.Greater
sign_token signs.Colon = token.Colon
sign_token signs.Comma = token.Comma
sign_token signs.Open = token.Open
sign_token signs.Close = Close
sign_token signs.CloseBrace = token.CloseBrace

abbrev pub want_of : Sign → Want
want_of signs.Semicolon = want.semicolon
want_of signs.Equals = want.equals
want_of signs.Bar = want.alternatives_rest
want_of signs.Greater = want.levels_rest
want_of signs.Colon = want.colon
want_of signs.Comma = want.comma
want_of signs.Open = want.open_bracket
want_of signs.Close = want.close_bracket
want_of signs.CloseBrace = want.close_brace

-- what a function's name says
abbrev pub IsNamed : List ℕ → Named → Type 0
IsNamed name (named.One f) = IsFunction name f
IsNamed name named.Same = name ≡ codes "same"
IsNamed name named.Spells = name ≡ codes "spells"

-- a table of names as it is stored
abbrev pub rows_of : List (Bor (List ℕ) × Named) → List (List ℕ × Named)
rows_of table = map (λ row. (row.0.now, row.1)) table

-- what is wanted in its brackets, with the `)`
abbrev pub named_wants : Named → List Want
named_wants (named.One f) = want.expression ∷ want.close_bracket ∷ []
named_wants named.Same = want.expression ∷ want.comma ∷ want.expression ∷ want.close_bracket ∷ []
named_wants named.Spells = want.expression ∷ want.comma ∷ want.literal ∷ want.close_bracket ∷ []

-- behind the name, a term
abbrev pub ReadsNamed : Named → List Token → List Token → Expression → Type 0
ReadsNamed function from rest e = (name : List ℕ) → IsNamed name function → ReadsTerm (Head name ∷ from) rest e

-- the filters for which a sign stands
abbrev pub filter_token : FilterSign → Token
filter_token filter_signs.NotFollowed = token.NotFollowedBy
filter_token filter_signs.NotPreceded = token.NotPrecededBy
filter_token filter_signs.Not = token.Backslash

abbrev pub filter_of : FilterSign → Pattern → Filter
filter_of filter_signs.NotFollowed p = filters.NotFollowed p
filter_of filter_signs.NotPreceded p = filters.NotPreceded p
filter_of filter_signs.Not p = filters.Not p
