-- What the readers of the parts of symbols promise.
use Rattle.std.specs.Prelude.{◌≡◌, ℕ, ◌+◌, List, [], ◌∷◌, drop, chars, Bool, true, false, Option, Some, None}
use Rattle.ig_text.specs.declared.pattern.Pattern.{Pattern}
use Rattle.ig_text.specs.declared.pattern.Pattern.TheVariants.{Literal as Spelled, OneOf as AnyOf}
use Rattle.ig_notation_syntax.specs.Token as token
use Rattle.ig_notation_syntax.specs.Token.{Token, Name, Colon, Open, Close, OpenBrace, CloseBrace, When}
use Rattle.ig_grammar.specs.Symbol as tree
use Rattle.ig_grammar.specs.declared.filter.Filter.{Filter}
use Rattle.ig_notation_syntax.specs.Rules.{ReadsSign, ReadsFilters, filtered}
use Rattle.ig_notation_syntax.specs.Machine as want
use Rattle.ig_notation_terms.specs.declared.repetitions.Repetition.{Repetition}
use Rattle.ig_notation_terms.specs.declared.repetitions.ListSign.{ListSign}
use Rattle.ig_notation_terms.specs.Readers.{Stands, Runs, After}
use Rattle.ig_notation_terms.specs.Repetitions.{repetition_token, repeated_of, list_token, separated_of}
use Rattle.ig_notation_terms.specs.declared.parts.Beginning.{Beginning}
use Rattle.ig_notation_terms.specs.declared.parts.Beginning.TheVariants as beginnings
use Rattle.ig_notation_terms.specs.declared.parts.BlockMark.{BlockMark}
use Rattle.ig_notation_terms.specs.declared.parts.BlockMark.TheVariants as marks
use Rattle.ig_notation_terms.specs.declared.parts.Opening.{Opening}
use Rattle.ig_notation_terms.specs.declared.parts.Opening.TheVariants as openings

-- a name and a colon have the numbers i and i + 1
pub record IsLabel (name : List ℕ) (tokens : List Token) (i : ℕ) : Type 0 where
  pub word : Stands tokens i (Name name)
  pub colon : Stands tokens (i + 1) Colon

-- how a symbol begins at number i; where it has no label, one without a label is as good
abbrev pub Begins : Beginning → List Token → ℕ → Type 0
Begins beginnings.Guard tokens i = Stands tokens i When
Begins beginnings.Let tokens i = Stands tokens i token.Let
Begins (beginnings.Label name) tokens i = IsLabel (chars name.now) tokens i
Begins beginnings.Marked tokens i = Runs (want.symbol ∷ []) (want.marked ∷ []) tokens i i

-- the token that a mark is, and the symbol with it
abbrev pub mark_token : BlockMark → Token
mark_token marks.Offside = token.Offside
mark_token marks.Ignore = token.Ignore
mark_token marks.Align = token.Align

abbrev pub marked_of : BlockMark → tree.Symbol → tree.Symbol
marked_of marks.Offside x = tree.Offside x
marked_of marks.Ignore x = tree.Ignore x
marked_of marks.Align x = tree.Align x

-- whether a separated list or a group begins with the token
abbrev pub is_opening : Token → Bool
is_opening OpenBrace = true
is_opening Open = true
is_opening _ = false

-- neither begins at number i
pub data IsPlain (tokens : List Token) (i : ℕ) : Type 0 where
  at_end : drop i tokens ≡ [] → IsPlain tokens i
  at_token : (t : Token) → Stands tokens i t → is_opening t ≡ false → IsPlain tokens i

-- what a symbol without a mark opens with at number i
abbrev pub IsOpening : Opening → List Token → ℕ → Type 0
IsOpening openings.Brace tokens i = Stands tokens i OpenBrace
IsOpening openings.Bracket tokens i = Stands tokens i Open
IsOpening openings.Nothing tokens i = IsPlain tokens i

-- a pattern as a symbol
abbrev pub terminal_of : Pattern → tree.Symbol
terminal_of (Spelled word) = tree.Literal word
terminal_of (AnyOf class) = tree.OneOf class

-- the sign of an option or a list, or none, and what this makes of the atom before it
abbrev pub ReadsRepetition : List Token → List Token → Option Repetition → Type 0
ReadsRepetition from rest None = from ≡ rest
ReadsRepetition from rest (Some sign) = from ≡ repetition_token sign ∷ rest

abbrev pub symbol_with : Option Repetition → tree.Symbol → tree.Symbol
symbol_with None atom = atom
symbol_with (Some sign) atom = repeated_of sign atom

-- filters, and the symbol before them with them
pub record ReadsFiltered (symbol : tree.Symbol) (from rest : List Token) (x : tree.Symbol) : Type 0 where
  pub filters : List Filter
  pub reading : ReadsFilters from rest filters
  pub is : x ≡ filtered symbol filters

-- a sign or none and filters, and what they make of the atom before them
pub record ReadsAtomEnd (atom : tree.Symbol) (from rest : List Token) (x : tree.Symbol) : Type 0 where
  pub middle : List Token
  pub symbol : tree.Symbol
  pub sign : ReadsSign from middle atom symbol
  pub behind : ReadsFiltered symbol middle rest x

-- the same behind a group, whose alternatives stand before its `)`
abbrev pub ReadsGroupEnd : tree.Alternatives → List Token → List Token → tree.Symbol → Type 0
ReadsGroupEnd alternatives = After Close (ReadsAtomEnd (tree.Group alternatives))

-- the `}` of a separated list and its sign
abbrev pub ReadsClosing : List Token → List Token → ListSign → Type 0
ReadsClosing from rest sign = from ≡ CloseBrace ∷ list_token sign ∷ rest

-- these and filters, and the list of the item and the separator before them
pub record ReadsListEnd (item separator : tree.Symbol) (from rest : List Token) (x : tree.Symbol) : Type 0 where
  pub middle : List Token
  pub sign : ListSign
  pub closing : ReadsClosing from middle sign
  pub behind : ReadsFiltered (separated_of sign item separator) middle rest x
