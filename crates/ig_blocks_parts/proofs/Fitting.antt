-- What the pass needs of a symbol.
use Rattle.std.specs.Prelude.{◌≡◌, ◌⊎◌, ℕ, true, List, Some}
use Rattle.ig_grammar.specs.Symbol.{Symbol, Literal, OneOf, Call, Label, Guard, Let, Opt, Star, Plus, SepStar, SepPlus, Group, Offside, Ignore, Align, Filtered, Seq, Entry}
use Rattle.ig_grammar.specs.Symbol.{Symbols, no_symbols, next_symbol, Alternatives, no_alternatives, next_alternative}
use Rattle.ig_grammar.specs.Condition.{IsListed}
use Rattle.ig_grammar.specs.declared.declaration.DeclKind.{DeclKind}
use Rattle.ig_grammar.specs.declared.declaration.DeclKind.TheVariants.{Syntax}
use Rattle.ig_blocks_parts.specs.Setting.{Setting, Pair, lacking}
use Rattle.ig_blocks_parts.proofs.Reading.{IsWritten, Reads, AllRead, BindingsRead}

-- a call in a declaration of kind c: its name has a declaration; in a marked grammar it is a syntax one only in a syntax one
abbrev pub IsKnown : Setting → DeclKind → List ℕ → Type 0
IsKnown s c name = (kind : DeclKind) × (s.kind_of name ≡ Some kind) × (s.paired Syntax ≡ true → kind ≡ Syntax → c ≡ Syntax)

-- what the pass needs of a symbol in a declaration of kind c
abbrev mutual
  pub IsFit : Setting → DeclKind → Symbol → Type 0
  IsFit s c (Literal word) = Unit {0}
  IsFit s c (OneOf class) = Unit {0}
  IsFit s c (Call name arguments) = IsKnown s c name × AllRead s arguments
  IsFit s c (Label name x) = IsWritten s name × IsFit s c x
  IsFit s c (Guard e) = Reads s e
  IsFit s c (Let name e) = IsWritten s name × Reads s e
  IsFit s c (Opt x) = IsFit s c x
  IsFit s c (Star x) = IsFit s c x
  IsFit s c (Plus x) = IsFit s c x
  IsFit s c (SepStar x separator) = IsFit s c x × IsFit s c separator
  IsFit s c (SepPlus x separator) = IsFit s c x × IsFit s c separator
  IsFit s c (Group choices) = AreFitChoices s c choices
  IsFit s c (Offside x) = (c ≡ Syntax) × (s.paired Syntax ≡ true) × IsFit s c x
  IsFit s c (Ignore x) = IsFit s c x
  IsFit s c (Align x) = IsListed x × IsFit s c x
  IsFit s c (Filtered x filters) = IsFit s c x
  IsFit s c (Seq xs) = AreFit s c xs
  IsFit s c (Entry bindings x) = BindingsRead s bindings × IsFit s c x

  pub AreFit : Setting → DeclKind → Symbols → Type 0
  AreFit s c no_symbols = Unit {0}
  AreFit s c (next_symbol x xs) = IsFit s c x × AreFit s c xs

  pub AreFitChoices : Setting → DeclKind → Alternatives → Type 0
  AreFitChoices s c no_alternatives = Unit {0}
  AreFitChoices s c (next_alternative xs others) = AreFit s c xs × AreFitChoices s c others

-- a declaration of kind c has the pair, or there is none here
abbrev pub Suits : Setting → DeclKind → Pair → Type 0
Suits s c p = ((c ≡ Syntax) × (s.paired Syntax ≡ true)) ⊎ (p ≡ lacking)
