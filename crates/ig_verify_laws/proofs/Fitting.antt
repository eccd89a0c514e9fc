-- Symbols whose integers fit 64 bits.
use Rattle.std.proofs.Common.{List, [], ◌∷◌, ◌++◌, map}
use Rattle.ig_expr.specs.Expression.{Expression}
use Rattle.ig_grammar.specs.Alternative.{gathered_alternatives}
use Rattle.ig_grammar.specs.Binding.{Binding}
use Rattle.ig_grammar.specs.Symbol.{Symbol, Literal, OneOf, Call, Label, Guard, Let, Opt, Star, Plus, SepStar, SepPlus, Group, Offside, Ignore, Align, Filtered, Seq, Entry, gathered}
use Rattle.ig_grammar.specs.Symbol.{Symbols, no_symbols, next_symbol, Alternatives, no_alternatives, next_alternative}
use Rattle.ig_grammar.specs.declared.declaration.Decl.{Decl}
use Rattle.ig_grammar.specs.declared.declaration.Level.{Level}
use Rattle.ig_grammar.specs.declared.symbol.Alt.{Alt}
use Rattle.ig_verify_laws.specs.Ranges.{HasSmallIntegers}

abbrev pub EachFits : List Expression → Type 0
EachFits [] = Unit {0}
EachFits (e ∷ es) = HasSmallIntegers e × EachFits es

abbrev pub BindingsFit : List Binding → Type 0
BindingsFit [] = Unit {0}
BindingsFit (b ∷ bs) = HasSmallIntegers b.value × BindingsFit bs

abbrev mutual
  pub Fits : Symbol → Type 0
  Fits (Literal word) = Unit {0}
  Fits (OneOf class) = Unit {0}
  Fits (Call name arguments) = EachFits arguments
  Fits (Label name x) = Fits x
  Fits (Guard e) = HasSmallIntegers e
  Fits (Let name e) = HasSmallIntegers e
  Fits (Opt x) = Fits x
  Fits (Star x) = Fits x
  Fits (Plus x) = Fits x
  Fits (SepStar x separator) = Fits x × Fits separator
  Fits (SepPlus x separator) = Fits x × Fits separator
  Fits (Group choices) = ChoicesFit choices
  Fits (Offside x) = Fits x
  Fits (Ignore x) = Fits x
  Fits (Align x) = Fits x
  Fits (Filtered x filters) = Fits x
  Fits (Seq xs) = SymbolsFit xs
  Fits (Entry bindings x) = BindingsFit bindings × Fits x

  pub SymbolsFit : Symbols → Type 0
  SymbolsFit no_symbols = Unit {0}
  SymbolsFit (next_symbol x xs) = Fits x × SymbolsFit xs

  pub ChoicesFit : Alternatives → Type 0
  ChoicesFit no_alternatives = Unit {0}
  ChoicesFit (next_alternative xs others) = SymbolsFit xs × ChoicesFit others

abbrev pub ListFits : List Symbol → Type 0
ListFits [] = Unit {0}
ListFits (x ∷ xs) = Fits x × ListFits xs

abbrev pub AltsFit : List Alt → Type 0
AltsFit [] = Unit {0}
AltsFit (a ∷ others) = ListFits a.symbols × AltsFit others

abbrev pub LevelsFit : List Level → Type 0
LevelsFit [] = Unit {0}
LevelsFit (level ∷ others) = AltsFit level.alts × LevelsFit others

abbrev pub DeclsFit : List Decl → Type 0
DeclsFit [] = Unit {0}
DeclsFit (d ∷ ds) = LevelsFit d.levels × DeclsFit ds

pub each_joined : (es gs : List Expression) → EachFits es → EachFits gs → EachFits (es ++ gs)
each_joined [] gs a b = b
each_joined (e ∷ es) gs a b = (a.0, each_joined es gs a.1 b)

pub bindings_joined : (bs cs : List Binding) → BindingsFit bs → BindingsFit cs → BindingsFit (bs ++ cs)
bindings_joined [] cs a b = b
bindings_joined (x ∷ bs) cs a b = (a.0, bindings_joined bs cs a.1 b)

pub list_joined : (xs ys : List Symbol) → ListFits xs → ListFits ys → ListFits (xs ++ ys)
list_joined [] ys a b = b
list_joined (x ∷ xs) ys a b = (a.0, list_joined xs ys a.1 b)

pub decls_joined : (ds es : List Decl) → DeclsFit ds → DeclsFit es → DeclsFit (ds ++ es)
decls_joined [] es a b = b
decls_joined (d ∷ ds) es a b = (a.0, decls_joined ds es a.1 b)

pub gathered_fit : (xs : List Symbol) → ListFits xs → SymbolsFit (gathered xs)
gathered_fit [] a = tt
gathered_fit (x ∷ xs) a = (a.0, gathered_fit xs a.1)

pub listed_fit : (xs : List Symbol) → SymbolsFit (gathered xs) → ListFits xs
listed_fit [] a = tt
listed_fit (x ∷ xs) a = (a.0, listed_fit xs a.1)

pub alts_fit : (alts : List Alt) → ChoicesFit (gathered_alternatives alts) → AltsFit alts
alts_fit [] a = tt
alts_fit (x ∷ others) a = (listed_fit x.symbols a.0, alts_fit others a.1)

pub decls_mapped : (f : Decl → Decl) → ((d : Decl) → LevelsFit d.levels → LevelsFit (f d).levels) → (ds : List Decl) →
    DeclsFit ds → DeclsFit (map f ds)
decls_mapped f keep [] a = tt
decls_mapped f keep (d ∷ ds) a = (keep d a.0, decls_mapped f keep ds a.1)
