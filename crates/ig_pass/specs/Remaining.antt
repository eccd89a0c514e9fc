-- The forms that remain behind all passes: literals, classes and calls, with exclusions and a label, guards and lets.
use Rattle.std.specs.Prelude.{◌≡◌, ℕ, List, [], ◌∷◌, All, Contains, Option, Some, None, length}
use Rattle.ig_text.specs.declared.pattern.Pattern.{Pattern}
use Rattle.ig_grammar.specs.Symbol.{Symbol, Literal, OneOf, Call, Label, Guard, Let, Filtered}
use Rattle.ig_grammar.specs.Numbering.{alternatives, layout_among}
use Rattle.ig_meaning.specs.Laws.{HasNoOperators}
use Rattle.ig_grammar.specs.declared.filter.Filter.{Filter}
use Rattle.ig_grammar.specs.declared.filter.Filter.TheVariants.{Not}
use Rattle.ig_grammar.specs.declared.symbol.Alt.{Alt}
use Rattle.ig_grammar.specs.declared.declaration.Decl.{Decl}
use Rattle.ig_grammar.specs.declared.grammar.Grammar.{Grammar}

-- a literal, a class, or a call of a name that may be called with so many arguments
abbrev pub IsTerm : (List ℕ → ℕ → Type 0) → Symbol → Type 0
IsTerm May (Literal word) = Unit {0}
IsTerm May (OneOf class) = Unit {0}
IsTerm May (Call name arguments) = May name (length arguments)
IsTerm May x = ⊥

abbrev pub IsExclusion : Filter → Type 0
IsExclusion (Not pattern) = Unit {0}
IsExclusion f = ⊥

-- maybe with exclusions
abbrev pub IsExcluding : (List ℕ → ℕ → Type 0) → Symbol → Type 0
IsExcluding May (Filtered x filters) = All IsExclusion filters × IsTerm May x
IsExcluding May x = IsTerm May x

-- maybe with a label
abbrev pub Remains : (List ℕ → ℕ → Type 0) → Symbol → Type 0
Remains May (Label name x) = IsExcluding May x
Remains May (Guard condition) = Unit {0}
Remains May (Let name value) = Unit {0}
Remains May x = IsExcluding May x

-- the label, and the symbol without it
abbrev pub label_of : Symbol → Option (List ℕ)
label_of (Label name x) = Some name
label_of x = None

abbrev pub unlabelled : Symbol → Symbol
unlabelled (Label name x) = x
unlabelled x = x

-- the patterns of exclusions
abbrev pub exclusions : List Filter → List Pattern
exclusions [] = []
exclusions (Not pattern ∷ filters) = pattern ∷ exclusions filters
exclusions (f ∷ filters) = exclusions filters

-- the excluded patterns, and the symbol without its filters
abbrev pub excluded_of : Symbol → List Pattern
excluded_of (Filtered x filters) = exclusions filters
excluded_of x = []

abbrev pub unfiltered : Symbol → Symbol
unfiltered (Filtered x filters) = x
unfiltered x = x

abbrev pub main_of : Symbol → Symbol
main_of x = unfiltered (unlabelled x)

abbrev pub patterns_of : Symbol → List Pattern
patterns_of x = excluded_of (unlabelled x)

-- only forms that remain behind all passes, no levels and no layout
pub record IsRemaining (g : Grammar) : Type 0 where
  -- no layout is declared, as where each declaration is plain
  pub no_layout : layout_among g.decls ≡ None
  pub free : (decl : Decl) → Contains g.decls decl → HasNoOperators decl.levels
  pub forms : (decl : Decl) (a : Alt) → Contains g.decls decl → Contains (alternatives decl.levels) a →
      All (Remains (λ name n. Unit {0})) a.symbols
