-- Which grammars are regular: what a grammar that was read, and each one that a pass makes of it, keeps to.
use Rattle.std.specs.Prelude.{◌≡◌, List, [], ◌∷◌, map, All, Contains}
use Rattle.std.specs.List.{flat_map}
use Rattle.ig_text.specs.declared.pattern.Pattern.{Pattern}
use Rattle.ig_text.specs.declared.pattern.Pattern.TheVariants.{Literal as Spelled}
use Rattle.ig_text.specs.Pattern.{HasNoEmptyLiteral}
use Rattle.ig_text.specs.Limits.{numbers_end}
use Rattle.ig_expr.specs.Expression.{patterns_in}
use Rattle.ig_grammar.specs.Symbol.{Symbol, Literal, Label, Guard, Let, Opt, Star, Plus, SepStar, SepPlus, Group, Offside, Ignore, Align, Filtered, Seq, Entry}
use Rattle.ig_grammar.specs.Symbol.{Alternatives}
use Rattle.ig_grammar.specs.Subterms.{subterms_of_alternatives, bound_names}
use Rattle.ig_grammar.specs.Alternative.{gathered_alternatives}
use Rattle.ig_grammar.specs.Condition.{expressions}
use Rattle.ig_grammar.specs.declared.filter.Filter.{Filter}
use Rattle.ig_grammar.specs.declared.filter.Filter.TheVariants.{NotFollowed, NotPreceded, Not}
use Rattle.ig_grammar.specs.declared.declaration.DeclKind.TheVariants.{Plain}
use Rattle.ig_grammar.specs.declared.declaration.Level.{Level}
use Rattle.ig_grammar.specs.declared.declaration.Decl.{Decl}
use Rattle.ig_grammar.specs.declared.grammar.Grammar.{Grammar}
use Rattle.ig_grammar.specs.Counts.{HasFewerThan}

-- what a label may stand directly round: no second label, guard, let or sequence
abbrev pub MayHaveLabel : Symbol → Type 0
MayHaveLabel (Label name x) = ⊥
MayHaveLabel (Guard e) = ⊥
MayHaveLabel (Let name e) = ⊥
MayHaveLabel (Seq xs) = ⊥
MayHaveLabel x = Unit {0}

-- what a mark may stand directly round: nor a label or a second mark
abbrev pub MayHaveMark : Symbol → Type 0
MayHaveMark (Offside x) = ⊥
MayHaveMark (Ignore x) = ⊥
MayHaveMark (Align x) = ⊥
MayHaveMark x = MayHaveLabel x

-- what filters may stand directly round: nor a label, a mark or other filters
abbrev pub MayHaveFilters : Symbol → Type 0
MayHaveFilters (Filtered x filters) = ⊥
MayHaveFilters x = MayHaveMark x

-- what an option, a star or a plus may be of: what may have filters, or a sequence
abbrev pub MayHaveSign : Symbol → Type 0
MayHaveSign (Seq xs) = Unit {0}
MayHaveSign x = MayHaveFilters x

-- what a separated list may be of: what may have a label, or a sequence
abbrev pub MayBeSeparated : Symbol → Type 0
MayBeSeparated (Seq xs) = Unit {0}
MayBeSeparated x = MayHaveLabel x

-- a list, an option or a group
abbrev pub MayHaveEntry : Symbol → Type 0
MayHaveEntry (Opt x) = Unit {0}
MayHaveEntry (Star x) = Unit {0}
MayHaveEntry (Plus x) = Unit {0}
MayHaveEntry (SepStar x separator) = Unit {0}
MayHaveEntry (SepPlus x separator) = Unit {0}
MayHaveEntry (Group choices) = Unit {0}
MayHaveEntry x = ⊥

abbrev pub BindsNothing : Symbol → Type 0
BindsNothing x = bound_names x ≡ []

-- what the symbol is directly round may stand there; items and separators bind nothing
abbrev pub FitsRound : Symbol → Type 0
FitsRound (Label name x) = MayHaveLabel x
FitsRound (Opt x) = MayHaveSign x × BindsNothing x
FitsRound (Star x) = MayHaveSign x × BindsNothing x
FitsRound (Plus x) = MayHaveSign x × BindsNothing x
FitsRound (SepStar x separator) =
    MayBeSeparated x × MayBeSeparated separator × BindsNothing x × BindsNothing separator
FitsRound (SepPlus x separator) =
    MayBeSeparated x × MayBeSeparated separator × BindsNothing x × BindsNothing separator
FitsRound (Offside x) = MayHaveMark x
FitsRound (Ignore x) = MayHaveMark x
FitsRound (Align x) = MayHaveMark x
FitsRound (Filtered x filters) = MayHaveFilters x
FitsRound (Entry bindings x) = MayHaveEntry x
FitsRound x = Unit {0}

abbrev pub pattern_of : Filter → Pattern
pattern_of (NotFollowed pattern) = pattern
pattern_of (NotPreceded pattern) = pattern
pattern_of (Not pattern) = pattern

-- the patterns of a symbol itself: its literal, those of its filters, and those in its expressions
abbrev pub patterns_of : Symbol → List Pattern
patterns_of (Literal word) = Spelled word ∷ []
patterns_of (Filtered x filters) = map pattern_of filters
patterns_of x = flat_map patterns_in (expressions x)

-- none of its own literals is empty, and it stands round what it may
abbrev pub IsPlaced : Symbol → Type 0
IsPlaced x = All HasNoEmptyLiteral (patterns_of x) × FitsRound x

abbrev pub IsNoMark : Symbol → Type 0
IsNoMark (Offside x) = ⊥
IsNoMark (Ignore x) = ⊥
IsNoMark (Align x) = ⊥
IsNoMark x = Unit {0}

-- a fact of the alternatives of each level
abbrev pub OfEachLevel : (Alternatives → Type 0) → Grammar → Type 0
OfEachLevel P g =
    (decl : Decl) (level : Level) → Contains g.decls decl → Contains decl.levels level →
    P (gathered_alternatives level.alts)

abbrev pub AlternativesStandWell : Alternatives → Type 0
AlternativesStandWell choices = All IsPlaced (subterms_of_alternatives choices)

abbrev pub AlternativesHaveNoMark : Alternatives → Type 0
AlternativesHaveNoMark choices = All IsNoMark (subterms_of_alternatives choices)

pub record IsRegular (g : Grammar) : Type 0 where
  pub well : OfEachLevel AlternativesStandWell g
  -- where some declaration is plain, no mark is left
  pub unmarked : (decl : Decl) → Contains g.decls decl → decl.kind ≡ Plain → OfEachLevel AlternativesHaveNoMark g
  pub counted : HasFewerThan numbers_end g
