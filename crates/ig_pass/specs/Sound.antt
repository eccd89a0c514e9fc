-- What a grammar keeps to between the passes that make its core grammar.
use Rattle.std.specs.Prelude.{◌≡◌, ℕ, All, Contains, Some, slice_get, true}
use Rattle.ig_grammar.specs.Names.{names}
use Rattle.ig_grammar.specs.Numbering.{alternatives}
use Rattle.ig_grammar.specs.Regular.{OfEachLevel, AlternativesStandWell, AlternativesHaveNoMark}
use Rattle.ig_grammar.specs.Subterms.{subterms_of_alternatives}
use Rattle.ig_grammar.specs.Symbol.{Symbol, Filtered}
use Rattle.ig_grammar.specs.WellScoped.{IsWellScoped}
use Rattle.ig_grammar.specs.Checked.{CheckedGrammar, FitShapes, IsCall}
use Rattle.ig_grammar.specs.declared.symbol.Alt.{Alt}
use Rattle.ig_grammar.specs.declared.declaration.DeclKind.TheVariants.{Plain, Syntax}
use Rattle.ig_grammar.specs.declared.declaration.Decl.{Decl}
use Rattle.ig_grammar.specs.declared.grammar.Grammar.{Grammar}
use Rattle.ig_grammar.specs.declared.place.Shape.TheVariants.{Root}
use Rattle.ig_meaning.specs.Laws.{HasNoOperators}
use Rattle.ig_pass.specs.Added.{root_name, HasNoSign}
use Rattle.ig_pass.specs.Needs.{AlternativesAreEntered}
use Rattle.ig_pass.specs.Remaining.{IsExclusion}
use Rattle.ig_pass.specs.Rooted.{has_root}

-- a root that is a syntax declaration has calls alone, and no sequences of them
abbrev pub RootHasCallsAlone : CheckedGrammar → Type 0
RootHasCallsAlone c =
    (before : ℕ) (decl : Decl) (a : Alt) → slice_get c.grammar.decls before ≡ Some decl →
    slice_get c.shapes before ≡ Some Root → decl.kind ≡ Syntax → Contains (alternatives decl.levels) a → All IsCall a.symbols

-- a declaration that stands for the root has its name
abbrev pub RootIsNamed : CheckedGrammar → Type 0
RootIsNamed c =
    (before : ℕ) (decl : Decl) → slice_get c.grammar.decls before ≡ Some decl → slice_get c.shapes before ≡ Some Root →
    decl.name ≡ root_name

-- what holds before each pass, and behind each but the last
pub record IsSound (c : CheckedGrammar) : Type 0 where
  pub scoped : IsWellScoped c.grammar
  pub fit : FitShapes c.grammar c.shapes
  -- labels, marks, filters and entries stand where they may, and separators bind nothing
  pub well : OfEachLevel AlternativesStandWell c.grammar
  -- the bindings of entries are wanted inside
  pub entered : OfEachLevel AlternativesAreEntered c.grammar
  -- the name of the root is new, or that of the root
  pub fresh : Contains (names c.grammar.decls) root_name → has_root c.shapes ≡ true
  pub root_named : RootIsNamed c
  pub root_calls : RootHasCallsAlone c
  -- no declared name has a number sign
  pub unsigned : (decl : Decl) → Contains c.grammar.decls decl → HasNoSign decl.name

-- no declaration has operators
abbrev pub IsFree : Grammar → Type 0
IsFree g = (decl : Decl) → Contains g.decls decl → HasNoOperators decl.levels

-- no mark is left
abbrev pub IsUnmarked : Grammar → Type 0
IsUnmarked g = OfEachLevel AlternativesHaveNoMark g

-- layout is called in the open
abbrev pub IsPlain : Grammar → Type 0
IsPlain g = (decl : Decl) → Contains g.decls decl → decl.kind ≡ Plain

-- of filters only exclusions are left
abbrev pub ExcludesOnly : Symbol → Type 0
ExcludesOnly (Filtered x filters) = All IsExclusion filters
ExcludesOnly x = Unit {0}

abbrev pub HasExclusionsAlone : Grammar → Type 0
HasExclusionsAlone g = OfEachLevel (λ choices. All ExcludesOnly (subterms_of_alternatives choices)) g
