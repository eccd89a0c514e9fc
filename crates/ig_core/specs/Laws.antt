-- The core grammar of a grammar has the trees that the grammar permits.
use Rattle.std.specs.Prelude.{◌≡◌, ◌↔◌, ℕ, ◌<◌, ◌≤◌, List, Some, length, slice_get, option_map, map, true}
use Rattle.ig_text.specs.Input.{Input}
use Rattle.ig_text.specs.Tree.{Tree}
use Rattle.ig_expr.specs.ValuedTree as valued
use Rattle.ig_text.specs.declared.tag.Tag.TheVariants.{Rule}
use Rattle.ig_grammar.specs.Checked.{CheckedGrammar}
use Rattle.ig_grammar.specs.Numbering.{IsDeclaration}
use Rattle.ig_grammar.specs.Regular.{AlternativesStandWell, IsRegular, OfEachLevel}
use Rattle.ig_grammar.specs.Counts.{HasFewerThan}
use Rattle.ig_grammar.specs.declared.declaration.Decl.{Decl}
use Rattle.ig_grammar.specs.declared.grammar.Grammar.{Grammar}
use Rattle.ig_grammar.specs.declared.place.Shape.{Shape}
use Rattle.ig_meaning.specs.Annotated.{Annotates}
use Rattle.ig_meaning.specs.Permitted.{Permitted}
use Rattle.ig_item.specs.Annotated as core
use Rattle.ig_item.specs.CoreTrees.{CoreTree}
use Rattle.ig_item.specs.Core.{dots, IsAlternative}
use Rattle.ig_item.specs.Limits.{most_dots}
use Rattle.ig_item.specs.Regular as item
use Rattle.ig_item.specs.TagOrder.{TagsRise}
use Rattle.ig_item.specs.WellKinded.{IsWellKinded, NoneTwice}
use Rattle.ig_item.specs.declared.core_grammar.CoreAlt.{CoreAlt}
use Rattle.ig_item.specs.declared.core_grammar.Nonterminal.{Nonterminal}
use Rattle.ig_pass.specs.Added.{column_name, first_name, margin_name, root_name}
use Rattle.ig_pass.specs.Rooted.{has_root}
use Rattle.ig_pass.specs.SameTrees.{PermitSame}
use Rattle.ig_pass.specs.SameValues.{KeepsValues}
use Rattle.ig_pass.specs.Sound.{RootIsNamed}
use Rattle.ig_pass.specs.Unbound.{IsUnbound}
use Rattle.ig_levels.specs.Levels.{LevelsOf}
use Rattle.ig_levels.specs.Laws.{KeptByLevels}
use Rattle.ig_blocks_parts.specs.Blocks.{BlocksOf}
use Rattle.ig_blocks_parts.specs.Laws.{KeptByBlocks, PlainIsUnmarked}
use Rattle.ig_lexical.specs.Layout.{LayoutOf}
use Rattle.ig_lexical.specs.Laws.{KeptByFilters, KeptByLayout}
use Rattle.ig_ebnf_variables.specs.Laws.{KeptByLists}
use Rattle.ig_core.specs.CoreOf.{core_of}
use Rattle.ig_core.specs.Limits.{counts_before_passes, most_declarations}
use Rattle.ig_core.specs.Lowered.{BeforeLists, IsBuildable, Lowered, CoreOf, IsNumbered}
use Rattle.ig_core.specs.Notation.{IsOfNotation, unchanged}
use Rattle.ig_core.specs.Ready.{IsReady}

-- what each pass keeps of the grammar that those before it leave
pub record ArePassed (c : CheckedGrammar) : Type 0 where
  pub levels : KeptByLevels c
  -- the names that the pass for blocks adds are not in use
  pub margin : IsUnbound (LevelsOf c).grammar margin_name
  pub first : IsUnbound (LevelsOf c).grammar first_name
  pub column : IsUnbound (LevelsOf c).grammar column_name
  -- and no mark is left where a declaration is plain
  pub plain : PlainIsUnmarked (LevelsOf c).grammar
  pub blocks : KeptByBlocks (LevelsOf c)
  pub layout : KeptByLayout (BlocksOf (LevelsOf c))
  pub filters : KeptByFilters (LayoutOf (BlocksOf (LevelsOf c)))
  -- where numbers tell the names apart that the pass for lists adds
  pub lists : IsNumbered c → KeptByLists (BeforeLists c)

-- each of the five results in turn is well scoped, regular in its form, and has no name that a later pass adds
abbrev pub PassesInTurn : Type 0
PassesInTurn = (c : CheckedGrammar) → IsBuildable c → ArePassed c

-- each of the five results in turn is regular, counts too; and numbers tell the names apart that the pass for lists adds
pub record AreRegular (c : CheckedGrammar) : Type 0 where
  pub levels : IsRegular (LevelsOf c).grammar
  pub blocks : IsRegular (BlocksOf (LevelsOf c)).grammar
  pub layout : IsRegular (LayoutOf (BlocksOf (LevelsOf c))).grammar
  pub filters : IsRegular (BeforeLists c).grammar
  pub numbered : IsNumbered c
  pub lists : IsRegular (Lowered c).grammar

-- of a grammar whose counts are small
abbrev pub PassesAreRegular : Type 0
PassesAreRegular = (c : CheckedGrammar) → IsBuildable c → HasFewerThan counts_before_passes c.grammar → AreRegular c

-- what all passes leave permits the same trees and keeps their values, and the last step takes it; a declaration stands
-- for the root, and is named `$root`
pub record IsLeft (c : CheckedGrammar) : Type 0 where
  pub same : PermitSame c (Lowered c)
  pub values : KeepsValues c (Lowered c)
  pub ready : IsReady (Lowered c).grammar (Lowered c).shapes
  -- each symbol stands where it may, and each literal has a character
  pub well : OfEachLevel AlternativesStandWell (Lowered c).grammar
  pub root_named : RootIsNamed (Lowered c)
  pub rooted : has_root (Lowered c).shapes ≡ true

abbrev pub PassesKeep : Type 0
PassesKeep = (c : CheckedGrammar) → IsBuildable c → IsNumbered c → IsLeft c

-- a grammar's core grammar has the trees that the grammar permits
abbrev pub CoreTreesArePermitted : Type 0
CoreTreesArePermitted =
    (c : CheckedGrammar) (text : Input) (t : Tree) → IsBuildable c → IsNumbered c →
    CoreTree (CoreOf c) text t ↔ Permitted c.grammar c.shapes text t

-- and what annotates a permitted tree annotates it as a tree of the core grammar
abbrev pub ValuesAreThoseOfCore : Type 0
ValuesAreThoseOfCore =
    (c : CheckedGrammar) (text : Input) (t : Tree) (u : valued.Tree) → IsBuildable c → IsNumbered c →
    Permitted c.grammar c.shapes text t → Annotates c.grammar c.shapes text t u → core.Annotates (CoreOf c) text t u

-- the core grammar of what the passes leave is well kinded, where it has few dots
abbrev pub CoresAreWellKinded : Type 0
CoresAreWellKinded =
    (g : Grammar) (shapes : List Shape) → IsReady g shapes → length g.decls < most_declarations →
    dots (core_of g shapes) ≤ most_dots → IsWellKinded (core_of g shapes)

-- nonterminal 0 is named `$root`, and the names of the nonterminals differ
pub record HasCoreNames (c : CheckedGrammar) : Type 0 where
  pub root : option_map (λ nonterminal. nonterminal.name) (slice_get (CoreOf c) 0) ≡ Some root_name
  pub differ : NoneTwice (map (λ nonterminal. nonterminal.name) (CoreOf c))

abbrev pub CoresAreNamed : Type 0
CoresAreNamed = (c : CheckedGrammar) → IsBuildable c → IsNumbered c → HasCoreNames c

-- of a grammar as it is written each declaration is the nonterminal of its number, under its name; and where an alternative of
-- a nonterminal has the tag of a rule, the tag's number is that of a declaration
pub record NumbersDeclarations (g : Grammar) : Type 0 where
  pub named : (n : ℕ) (decl : Decl) → IsDeclaration g n decl →
      option_map (λ nonterminal. nonterminal.name) (slice_get (CoreOf (unchanged g)) n) ≡ Some decl.name
  pub only : (n a m k : ℕ) (nonterminal : Nonterminal) (alternative : CoreAlt) →
      IsAlternative (CoreOf (unchanged g)) n a nonterminal alternative → alternative.tag ≡ Rule m k →
      (decl : Decl) × IsDeclaration g m decl

abbrev pub DeclarationsKeepNumbers : Type 0
DeclarationsKeepNumbers = (g : Grammar) → NumbersDeclarations g

-- a grammar that the notation can say is buildable as it is written
abbrev pub NotationIsBuildable : Type 0
NotationIsBuildable = (g : Grammar) → IsOfNotation g → IsBuildable (unchanged g)

-- of two alternatives of a nonterminal the later one has the greater tag number
abbrev pub TagsRiseInCores : Type 0
TagsRiseInCores = (c : CheckedGrammar) → IsBuildable c → IsNumbered c → TagsRise (CoreOf c)

-- no literal of a grammar's core grammar is empty
abbrev pub CoresAreRegular : Type 0
CoresAreRegular = (c : CheckedGrammar) → IsBuildable c → IsNumbered c → item.IsRegular (CoreOf c)
