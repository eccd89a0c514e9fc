-- What the passes make of a grammar, one behind the other, and the core grammar of what they leave.
use Rattle.std.specs.Prelude.{List}
use Rattle.ig_grammar.specs.Checked.{CheckedGrammar}
use Rattle.ig_item.specs.declared.core_grammar.Nonterminal.{Nonterminal}
use Rattle.ig_pass.specs.Added.{left_name, right_name, margin_name, first_name, column_name}
use Rattle.ig_pass.specs.Sound.{IsSound}
use Rattle.ig_pass.specs.Unbound.{IsUnbound}
use Rattle.ig_levels.specs.Levels.{LevelsOf}
use Rattle.ig_blocks_parts.specs.Blocks.{BlocksOf}
use Rattle.ig_blocks_parts.specs.Laws.{PlainIsUnmarked}
use Rattle.ig_lexical.specs.Layout.{LayoutOf}
use Rattle.ig_lexical.specs.Filters.{FiltersOf}
use Rattle.ig_ebnf_variables.specs.Lists.{ListsOf, HasFewLists}
use Rattle.ig_core.specs.CoreOf.{core_of}

-- what a grammar keeps to that the passes take: it is sound, no mark is left where some declaration is plain, and none of
-- the names that they add to it is in use
pub record IsBuildable (c : CheckedGrammar) : Type 0 where
  pub sound : IsSound c
  pub plain : PlainIsUnmarked c.grammar
  pub left : IsUnbound c.grammar left_name
  pub right : IsUnbound c.grammar right_name
  pub margin : IsUnbound c.grammar margin_name
  pub first : IsUnbound c.grammar first_name
  pub column : IsUnbound c.grammar column_name

-- without levels and blocks, with layout called in the open and filters as guards; lists, options and groups are left
unfoldable pub BeforeLists : CheckedGrammar → CheckedGrammar
BeforeLists c = FiltersOf (LayoutOf (BlocksOf (LevelsOf c)))

-- what all passes leave
unfoldable pub Lowered : CheckedGrammar → CheckedGrammar
Lowered c = ListsOf (BeforeLists c)

-- the core grammar of the grammar
unfoldable pub CoreOf : CheckedGrammar → List Nonterminal
CoreOf c = core_of (Lowered c).grammar (Lowered c).shapes

-- its lists, options and groups are so few that numbers tell the names apart that are added for them
pub record IsNumbered (c : CheckedGrammar) : Type 0 where
  pub few_lists : HasFewLists (BeforeLists c).grammar
