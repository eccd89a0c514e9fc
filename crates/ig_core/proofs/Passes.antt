-- What the passes keep, one behind the other.
use Rattle.std.proofs.Common.{◌≡◌, ℕ, List, ◌∷◌, ap, arith}
use Rattle.std.specs.Prelude.{◌≢◌}
use Rattle.ig_grammar.specs.Checked.{CheckedGrammar}
use Rattle.ig_meaning.specs.Laws.{TreesWithoutOperatorsAreClean}
use Rattle.ig_pass.specs.Added.{left_name, right_name, margin_name, first_name, column_name}
use Rattle.ig_pass.specs.Rooted.{RootedIsTheSame}
use Rattle.ig_pass.specs.SameTrees.{PermitSame, SameTreesIsAnEquivalence}
use Rattle.ig_pass.specs.SameValues.{KeepsValues}
use Rattle.ig_pass.specs.Unbound.{IsUnbound}
use Rattle.ig_levels.specs.Levels.{LevelsOf}
use Rattle.ig_levels.specs.Laws.{LevelsKeep, KeptByLevels}
use Rattle.ig_blocks_parts.specs.Blocks.{BlocksOf}
use Rattle.ig_blocks_parts.specs.Laws.{BlocksKeep, KeptByBlocks, PlainIsUnmarked}
use Rattle.ig_lexical.specs.Layout.{LayoutOf}
use Rattle.ig_lexical.specs.Laws.{LayoutKeeps, KeptByLayout, FiltersKeep, KeptByFilters}
use Rattle.ig_ebnf_variables.specs.Lists.{ListsOf}
use Rattle.ig_ebnf_variables.specs.Laws.{ListsKeep, KeptByLists}
use Rattle.ig_core.specs.Lowered.{IsBuildable, BeforeLists, Lowered, CoreOf, IsNumbered}
use Rattle.ig_core.specs.Laws.{ArePassed, IsLeft, PassesInTurn, PassesKeep, CoreTreesArePermitted, CoresAreNamed, TagsRiseInCores}
use Rattle.ig_core.specs.Laws.{ValuesAreThoseOfCore}
use Rattle.ig_core.proofs.Law.{core_trees_permitted, core_values}
use Rattle.ig_core.proofs.CoreNames.{core_names_differ}
use Rattle.ig_core.proofs.WellKinded.{tags_rise}
use Rattle.ig_core.proofs.RootNames.{root_named}
use Rattle.ig_core.proofs.Unmarked.{levels_plain}

-- what each pass before that for lists keeps
pub record Before : Type 0 where
  pub levels : LevelsKeep
  pub blocks : BlocksKeep
  pub layout : LayoutKeeps
  pub filters : FiltersKeep
  pub root : RootedIsTheSame

-- names that begin with a dot differ where the characters behind it do
abbrev behind_dot : List ℕ → ℕ
behind_dot (first ∷ second ∷ others) = second
behind_dot word = 0

differ_behind_dot : (a b : List ℕ) → (behind_dot a ≡ behind_dot b → ⊥) → a ≢ b
differ_behind_dot a b other = λ e. other (ap behind_dot e)

margin_is_new : (margin_name ≢ left_name) × (margin_name ≢ right_name)
margin_is_new =
    (differ_behind_dot margin_name left_name (λ e. omega (arith, e)), differ_behind_dot margin_name right_name (λ e. omega (arith, e)))

first_is_new : (first_name ≢ left_name) × (first_name ≢ right_name)
first_is_new =
    (differ_behind_dot first_name left_name (λ e. omega (arith, e)), differ_behind_dot first_name right_name (λ e. omega (arith, e)))

column_is_new : (column_name ≢ left_name) × (column_name ≢ right_name)
column_is_new =
    (differ_behind_dot column_name left_name (λ e. omega (arith, e)), differ_behind_dot column_name right_name (λ e. omega (arith, e)))

-- what each pass keeps of what those before it leave
module _ (law : Before) (c : CheckedGrammar) (can : IsBuildable c) where
  levels : KeptByLevels c
  levels = law.levels c can.sound can.left can.right

  margin : IsUnbound (LevelsOf c).grammar margin_name
  margin = levels.unbound margin_name margin_is_new.0 margin_is_new.1 can.margin

  first : IsUnbound (LevelsOf c).grammar first_name
  first = levels.unbound first_name first_is_new.0 first_is_new.1 can.first

  column : IsUnbound (LevelsOf c).grammar column_name
  column = levels.unbound column_name column_is_new.0 column_is_new.1 can.column

  plain : PlainIsUnmarked (LevelsOf c).grammar
  plain = levels_plain law.root c can.sound can.plain

  blocks : KeptByBlocks (LevelsOf c)
  blocks = law.blocks (LevelsOf c) levels.sound levels.free margin first column plain

  layout : KeptByLayout (BlocksOf (LevelsOf c))
  layout = law.layout (BlocksOf (LevelsOf c)) blocks.sound blocks.free blocks.unmarked

  filters : KeptByFilters (LayoutOf (BlocksOf (LevelsOf c)))
  filters = law.filters (LayoutOf (BlocksOf (LevelsOf c))) layout.sound layout.free layout.unmarked layout.no_layout

  lists : ListsKeep → IsNumbered c → KeptByLists (BeforeLists c)
  unfolding BeforeLists
  lists keep numbered =
      keep (BeforeLists c) filters.sound filters.free filters.unmarked filters.no_layout filters.excluding
      numbered.few_lists

pub passes_in_turn : Before → ListsKeep → PassesInTurn
passes_in_turn law keep c can =
    record {
      levels = levels law c can;
      margin = margin law c can;
      first = first law c can;
      column = column law c can;
      plain = plain law c can;
      blocks = blocks law c can;
      layout = layout law c can;
      filters = filters law c can;
      lists = lists law c can keep;
    }

-- before the pass for lists the trees are the same
same_before : SameTreesIsAnEquivalence → (c : CheckedGrammar) → ArePassed c → PermitSame c (BeforeLists c)
unfolding BeforeLists
same_before law c at =
    law.chained c (LevelsOf c) (BeforeLists c) at.levels.same
    (law.chained (LevelsOf c) (BlocksOf (LevelsOf c)) (BeforeLists c) at.blocks.same
    (law.chained (BlocksOf (LevelsOf c)) (LayoutOf (BlocksOf (LevelsOf c))) (BeforeLists c) at.layout.same at.filters.same))

-- and so are their values
values_before : SameTreesIsAnEquivalence → (c : CheckedGrammar) → ArePassed c → KeepsValues c (BeforeLists c)
unfolding BeforeLists
values_before law c at =
    law.values_chained c (LevelsOf c) (BeforeLists c) at.levels.same at.levels.values
    (law.values_chained (LevelsOf c) (BlocksOf (LevelsOf c)) (BeforeLists c) at.blocks.same at.blocks.values
    (law.values_chained (BlocksOf (LevelsOf c)) (LayoutOf (BlocksOf (LevelsOf c))) (BeforeLists c) at.layout.same at.layout.values at.filters.values))

left_by : SameTreesIsAnEquivalence → (c : CheckedGrammar) → PermitSame c (BeforeLists c) → KeepsValues c (BeforeLists c) → KeptByLists (BeforeLists c) →
    IsLeft c
unfolding Lowered
left_by law c same values last =
    record {
      same = law.chained c (BeforeLists c) (ListsOf (BeforeLists c)) same last.same;
      values = law.values_chained c (BeforeLists c) (ListsOf (BeforeLists c)) same values last.values;
      ready = record { scoped = last.scoped; fit = last.fit; remaining = last.remaining };
      well = last.well;
      root_named = last.root_named;
      rooted = last.rooted;
    }

pub passes_keep : PassesInTurn → SameTreesIsAnEquivalence → PassesKeep
passes_keep turn equal c can numbered =
    let at = turn c can in left_by equal c (same_before equal c at) (values_before equal c at) (at.lists numbered)

pub trees_permitted : TreesWithoutOperatorsAreClean → PassesKeep → CoreTreesArePermitted
unfolding CoreOf
trees_permitted clean keep c text t can numbered =
    let left = keep c can numbered in
    let last = core_trees_permitted clean (Lowered c).grammar (Lowered c).shapes text t left.ready in
    let same = left.same.same text t in
    (λ tree. same.1 (last.0 tree), λ permitted. last.1 (same.0 permitted))

pub values_of_core : PassesKeep → ValuesAreThoseOfCore
unfolding CoreOf
values_of_core keep c text t u can numbered permitted annotated =
    let left = keep c can numbered in
    core_values (Lowered c).grammar (Lowered c).shapes text t u left.ready (left.values.values text t u permitted annotated)

pub cores_named : PassesKeep → CoresAreNamed
unfolding CoreOf
cores_named keep c can numbered =
    let left = keep c can numbered in
    record {
      root = root_named (Lowered c).grammar (Lowered c).shapes left.root_named;
      differ = core_names_differ (Lowered c).grammar (Lowered c).shapes left.ready left.rooted;
    }

pub core_tags : PassesKeep → TagsRiseInCores
unfolding CoreOf
core_tags keep c can numbered = tags_rise (Lowered c).grammar (Lowered c).shapes (keep c can numbered).ready
