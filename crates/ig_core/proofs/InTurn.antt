-- The passes as the program runs them: what each one asks of the grammar that those before it made.
use Rattle.std.proofs.Common.{◌≡◌, ◌∙◌, Result, Ok, Err, None, refl, sym, ap, subst}
use Rattle.std.specs.Prelude.{IfOk}
use Rattle.ig_grammar.specs.Checked.{CheckedGrammar}
use Rattle.ig_grammar.specs.Numbering.{layout_among}
use Rattle.ig_pass.specs.Added.{margin_name, first_name, column_name}
use Rattle.ig_pass.specs.Sound.{IsSound, IsFree, IsUnmarked, HasExclusionsAlone}
use Rattle.ig_pass.specs.Unbound.{IsUnbound}
use Rattle.ig_levels.specs.Levels.{LevelsOf}
use Rattle.ig_blocks_parts.specs.Blocks.{BlocksOf}
use Rattle.ig_blocks_parts.specs.Laws.{PlainIsUnmarked}
use Rattle.ig_lexical.specs.Layout.{LayoutOf}
use Rattle.ig_lexical.specs.Filters.{FiltersOf}
use Rattle.ig_ebnf_variables.specs.Lists.{ListsOf, HasFewLists}
use Rattle.ig_core.specs.CoreOf.{core_of}
use Rattle.ig_core.specs.Laws.{ArePassed}
use Rattle.ig_core.specs.Lowered.{BeforeLists, Lowered, CoreOf, IsNumbered}

pub record AtLevels (x : CheckedGrammar) : Type 0 where
  pub sound : IsSound x
  pub free : IsFree x.grammar
  pub margin : IsUnbound x.grammar margin_name
  pub first : IsUnbound x.grammar first_name
  pub column : IsUnbound x.grammar column_name
  pub plain : PlainIsUnmarked x.grammar

pub record AtBlocks (x : CheckedGrammar) : Type 0 where
  pub sound : IsSound x
  pub free : IsFree x.grammar
  pub unmarked : IsUnmarked x.grammar

pub record AtFilters (c x : CheckedGrammar) : Type 0 where
  pub is : x ≡ BeforeLists c
  pub sound : IsSound x
  pub free : IsFree x.grammar
  pub unmarked : IsUnmarked x.grammar
  pub no_layout : layout_among x.grammar.decls ≡ None
  pub excluding : HasExclusionsAlone x.grammar

module _ (c : CheckedGrammar) (at : ArePassed c) where
  pub at_levels : (x : CheckedGrammar) → x ≡ LevelsOf c → AtLevels x
  at_levels x is =
      subst AtLevels (sym is)
      (record {
        sound = at.levels.sound;
        free = at.levels.free;
        margin = at.margin;
        first = at.first;
        column = at.column;
        plain = at.plain;
      })

  pub at_blocks : (x y : CheckedGrammar) → x ≡ LevelsOf c → y ≡ BlocksOf x → AtBlocks y
  at_blocks x y is made =
      let kept = at.blocks in
      subst AtBlocks (sym (made ∙ ap BlocksOf is))
      (record { sound = kept.sound; free = kept.free; unmarked = kept.unmarked })

  at_last : AtFilters c (BeforeLists c)
  unfolding BeforeLists
  at_last =
      let kept = at.filters in
      record {
        is = refl;
        sound = kept.sound;
        free = kept.free;
        unmarked = kept.unmarked;
        no_layout = kept.no_layout;
        excluding = kept.excluding;
      }

  last_is : FiltersOf (LayoutOf (BlocksOf (LevelsOf c))) ≡ BeforeLists c
  unfolding BeforeLists
  last_is = refl

  pub at_filters : (x y z w : CheckedGrammar) → x ≡ LevelsOf c → y ≡ BlocksOf x → z ≡ LayoutOf y → w ≡ FiltersOf z → AtFilters c w
  at_filters x y z w is made laid guarded =
      subst (AtFilters c) (sym (guarded ∙ ap FiltersOf (laid ∙ ap LayoutOf (made ∙ ap BlocksOf is)) ∙ last_is)) at_last

lists_are : (c w : CheckedGrammar) → w ≡ BeforeLists c → ListsOf w ≡ Lowered c
unfolding Lowered
lists_are c w is = ap ListsOf is

-- what the last pass gives
module _ {R E : Type 0} (c w : CheckedGrammar) (is : w ≡ BeforeLists c) where
  pub lowered_by : (view : R → CheckedGrammar) (r : Result R E) → IfOk r (λ x. view x ≡ ListsOf w) → IfOk r (λ x. view x ≡ Lowered c)
  lowered_by view (Ok x) made = made ∙ lists_are c w is
  lowered_by view (Err e) made = tt

  pub numbered_by : (r : Result R E) → IfOk r (λ x. HasFewLists w.grammar) → IfOk r (λ x. IsNumbered c)
  numbered_by (Ok x) few = record { few_lists = subst (λ (z : CheckedGrammar). HasFewLists z.grammar) is few }
  numbered_by (Err e) few = tt

-- the core grammar of what the passes left
pub core_is : (c lowered : CheckedGrammar) → lowered ≡ Lowered c → core_of lowered.grammar lowered.shapes ≡ CoreOf c
unfolding CoreOf
core_is c lowered is = ap (λ (z : CheckedGrammar). core_of z.grammar z.shapes) is
