-- What the passes for layout and for filters keep, and how much they add.
use Rattle.std.specs.Prelude.{◌≡◌, None}
use Rattle.ig_grammar.specs.Numbering.{layout_among}
use Rattle.ig_grammar.specs.Checked.{CheckedGrammar}
use Rattle.ig_pass.specs.Counts.{Multiplies}
use Rattle.ig_pass.specs.SameTrees.{PermitSame}
use Rattle.ig_pass.specs.SameValues.{KeepsValues}
use Rattle.ig_pass.specs.Sound.{IsSound, IsFree, IsUnmarked, IsPlain, HasExclusionsAlone}
use Rattle.ig_lexical.specs.Filters.{FiltersOf}
use Rattle.ig_lexical.specs.Layout.{LayoutOf}

pub record KeptByLayout (c : CheckedGrammar) : Type 0 where
  pub same : PermitSame c (LayoutOf c)
  pub values : KeepsValues c (LayoutOf c)
  pub sound : IsSound (LayoutOf c)
  pub free : IsFree (LayoutOf c).grammar
  pub unmarked : IsUnmarked (LayoutOf c).grammar
  pub plain : IsPlain (LayoutOf c).grammar
  pub no_layout : layout_among (LayoutOf c).grammar.decls ≡ None

-- where no declaration has operators and no mark is left
abbrev pub LayoutKeeps : Type 0
LayoutKeeps = (c : CheckedGrammar) → IsSound c → IsFree c.grammar → IsUnmarked c.grammar → KeptByLayout c

pub record KeptByFilters (c : CheckedGrammar) : Type 0 where
  pub same : PermitSame c (FiltersOf c)
  pub values : KeepsValues c (FiltersOf c)
  pub sound : IsSound (FiltersOf c)
  pub free : IsFree (FiltersOf c).grammar
  pub unmarked : IsUnmarked (FiltersOf c).grammar
  pub no_layout : layout_among (FiltersOf c).grammar.decls ≡ None
  -- of filters only exclusions are left
  pub excluding : HasExclusionsAlone (FiltersOf c).grammar

-- and no layout is declared, as where it is called in the open
abbrev pub FiltersKeep : Type 0
FiltersKeep =
    (c : CheckedGrammar) → IsSound c → IsFree c.grammar → IsUnmarked c.grammar → layout_among c.grammar.decls ≡ None →
    KeptByFilters c

-- a token becomes a sequence with a call behind it
abbrev pub LayoutMultiplies : Type 0
LayoutMultiplies = (c : CheckedGrammar) → Multiplies 3 c.grammar (LayoutOf c).grammar

-- what has filters becomes a sequence, with a guard for each filter that is a test
abbrev pub FiltersMultiply : Type 0
FiltersMultiply = (c : CheckedGrammar) → Multiplies 2 c.grammar (FiltersOf c).grammar
