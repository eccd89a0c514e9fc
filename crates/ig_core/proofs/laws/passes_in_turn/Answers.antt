use Rattle.ig_core.proofs.Passes.{passes_in_turn}
use Rattle.ig_core.proofs.laws.passes_in_turn.Goals as goal

pub returns : goal.returns
returns c =
    passes_in_turn
    (record {
      levels = c.levels_keep.ensures;
      blocks = c.blocks_keep.ensures;
      layout = c.layout_keeps.ensures;
      filters = c.filters_keep.ensures;
      root = c.rooted_is_the_same.ensures;
    })
    c.lists_keep.ensures
