use Rattle.ig_core.proofs.RegularResults.{passes_are_regular}
use Rattle.ig_core.proofs.laws.passes_are_regular.Goals as goal

pub returns : goal.returns
returns c =
    passes_are_regular
    (record {
      levels = c.levels_multiply.ensures;
      blocks = c.blocks_multiply.ensures;
      layout = c.layout_multiplies.ensures;
      filters = c.filters_multiply.ensures;
      lists = c.lists_multiply.ensures;
      few_lists = c.lists_are_few.ensures;
    })
    c.passes_in_turn.ensures
