use Rattle.ig_blocks_parts.proofs.Kept.{blocks_kept}
use Rattle.ig_blocks_parts.proofs.laws.blocks_keep.Goals as goal

pub returns : goal.returns
returns c =
    blocks_kept (record {
      in_order = c.spans_are_in_order.ensures;
      inverts = c.derivations_invert.ensures;
      cleans = c.trees_without_operators_are_clean.ensures;
      found = c.declarations_are_found.ensures;
      new = c.added_names_are_new.ensures;
      root = c.root_keeps.ensures;
      ask = c.symbols_ask.ensures;
      elsewhere = c.asks_elsewhere.ensures;
      passes = c.results_are_ready.ensures;
      equivalence = c.same_trees_is_an_equivalence.ensures;
    })
