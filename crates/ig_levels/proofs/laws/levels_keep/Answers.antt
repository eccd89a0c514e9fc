use Rattle.ig_levels.proofs.Kept.{levels_keep}
use Rattle.ig_levels.proofs.laws.levels_keep.Goals as goal

pub returns : goal.returns
returns c =
    levels_keep (record {
      new = c.added_names_are_new.ensures;
      found = c.declarations_are_found.ensures;
      root = c.root_keeps.ensures;
      equivalence = c.same_trees_is_an_equivalence.ensures;
      cleans = c.trees_without_operators_are_clean.ensures;
      elsewhere = c.asks_elsewhere.ensures;
      counts = c.binders_are_counted.ensures;
      passes = c.results_are_ready.ensures;
    })
