use Rattle.ig_levels.proofs.Within.{bounds_ask}
use Rattle.ig_levels.proofs.laws.bounds_ask_of_spines.Goals as goal

pub returns : goal.returns
returns c =
    bounds_ask (record {
      new = c.added_names_are_new.ensures;
      found = c.declarations_are_found.ensures;
      root = c.root_keeps.ensures;
      equivalence = c.same_trees_is_an_equivalence.ensures;
      cleans = c.trees_without_operators_are_clean.ensures;
      elsewhere = c.asks_elsewhere.ensures;
      counts = c.binders_are_counted.ensures;
      passes = c.results_are_ready.ensures;
    })
