use Rattle.ig_lexical.proofs.LayoutKept.{layout_kept}
use Rattle.ig_lexical.proofs.laws.layout_keeps.Goals as goal

pub returns : goal.returns
returns c =
    layout_kept (record {
      cleans = c.trees_without_operators_are_clean.ensures;
      found = c.declarations_are_found.ensures;
      root = c.root_keeps.ensures;
      passes = c.results_are_ready.ensures;
      equivalence = c.same_trees_is_an_equivalence.ensures;
    })
