use Rattle.ig_lexical.proofs.FiltersKept.{filters_kept}
use Rattle.ig_lexical.proofs.laws.filters_keep.Goals as goal

pub returns : goal.returns
returns c =
    filters_kept (record {
      looks = c.tests_look_for_matches.ensures;
      cleans = c.trees_without_operators_are_clean.ensures;
      root = c.root_keeps.ensures;
      passes = c.results_are_ready.ensures;
      found = c.declarations_are_found.ensures;
      equivalence = c.same_trees_is_an_equivalence.ensures;
    })
