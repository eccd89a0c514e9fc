use Rattle.ig_ebnf_variables.proofs.Keeping.{all_lists_kept}
use Rattle.ig_ebnf_variables.proofs.laws.lists_keep.Goals as goal

pub returns : goal.returns
returns c =
    all_lists_kept
    (record {
      clean = c.trees_without_operators_are_clean.ensures;
      new = c.added_names_are_new.ensures;
      ask = c.symbols_ask.ensures;
      elsewhere = c.asks_elsewhere.ensures;
      passes = c.results_are_ready.ensures;
      found = c.declarations_are_found.ensures;
    }) c.root_keeps.ensures c.same_trees_is_an_equivalence.ensures
