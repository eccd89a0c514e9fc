use Rattle.ig_engine.proofs.laws.of_tables.Goals as goal

pub returns : goal.returns
returns c =
    record {
      names_are_kept = c.names_are_kept.ensures;
      instances_are_kept = c.instances_are_kept.ensures;
      instances_are_one = c.instances_are_one.ensures;
      items_are_one = c.items_are_one.ensures;
      firsts_are_named = c.firsts_are_named.ensures;
      calls_are_one = c.calls_are_one.ensures;
      before_calls = c.before_calls.ensures;
      before_tests = c.before_tests.ensures;
      before_binds = c.before_binds.ensures;
      before_terminals = c.before_terminals.ensures;
      complete_items_end = c.complete_items_end.ensures;
      steps_are_behind = c.steps_are_behind.ensures;
      ends_are_complete = c.ends_are_complete.ensures;
    }
