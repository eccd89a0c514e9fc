use Rattle.ig_engine.proofs.laws.of_runs.Goals as goal

pub returns : goal.returns
returns c =
    record {
      runs_begin = c.runs_begin.ensures;
      events_keep = c.events_keep.ensures;
      ends_keep = c.ends_keep.ensures;
      tests_pass = c.steps_are_followed.ensures.test;
      binds_pass = c.steps_are_followed.ensures.bind;
      terminals_take_leaves = c.steps_are_followed.ensures.terminal;
      callers_meet_pops = c.steps_are_followed.ensures.call;
      none_is_called = c.steps_are_followed.ensures.no_call;
      ends_meet_edges = c.steps_are_followed.ensures.end;
      firsts_are_new = c.firsts_are_new.ensures;
      firsts_are_recorded = c.firsts_are_recorded.ensures;
      steps_come_once = c.steps_come_once.ensures;
      first_returns_are_new = c.first_returns_are_new.ensures;
      begins_are_one = c.begins_are_one.ensures;
      returns_come_by_nodes = c.returns_come_by_nodes.ensures;
      refused_budgets_are_exceeded = c.refused_budgets_are_exceeded.ensures;
    }
