use Rattle.std.proofs.Common.{◌≡◌, ◌+◌, ◌-◌, None, length}
use Rattle.ig_engine.proofs.running.step_to_end.Given as goal

abbrev pub invariant-loop : goal.invariant-loop
invariant-loop g l = record {
  core : l.run.core ≡ l.initial.run.core;
  text : l.run.text ≡ l.initial.run.text;
  budget : l.run.budget ≡ l.initial.run.budget;
  going : l.run.refused ≡ None;
}

-- each step takes one ticket of as many as the budget
abbrev pub decreases-loop : goal.decreases-loop
decreases-loop g l = (l.run.budget + length l.run.state.found.waiting) - length l.run.state.found.items
