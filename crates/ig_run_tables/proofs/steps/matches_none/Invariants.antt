use Rattle.std.proofs.Common.{◌↔◌, drop}
use Rattle.ig_item.specs.Items.{MatchesNone}
use Rattle.ig_run_tables.proofs.steps.matches_none.Given as goal

abbrev pub invariant-loop-pattern : goal.invariant-loop-pattern
invariant-loop-pattern l = MatchesNone l.text (drop l.pattern-index l.patterns) l.i l.j ↔ MatchesNone l.text l.patterns l.i l.j
