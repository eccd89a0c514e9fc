use Rattle.std.proofs.Common.{ap, ◌∙◌}
use Rattle.std.specs.Prelude.{slice_get}
use Rattle.ig_run_tables.proofs.Sets.{once_from_distinct, inserted_at, inserted_is}
use Rattle.ig_run_tables.proofs.environments.enter_values.Goals as goal

pub returns-in_err-k-clause-once : goal.returns-in_err-k-clause-once
returns-in_err-k-clause-once c = once_from_distinct c.equal_values_are_one.ensures _ c.in_err-k.ensures.unique

pub returns-in_err-number-clause-once : goal.returns-in_err-number-clause-once
returns-in_err-number-clause-once c = once_from_distinct c.equal_values_are_one.ensures _ c.in_ok-k.ensures.unique

pub returns-clause-once : goal.returns-clause-once
returns-clause-once c = once_from_distinct c.equal_values_are_one.ensures _ c.in_ok-k.ensures.unique

pub returns-clause-enters : goal.returns-clause-enters
returns-clause-enters c =
    record {
      is = inserted_is c.equal_values_are_one.ensures _ _ c.args.values c.in_ok-k.ensures.keys;
      there = ap (slice_get _) c.in_ok-number.ensures.number ∙ inserted_at c.equal_values_are_one.ensures _ c.args.values _ c.in_ok-k.k c.in_ok-k.ensures.stored.1 c.in_ok-k.ensures.stored.2;
    }
