use Rattle.std.proofs.Common.{arith}
use Rattle.ig_run_laws.specs.Renamed.{at_or_same}
use Rattle.ig_run_laws.proofs.Least.{is_there, least_next, least_none}
use Rattle.ig_run_laws.proofs.renaming.least_of.Goals as goal

pub loop-end-init : goal.loop-end-init
loop-end-init c =
    record {
      gives = least_none (at_or_same c.in_ok-table.table.items) c.in_ok-table.ensures.numbers;
      within = λ e m. let low = c.highest.ensures e m in let all = c.in_ok-table.ensures.all in omega (arith, low, all);
    }

pub lower-requires : goal.lower-requires
lower-requires c =
    c.loop-end.invariant.within _
    (is_there c.args.ends.now c.loop-end.end-index (record { first = 0; item = 0 }) c.loop-end-test.true)

pub loop-end-preserved : goal.loop-end-preserved
loop-end-preserved c =
    record {
      gives = least_next c.args.ends.now c.loop-end.end-index (record { first = 0; item = 0 })
          (at_or_same c.loop-end.table.items) (at_or_same c.lower.new.table.items) c.loop-end-test.true
          c.loop-end.invariant.gives c.lower.ensures.here c.lower.ensures.others;
      within = λ e m. let low = c.loop-end.invariant.within e m in let long = c.lower.ensures.long in omega (arith, low, long);
    }
