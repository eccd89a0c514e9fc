use Rattle.std.proofs.Common.{sym, subst}
use Rattle.ig_parse.specs.Parses.{AreReachable, HasItems}
use Rattle.ig_tests_parse.proofs.parsing.position_of.Goals as goal

pub report-requires : goal.report-requires
report-requires c =
    let items : HasItems c.args.parser.now c.args.text.now 1000000 c.in_ok-recorded.recorded = c.in_ok-recorded.ensures in
    record { reachable = subst (AreReachable c.args.parser.now c.args.text.now) (sym c.items.ensures.items) items.reachable }
