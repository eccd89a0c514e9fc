use Rattle.ig_query.specs.CodeReport.{pattern_at}
use Rattle.ig_query.proofs.Through.{filter_next}
use Rattle.ig_query.proofs.dots.patterns_of.Goals as goal

pub loop-dot-preserved : goal.loop-dot-preserved
loop-dot-preserved c =
    filter_next (pattern_at c.args.core.now) c.args.dots.now c.loop-dot.dot-index _ c.loop-dot.patterns c.add_behind.new.patterns
    c.loop-dot-test.true c.loop-dot.invariant c.in_ok-add_behind.ensures
