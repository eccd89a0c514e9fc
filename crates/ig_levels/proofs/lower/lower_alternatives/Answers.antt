use Rattle.std.proofs.Common.{◌∙◌}
use Rattle.ig_levels.specs.Levels.{lowered_alternative}
use Rattle.ig_levels.specs.Tables.{levelled_by}
use Rattle.ig_levels.proofs.Written.{level_added}
use Rattle.ig_levels.proofs.lower.lower_alternatives.Goals as goal

pub loop-index-preserved : goal.loop-index-preserved
loop-index-preserved c =
    level_added (lowered_alternative (levelled_by c.args.table.now) c.args.decl.now) c.as_slice-levels.result.now c.loop-index.index c.index-levels-index.result
    c.in_ok-bounds.bounds.level c.loop-index.all c.add_alternatives.new.all _ c.loop-index-test.true c.index-levels-index.is
    (c.in_ok-bounds.ensures.level ∙ c.in_ok-number.ensures.number) c.in_ok-add_alternatives.ensures c.loop-index.invariant
