use Rattle.std.proofs.Common.{refl}
use Rattle.std.specs.Prelude.{flat_map}
use Rattle.ig_show.specs.Steps.{all_left, less_left, none_left}
use Rattle.ig_w3c.specs.Text.{range_text}
use Rattle.ig_w3c.proofs.spelling.push_ranges.Goals as goal

pub loop-first-init : goal.loop-first-init
loop-first-init c = all_left (flat_map range_text c.args.ranges.now)

pub loop-first-preserved : goal.loop-first-preserved
loop-first-preserved c =
    less_left range_text c.args.ranges.now c.loop-first.first-index _ _ refl c.loop-first-test.true c.loop-first.invariant c.in_ok-push_range.ensures

pub returns : goal.returns
returns c = none_left range_text c.args.ranges.now c.loop-first.first-index c.loop-first-test.false c.loop-first.invariant
