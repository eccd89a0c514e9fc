use Rattle.std.specs.Prelude.{flat_map}
use Rattle.ig_show.specs.Steps.{all_left, less_left, none_left}
use Rattle.ig_w3c.specs.Text.{level_text}
use Rattle.ig_w3c.proofs.grammar.push_levels.Goals as goal

pub loop-level-init : goal.loop-level-init
loop-level-init c = all_left (flat_map level_text c.args.levels.now)

pub loop-level-preserved : goal.loop-level-preserved
loop-level-preserved c =
    less_left level_text c.args.levels.now c.loop-level.level-index c.level-item.result c.level-item.result c.level-item.is c.loop-level-test.true c.loop-level.invariant
    c.in_ok-push_alternatives.ensures

pub returns : goal.returns
returns c = none_left level_text c.args.levels.now c.loop-level.level-index c.loop-level-test.false c.loop-level.invariant
