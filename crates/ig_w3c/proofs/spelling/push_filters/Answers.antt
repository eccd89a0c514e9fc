use Rattle.std.specs.Prelude.{flat_map}
use Rattle.ig_show.specs.Steps.{all_left, less_left, none_left}
use Rattle.ig_w3c.specs.Text.{filter_text}
use Rattle.ig_w3c.proofs.spelling.push_filters.Goals as goal

pub loop-filter-init : goal.loop-filter-init
loop-filter-init c = all_left (flat_map filter_text c.args.filters.now)

pub loop-filter-preserved : goal.loop-filter-preserved
loop-filter-preserved c =
    less_left filter_text c.args.filters.now c.loop-filter.filter-index c.filter-item.result c.filter-item.result c.filter-item.is c.loop-filter-test.true c.loop-filter.invariant
    c.in_ok-push_filter.ensures

pub returns : goal.returns
returns c = none_left filter_text c.args.filters.now c.loop-filter.filter-index c.loop-filter-test.false c.loop-filter.invariant
