use Rattle.std.proofs.Common.{arith}
use Rattle.ig_show_texts.specs.ForestText.{node_text}
use Rattle.ig_forest_reader.specs.Runs.{IsChoice}
use Rattle.ig_forest_reader.specs.Shown.{ShowsNode}
use Rattle.ig_forest_reader.specs.Written.{IsNodeOf}
use Rattle.ig_forest_reader.proofs.Composing.{read_ok, failed_on}
use Rattle.ig_forest_reader.proofs.PartsRead.{none_so_far, all_read, no_more, one_more, so_far_kept}
use Rattle.ig_forest_reader.proofs.TellingForests.{node_stops}
use Rattle.ig_forest_reader.proofs.Whole.{still_shown_node}
use Rattle.ig_forest_reader.proofs.nodes.push_nodes.Goals as goal

pub loop-number-init : goal.loop-number-init
loop-number-init c = none_so_far (ShowsNode c.args.lists.now) (IsNodeOf c.args.core.now) node_text IsChoice c.args.many c.args.bytes.now c.args.nodes.now c.requires.none

pub returns-in_err-rest : goal.returns-in_err-rest
returns-in_err-rest c =
    failed_on _ _ _ _ c.read_node.result c.in_err-rest.field-0.0 c.from_residual.result c.read_node.ensures.read c.in_err-rest.was
    c.from_residual.ensures.1
    (no_more (ShowsNode c.loop-number.lists) (IsNodeOf c.args.core.now) node_text IsChoice node_stops c.loop-number.number c.args.many c.args.bytes.now
    c.loop-number.rest.now c.loop-number.nodes c.loop-number-test.true c.ranges.many.fits c.loop-number.invariant)

pub loop-number-preserved : goal.loop-number-preserved
loop-number-preserved c =
    one_more (ShowsNode c.read_node.new.lists) (IsNodeOf c.args.core.now) node_text IsChoice node_stops c.loop-number.number c.args.many
    c.args.bytes.now c.loop-number.rest.now c.in_ok-rest.rest.now c.loop-number.nodes _ c.loop-number-test.true c.ranges.many.fits
    (so_far_kept (ShowsNode c.loop-number.lists) (ShowsNode c.read_node.new.lists) (IsNodeOf c.args.core.now) node_text IsChoice c.loop-number.number
    c.args.many c.args.bytes.now c.loop-number.rest.now c.loop-number.nodes (still_shown_node c.loop-number.lists c.read_node.new.lists c.in_ok-rest.ensures.keeps)
    c.loop-number.invariant)
    (read_ok _ _ _ _ c.read_node.ensures.read c.in_ok-rest.was)

pub returns : goal.returns
returns c =
    all_read (ShowsNode c.loop-number.lists) (IsNodeOf c.args.core.now) node_text IsChoice c.args.many c.loop-number.number c.args.bytes.now c.loop-number.rest.now
    c.loop-number.nodes (grind (arith, c.loop-number-test.false, c.loop-number.auto.number-end)) c.loop-number.invariant
