use Rattle.std.proofs.Common.{arith}
use Rattle.std.proofs.lemmas.Option.{slice_get-get_or}
use Rattle.ig_forest_tables.proofs.StoredNodeParts.{next_ends, next_within, put_all, put_next, rise_alike}
use Rattle.ig_forest_tables.proofs.node_rows.put_all_in_order.Goals as goal

pub slice_bounds-put_in_order-count : goal.slice_bounds-put_in_order-count
slice_bounds-put_in_order-count c =
    let fits =
    next_within c.args.begun.now c.args.choices.now c.loop-k.choices c.requires c.loop-k.k c.loop-k.invariant _
    (slice_get-get_or c.args.begun.now c.loop-k.k _ c.loop-k-test.true) c.begin_of-end.result c.begin_of-end.ensures in
    fits.0

pub slice_bounds-put_in_order-start : goal.slice_bounds-put_in_order-start
slice_bounds-put_in_order-start c =
    let fits =
    next_within c.args.begun.now c.args.choices.now c.loop-k.choices c.requires c.loop-k.k c.loop-k.invariant _
    (slice_get-get_or c.args.begun.now c.loop-k.k _ c.loop-k-test.true) c.begin_of-end.result c.begin_of-end.ensures in
    fits.0

pub slice_bounds-put_in_order-end : goal.slice_bounds-put_in_order-end
slice_bounds-put_in_order-end c =
    next_ends c.args.begun.now c.args.choices.now c.loop-k.choices c.requires c.loop-k.k c.loop-k.invariant c.loop-k-test.true c.begin_of-end.result
    c.begin_of-end.ensures

pub loop-k-preserved : goal.loop-k-preserved
loop-k-preserved c =
    put_next c.args.begun.now c.args.choices.now c.loop-k.choices c.requires c.loop-k.k c.loop-k.invariant _
    (slice_get-get_or c.args.begun.now c.loop-k.k _ c.loop-k-test.true) c.begin_of-end.result c.begin_of-end.ensures
    c.put_in_order.new.choices c.put_in_order.ensures.permutation c.put_in_order.ensures.order

pub returns-clause-rise : goal.returns-clause-rise
returns-clause-rise c = rise_alike c.args.choices.now c.loop-k.choices c.args.begun.now c.loop-k.invariant.long c.requires

pub returns-clause-nodes : goal.returns-clause-nodes
returns-clause-nodes c =
    put_all c.args.begun.now c.loop-k.k c.args.choices.now c.loop-k.choices (let done = c.loop-k-test.false in omega (arith, done))
    c.loop-k.invariant
