use Rattle.std.proofs.Common.{length, ap, arith}
use Rattle.ig_item.specs.Tables.{Tables}
use Rattle.ig_forest_live.proofs.CodeFirstRoot.{first_here, none_here, instance_read, no_root}
use Rattle.ig_forest_live.proofs.root.first_root.Goals as goal

pub is_root-requires : goal.is_root-requires
is_root-requires c =
    instance_read c.args.recorded.now c.items-items.result.now c.items-found.result.now c.loop-number.number _ c.items-items.ensures.items
    c.items-found.ensures.items
    c.items-found.ensures.tables c.loop-number-test.true

pub returns-then-is_root : goal.returns-then-is_root
returns-then-is_root c =
    first_here c.args.recorded.now c.items-items.ensures.recorded c.items-items.result.now c.items-found.result.now c.core-core.result.now
    c.text.result.now
    c.len-end.result c.items-items.ensures.items c.items-found.ensures.items c.core-core.ensures c.text.ensures c.len-end.ensures.length
    c.loop-number.number _
    c.loop-number-test.true c.is_root.result c.is_root.ensures c.if-is_root.true c.loop-number.invariant

pub loop-number-preserved : goal.loop-number-preserved
loop-number-preserved c =
    none_here c.args.recorded.now c.items-items.ensures.recorded c.items-items.result.now c.items-found.result.now c.core-core.result.now
    c.text.result.now
    c.len-end.result c.items-items.ensures.items c.items-found.ensures.items c.core-core.ensures c.text.ensures c.len-end.ensures.length
    c.loop-number.number _
    c.loop-number-test.true c.is_root.result c.is_root.ensures c.if-is_root.false c.loop-number.invariant

pub returns : goal.returns
returns c =
    let end = c.loop-number-test.false in
    let long = ap length c.items-found.ensures.items in
    let same = ap (λ (z : Tables). length z.items) c.items-items.ensures.items in
    no_root c.args.recorded.now c.items-items.ensures.recorded c.loop-number.number (omega (arith, end, long, same)) c.loop-number.invariant
