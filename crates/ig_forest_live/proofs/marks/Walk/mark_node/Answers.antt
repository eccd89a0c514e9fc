use Rattle.std.proofs.Common.{refl, arith}
use Rattle.ig_forest_live.proofs.CodeWalk.{part_next, part_all, whole_with_node}
use Rattle.ig_forest_live.proofs.CodeWayMarks.{end_within, ends_apart}
use Rattle.ig_forest_live.proofs.marks.Walk.mark_node.Goals as goal

pub mark_end-requires-clause-number : goal.mark_end-requires-clause-number
mark_end-requires-clause-number c =
    let lt =
    end_within c.args.links.now c.ends-end-items.ensures.recorded c.ends-end-items.result.now c.args.done c.loop-end.end-index
    (record { first = 0; item = 0 }) c.ends-end-items.ensures.ends c.loop-end-test.true in
    let a = c.requires.found.long in
    let b = c.loop-end.invariant.found.long in
    omega (arith, lt, a, b)

pub loop-end-preserved : goal.loop-end-preserved
loop-end-preserved c =
    part_next c.args.links.now.ways c.args.self.now c.loop-end.self c.mark_end.new.self c.args.done c.loop-end.end-index _
    c.ends-end-items.result.now (record { first = 0; item = 0 }) c.loop-end-test.true c.loop-end.invariant refl c.in_ok-mark_end.ensures

pub returns-clause-more : goal.returns-clause-more
returns-clause-more c =
    part_all c.args.links.now.ways c.args.self.now c.loop-end.self c.args.done c.loop-end.end-index c.ends-end-items.result.now
    c.ends-end-items.ensures.ends c.loop-end-test.false c.loop-end.invariant

pub returns-clause-whole : goal.returns-clause-whole
returns-clause-whole c =
    whole_with_node c.args.links.now.ways c.args.self.now c.loop-end.self _ c.args.done c.requires.found c.requires.whole
    (part_all c.args.links.now.ways c.args.self.now c.loop-end.self c.args.done c.loop-end.end-index c.ends-end-items.result.now
    c.ends-end-items.ensures.ends c.loop-end-test.false c.loop-end.invariant)
    (ends_apart c.args.links.now c.ends-end-items.ensures.recorded)
