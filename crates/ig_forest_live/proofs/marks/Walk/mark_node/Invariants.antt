use Rattle.std.proofs.Common.{take}
use Rattle.ig_forest_live.specs.CodeWayMarks.{MarksMore}
use Rattle.ig_forest_live.proofs.CodeWalk.{NodePart}
use Rattle.ig_forest_live.proofs.marks.Walk.mark_node.Given as goal

abbrev pub invariant-loop-end : goal.invariant-loop-end
invariant-loop-end l = MarksMore l.fn.self l.self (NodePart l.links.ways l.done (take l.end-index l.end-items))
