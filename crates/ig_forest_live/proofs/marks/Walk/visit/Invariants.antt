use Rattle.std.proofs.Common.{take}
use Rattle.ig_forest_live.specs.CodeWayMarks.{AreWhole, MarksMore}
use Rattle.ig_forest_live.proofs.CodeWalk.{LedBy}
use Rattle.ig_forest_live.proofs.marks.Walk.visit.Given as goal

abbrev pub invariant-loop-further : goal.invariant-loop-further
invariant-loop-further l = record {
  more : MarksMore l.fn.self l.self (LedBy l.links.ways l.number (take l.further-index l.further-items));
  whole : AreWhole l.links.ways l.self.marks.items;
}
