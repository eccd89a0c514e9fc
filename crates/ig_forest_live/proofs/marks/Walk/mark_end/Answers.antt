use Rattle.std.proofs.Common.{refl}
use Rattle.ig_forest_live.proofs.marks.Walk.mark_end.Goals as goal

pub mark-requires-clause-found : goal.mark-requires-clause-found
mark-requires-clause-found c = c.requires.found

pub mark-requires-clause-number : goal.mark-requires-clause-number
mark-requires-clause-number c = c.requires.number

pub mark-requires-clause-mark : goal.mark-requires-clause-mark
mark-requires-clause-mark c = refl

pub returns : goal.returns
returns c = c.mark.ensures
