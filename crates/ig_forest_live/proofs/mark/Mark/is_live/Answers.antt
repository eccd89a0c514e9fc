use Rattle.std.proofs.Common.{sym, ap}
use Rattle.ig_forest_live.specs.Marks.{is_live}
use Rattle.ig_forest_live.proofs.mark.Mark.is_live.Goals as goal

pub returns-in-Dead : goal.returns-in-Dead
returns-in-Dead c = sym (ap is_live c.in-Dead.is)

pub returns-in-Open : goal.returns-in-Open
returns-in-Open c = sym (ap is_live c.in-Open.is)

pub returns-in-Complete : goal.returns-in-Complete
returns-in-Complete c = sym (ap is_live c.in-Complete.is)
