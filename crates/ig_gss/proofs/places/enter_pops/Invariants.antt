use Rattle.ig_gss.specs.Places.{IsEntered}
use Rattle.ig_gss.proofs.places.enter_pops.Given as goal

abbrev pub invariant-loop-pop : goal.invariant-loop-pop
invariant-loop-pop l = IsEntered l.node l.fn.pops l.pop-iterator l.fn.ends.entries l.ends.entries
