use Rattle.std.proofs.Common.{arith}
use Rattle.ig_notation_terms.proofs.Around.{a_sign, no_sign}
use Rattle.ig_notation_terms.proofs.parts.read_repetition.Goals as goal

pub returns-in-Some : goal.returns-in-Some
returns-in-Some c = a_sign _ _ _ _ c.in-Some.ensures (omega arith)

pub returns-in-None : goal.returns-in-None
returns-in-None c = no_sign _ _ c.requires c.in-None.ensures
