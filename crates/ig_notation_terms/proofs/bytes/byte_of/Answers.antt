use Rattle.ig_notation_terms.proofs.LimitParts.{byte_there, byte_past}
use Rattle.ig_notation_terms.proofs.bytes.byte_of.Goals as goal

pub returns-in-Some : goal.returns-in-Some
returns-in-Some c = byte_there _ c.args.tokens.now c.args.number c.in-Some.placed.now c.in-Some.ensures.lookup.3.0 c.in-Some.ensures.lookup.3.1

pub returns-in-None : goal.returns-in-None
returns-in-None c = byte_past _ c.args.tokens.now c.args.number c.in-None.ensures.lookup.3
