use Rattle.std.proofs.Common.{arith}
use Rattle.ig_notation_terms.proofs.Stored.{seen, seen_past}
use Rattle.ig_notation_terms.proofs.tokens.Tokens.get.Goals as goal

pub returns-in-Some : goal.returns-in-Some
returns-in-Some c =
    seen c.self.inside.placed.now c.args.self.now c.args.at c.in-Some.placed.now c.self.view_is c.in-Some.ensures.lookup.3.0 (record { below = omega (arith, c.in-Some.ensures.lookup.3.0, c.self.invariant.1) }) c.in-Some.ensures.lookup.3.1

pub returns-in-None : goal.returns-in-None
returns-in-None c = seen_past c.self.inside.placed.now c.args.self.now c.args.at c.self.view_is c.in-None.ensures.lookup.3
