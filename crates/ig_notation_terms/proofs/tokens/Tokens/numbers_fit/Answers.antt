use Rattle.std.proofs.Common.{subst}
use Rattle.ig_notation_terms.specs.Limits.{NumbersFit}
use Rattle.ig_notation_terms.proofs.tokens.Tokens.numbers_fit.Goals as goal

pub returns : goal.returns
returns c = subst NumbersFit c.self.view_is c.self.invariant.0
