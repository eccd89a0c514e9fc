use Rattle.std.proofs.Common.{refl, arith}
use Rattle.ig_notation_terms.proofs.tokens.Tokens.new.Goals as goal

pub invariant_of-result : goal.invariant_of-result
invariant_of-result c = (c.requires, omega arith)

pub returns : goal.returns
returns c = refl
