use Rattle.std.proofs.Common.{rules}
use Rattle.ig_notation_terms.specs.Steps.{stands_as}
use Rattle.ig_notation_terms.specs.Parts.{at_end, at_token}
use Rattle.ig_notation_terms.proofs.parts.opening_at.Goals as goal

pub returns-in_default : goal.returns-in_default
returns-in_default c = at_end c.in_default.ensures

pub returns-in-OpenBrace : goal.returns-in-OpenBrace
returns-in-OpenBrace c = stands_as _ _ _ _ c.in-Some.ensures c.in-OpenBrace.is

pub returns-in-Open : goal.returns-in-Open
returns-in-Open c = stands_as _ _ _ _ c.in-Some.ensures c.in-Open.is

pub returns-in_default-token : goal.returns-in_default-token
returns-in_default-token c = at_token _ c.in-Some.ensures (search rules)
