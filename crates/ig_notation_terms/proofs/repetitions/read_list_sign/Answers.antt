use Rattle.std.proofs.Common.{rules, refl}
use Rattle.ig_notation_terms.specs.Readers.{at_token}
use Rattle.ig_notation_terms.specs.Steps.{stands_as}
use Rattle.ig_notation_terms.proofs.repetitions.read_list_sign.Goals as goal

pub returns-in_default : goal.returns-in_default
returns-in_default c = record { ok = tt; err = record { misses = at_token _ c.in_ok-ahead.ensures.ok (search rules); is_fault = refl } }

pub returns-in-Star-clause-ok : goal.returns-in-Star-clause-ok
returns-in-Star-clause-ok c = stands_as _ _ _ _ c.in_ok-ahead.ensures.ok c.in-Star.is

pub returns-in-Plus-clause-ok : goal.returns-in-Plus-clause-ok
returns-in-Plus-clause-ok c = stands_as _ _ _ _ c.in_ok-ahead.ensures.ok c.in-Plus.is
