use Rattle.std.proofs.Common.{refl, rules}
use Rattle.ig_notation_syntax.specs.Machine.{name}
use Rattle.ig_notation_terms.specs.Readers.{at_token}
use Rattle.ig_notation_terms.specs.Steps.{stands_as, ended, exits}
use Rattle.ig_notation_terms.proofs.signs.read_name.Goals as goal

pub returns-in_err-name-clause-err : goal.returns-in_err-name-clause-err
returns-in_err-name-clause-err c = exits _ _ _ c.from_residual.ensures.1 (ended name _ _ _ c.in_err-name.ensures.err)

pub returns-in-Name-clause-ok : goal.returns-in-Name-clause-ok
returns-in-Name-clause-ok c = stands_as _ _ _ _ c.in_ok-name.ensures.ok c.in-Name.is

pub returns-in_default : goal.returns-in_default
returns-in_default c = record { ok = tt; err = record { misses = at_token _ c.in_ok-name.ensures.ok (search rules); is_fault = refl } }
