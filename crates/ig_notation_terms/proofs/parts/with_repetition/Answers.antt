use Rattle.ig_notation_terms.proofs.Around.{with_sign, without_sign}
use Rattle.ig_notation_terms.proofs.parts.with_repetition.Goals as goal

pub returns-in_ok-new-in-Some-clause-ok : goal.returns-in_ok-new-in-Some-clause-ok
returns-in_ok-new-in-Some-clause-ok c = with_sign _ _ _ _ _ c.in-Some.is c.in_ok-new-in-Some.ensures c.repeated.ensures

pub returns-in-None-clause-ok : goal.returns-in-None-clause-ok
returns-in-None-clause-ok c = without_sign _ _ c.in-None.is
