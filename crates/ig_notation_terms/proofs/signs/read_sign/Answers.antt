use Rattle.std.proofs.Common.{refl}
use Rattle.ig_notation_terms.proofs.signs.read_sign.Goals as goal

pub returns-else-stands_at-clause-err : goal.returns-else-stands_at-clause-err
returns-else-stands_at-clause-err c = record { misses = c.stands_at.ensures.no c.if-stands_at.false; is_fault = refl }
