use Rattle.ig_notation_terms.specs.Readers.{at_token}
use Rattle.ig_notation_terms.proofs.signs.stands_at.Goals as goal

pub returns-in-Some-clause-no : goal.returns-in-Some-clause-no
returns-in-Some-clause-no c = λ e. at_token _ c.in-Some.ensures (c.is_sign.ensures.no e)
