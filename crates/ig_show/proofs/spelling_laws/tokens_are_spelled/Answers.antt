use Rattle.ig_show.proofs.CanonicalTokens.{canonical}
use Rattle.ig_show.proofs.spelling_laws.tokens_are_spelled.Goals as goal

pub returns : goal.returns
returns c = canonical c.normal_form_is_normal.ensures c.normal_ranges_stay.ensures
