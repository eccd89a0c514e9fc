use Rattle.ig_show.proofs.CanonicalTokens.{fixed}
use Rattle.ig_show.proofs.spelling_laws.fixed_tokens_are_spelled.Goals as goal

pub returns : goal.returns
returns c = fixed
