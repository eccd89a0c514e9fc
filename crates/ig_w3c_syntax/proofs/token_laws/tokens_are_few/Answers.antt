use Rattle.ig_w3c_syntax.proofs.Formed.{tokens_are_few}
use Rattle.ig_w3c_syntax.proofs.token_laws.tokens_are_few.Goals as goal

pub returns : goal.returns
returns c = tokens_are_few
