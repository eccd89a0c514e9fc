use Rattle.ig_w3c_syntax.proofs.Longest.{standing_tokens_are_longest}
use Rattle.ig_w3c_syntax.proofs.token_laws.standing_tokens_are_longest.Goals as goal

pub returns : goal.returns
returns c = standing_tokens_are_longest
