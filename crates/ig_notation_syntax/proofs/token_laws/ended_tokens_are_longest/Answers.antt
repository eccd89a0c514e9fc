use Rattle.ig_notation_syntax.proofs.Ended.{ended_tokens_are_longest}
use Rattle.ig_notation_syntax.proofs.token_laws.ended_tokens_are_longest.Goals as goal

pub returns : goal.returns
returns c = ended_tokens_are_longest
