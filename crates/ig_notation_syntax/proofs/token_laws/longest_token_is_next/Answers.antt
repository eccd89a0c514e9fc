use Rattle.ig_notation_syntax.proofs.Longest.{longest_is_next}
use Rattle.ig_notation_syntax.proofs.token_laws.longest_token_is_next.Goals as goal

pub returns : goal.returns
returns c = longest_is_next
