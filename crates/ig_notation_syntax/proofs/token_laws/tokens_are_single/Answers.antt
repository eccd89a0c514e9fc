use Rattle.ig_notation_syntax.proofs.Lexed.{tokens_are_single}
use Rattle.ig_notation_syntax.proofs.token_laws.tokens_are_single.Goals as goal

pub returns : goal.returns
returns c = tokens_are_single
