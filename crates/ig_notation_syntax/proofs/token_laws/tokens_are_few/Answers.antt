use Rattle.ig_notation_syntax.proofs.Lexed.{tokens_are_few}
use Rattle.ig_notation_syntax.proofs.token_laws.tokens_are_few.Goals as goal

pub returns : goal.returns
returns c = tokens_are_few
