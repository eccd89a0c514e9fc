use Rattle.ig_notation_syntax.proofs.Lexed.{break_is_single}
use Rattle.ig_notation_syntax.proofs.token_laws.break_is_single.Goals as goal

pub returns : goal.returns
returns c = break_is_single
