use Rattle.ig_notation_syntax.proofs.Lexed.{never_both}
use Rattle.ig_notation_syntax.proofs.token_laws.texts_never_do_both.Goals as goal

pub returns : goal.returns
returns c = never_both
