use Rattle.ig_notation_syntax.proofs.Lexed.{lexes_or_breaks}
use Rattle.ig_notation_syntax.proofs.token_laws.texts_lex_or_break.Goals as goal

pub returns : goal.returns
returns c = lexes_or_breaks
