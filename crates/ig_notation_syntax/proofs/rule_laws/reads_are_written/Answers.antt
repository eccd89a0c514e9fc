use Rattle.ig_notation_syntax.proofs.Forms.{grammar_written}
use Rattle.ig_notation_syntax.proofs.rule_laws.reads_are_written.Goals as goal

pub returns : goal.returns
returns c = λ tokens g f. grammar_written f
