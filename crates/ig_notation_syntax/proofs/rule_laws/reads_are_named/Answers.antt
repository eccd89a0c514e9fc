use Rattle.ig_notation_syntax.proofs.Naming.{grammar_named}
use Rattle.ig_notation_syntax.proofs.rule_laws.reads_are_named.Goals as goal

pub returns : goal.returns
returns c = λ tokens g f h. grammar_named f h
