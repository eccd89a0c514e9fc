use Rattle.ig_notation_syntax.proofs.Placing.{grammar_stands}
use Rattle.ig_notation_syntax.proofs.rule_laws.reads_stand_well.Goals as goal

pub returns : goal.returns
returns c = λ tokens g f h. grammar_stands f h
