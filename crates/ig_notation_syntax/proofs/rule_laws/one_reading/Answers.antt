use Rattle.ig_notation_syntax.proofs.OneGrammar.{grammar_one}
use Rattle.ig_notation_syntax.proofs.rule_laws.one_reading.Goals as goal

pub returns : goal.returns
returns c = λ tokens g h f k. grammar_one f k
