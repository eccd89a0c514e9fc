use Rattle.ig_notation_syntax.proofs.Counting.{grammar_counted}
use Rattle.ig_notation_syntax.proofs.rule_laws.reads_are_counted.Goals as goal

pub returns : goal.returns
returns c = λ tokens g most f less. grammar_counted c.counts_by_form.ensures most f less
