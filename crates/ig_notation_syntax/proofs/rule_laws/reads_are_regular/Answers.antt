use Rattle.ig_notation_syntax.proofs.Regularity.{grammar_regular}
use Rattle.ig_notation_syntax.proofs.rule_laws.reads_are_regular.Goals as goal

pub returns : goal.returns
returns c = grammar_regular c.counts_by_form.ensures
