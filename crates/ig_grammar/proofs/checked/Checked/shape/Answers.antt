use Rattle.std.proofs.Common.{rules}
use Rattle.ig_grammar.proofs.checked.Checked.shape.Goals as goal

pub returns : goal.returns
returns c = search rules

pub returns-in_err-checked_sub : goal.returns-in_err-checked_sub
returns-in_err-checked_sub c = search rules
