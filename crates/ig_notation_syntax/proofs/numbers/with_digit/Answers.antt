use Rattle.std.proofs.Common.{rules}
use Rattle.ig_notation_syntax.proofs.numbers.with_digit.Goals as goal

pub returns : goal.returns
returns c = search rules
