use Rattle.std.proofs.Common.{◌-◌, List, length}
use Rattle.ig_expr.specs.Expression.{Expression}
use Rattle.ig_notation_syntax.specs.Rules.{ReadsArguments}
use Rattle.ig_notation_syntax.specs.Machine.{arguments_wants}
use Rattle.ig_notation_syntax.specs.Reading.{Goes}
use Rattle.ig_notation_terms.specs.Readers.{Front}
use Rattle.ig_notation_terms.proofs.expressions.read_arguments.Given as goal

-- what is read so far is the front of the arguments
abbrev pub invariant-loop-arguments : goal.invariant-loop-arguments
invariant-loop-arguments l = Goes (List Expression) (Front ReadsArguments) arguments_wants arguments_wants l.tokens l.at l.end l.arguments

abbrev pub decreases-loop-arguments : goal.decreases-loop-arguments
decreases-loop-arguments l = length l.tokens - l.end
