use Rattle.std.proofs.Common.{rules, refl, []}
use Rattle.ig_notation_syntax.specs.Machine as want
use Rattle.ig_notation_terms.specs.Readers.{at_token}
use Rattle.ig_notation_terms.specs.Steps.{stops_here, stop_end, exits}
use Rattle.ig_notation_terms.proofs.expressions.read_literal.Goals as goal

pub returns-in_err-inside-clause-err : goal.returns-in_err-inside-clause-err
returns-in_err-inside-clause-err c =
    exits _ _ _ c.from_residual.ensures.1
    (stop_end want.literal [] _ _ _ refl c.in_err-inside.ensures.err)

pub returns-in_default-clause-err : goal.returns-in_default-clause-err
returns-in_default-clause-err c = stops_here want.literal [] _ _ refl (at_token _ c.in_ok-inside.ensures.ok (search rules))
