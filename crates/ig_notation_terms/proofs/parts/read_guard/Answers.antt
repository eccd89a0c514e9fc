use Rattle.std.proofs.Common.{refl, [], ◌∷◌}
use Rattle.ig_notation_syntax.specs.Token.{Open}
use Rattle.ig_notation_syntax.specs.Machine as want
use Rattle.ig_notation_terms.specs.Steps.{missed, stop_sign, exits}
use Rattle.ig_notation_terms.proofs.Around.{guard}
use Rattle.ig_notation_terms.proofs.parts.read_guard.Goals as goal

pub returns-clause-ok : goal.returns-clause-ok
returns-clause-ok c = guard _ _ _ _ _ c.in_ok-inside.ensures.ok c.in_ok-condition.ensures.ok

pub returns-in_err-inside-clause-err : goal.returns-in_err-inside-clause-err
returns-in_err-inside-clause-err c =
    exits _ _ _ c.from_residual.ensures.1
    (missed want.open_bracket (want.expression ∷ want.close_bracket ∷ []) _ _ _ refl c.in_err-inside.ensures.err)

pub returns-in_err-condition-clause-err : goal.returns-in_err-condition-clause-err
returns-in_err-condition-clause-err c =
    exits _ _ _ c.from_residual-in_err-condition.ensures.1
    (stop_sign want.open_bracket Open (want.expression ∷ want.close_bracket ∷ []) _ _ _ _ c.in_ok-inside.ensures.ok refl c.in_err-condition.ensures.err)
