use Rattle.std.proofs.Common.{refl, [], ◌∷◌}
use Rattle.ig_notation_syntax.specs.Token.{CloseBrace}
use Rattle.ig_notation_syntax.specs.Machine as want
use Rattle.ig_notation_terms.specs.Steps.{missed, stop_sign, exits}
use Rattle.ig_notation_terms.proofs.Around.{closing, takes_no_memory}
use Rattle.ig_notation_terms.proofs.parts.read_closing.Goals as goal

pub returns-in_err-behind-clause-err : goal.returns-in_err-behind-clause-err
returns-in_err-behind-clause-err c =
    exits _ _ _ c.from_residual.ensures.1
    (missed want.close_brace (want.list_sign ∷ []) _ _ _ refl c.in_err-behind.ensures.err)

pub returns-in_err-behind-clause-unexpected : goal.returns-in_err-behind-clause-unexpected
returns-in_err-behind-clause-unexpected c =
    exits _ _ _ c.from_residual.ensures.1 (takes_no_memory _ _ _ _ c.in_err-behind.ensures.err)

pub returns-in_err-sign-clause-err : goal.returns-in_err-sign-clause-err
returns-in_err-sign-clause-err c =
    exits _ _ _ c.from_residual-in_err-sign.ensures.1
    (stop_sign want.close_brace CloseBrace (want.list_sign ∷ []) _ _ _ _ c.in_ok-behind.ensures.ok refl
    (missed want.list_sign [] _ _ _ refl c.in_err-sign.ensures.err))

pub returns-in_err-sign-clause-unexpected : goal.returns-in_err-sign-clause-unexpected
returns-in_err-sign-clause-unexpected c =
    exits _ _ _ c.from_residual-in_err-sign.ensures.1 (takes_no_memory _ _ _ _ c.in_err-sign.ensures.err)

pub returns-clause-ok : goal.returns-clause-ok
returns-clause-ok c = closing _ _ _ _ c.in_ok-behind.ensures.ok c.in_ok-sign.ensures.ok
