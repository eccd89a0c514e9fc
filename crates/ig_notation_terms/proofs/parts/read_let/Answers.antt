use Rattle.std.proofs.Common.{refl, [], ◌∷◌}
use Rattle.ig_notation_syntax.specs.Token.{Name, Equals, Open}
use Rattle.ig_notation_syntax.specs.Machine as want
use Rattle.ig_notation_terms.specs.Steps.{missed, stop_next, stop_sign, exits}
use Rattle.ig_notation_terms.proofs.Around.{let_be}
use Rattle.ig_notation_terms.proofs.parts.read_let.Goals as goal

pub returns-clause-ok : goal.returns-clause-ok
returns-clause-ok c =
    let_be _ _ _ _ _ _ _ _ c.in_ok-name.ensures.ok c.in_ok-open.ensures.ok c.in_ok-inside.ensures.ok c.in_ok-value.ensures.ok c.in_ok-name-2.ensures

pub returns-in_err-name-clause-err : goal.returns-in_err-name-clause-err
returns-in_err-name-clause-err c =
    exits _ _ _ c.from_residual.ensures.1
    (missed want.name (want.equals ∷ want.open_bracket ∷ want.expression ∷ want.close_bracket ∷ []) _ _ _ refl c.in_err-name.ensures.err)

pub returns-in_err-open-clause-err : goal.returns-in_err-open-clause-err
returns-in_err-open-clause-err c =
    exits _ _ _ c.from_residual-in_err-open.ensures.1
    (stop_next want.name (Name _) (want.equals ∷ want.open_bracket ∷ want.expression ∷ want.close_bracket ∷ []) _ _ _ c.in_ok-name.ensures.ok refl
    (missed want.equals (want.open_bracket ∷ want.expression ∷ want.close_bracket ∷ []) _ _ _ refl c.in_err-open.ensures.err))

pub returns-in_err-inside-clause-err : goal.returns-in_err-inside-clause-err
returns-in_err-inside-clause-err c =
    exits _ _ _ c.from_residual-in_err-inside.ensures.1
    (stop_next want.name (Name _) (want.equals ∷ want.open_bracket ∷ want.expression ∷ want.close_bracket ∷ []) _ _ _ c.in_ok-name.ensures.ok refl
    (stop_sign want.equals Equals (want.open_bracket ∷ want.expression ∷ want.close_bracket ∷ []) _ _ _ _ c.in_ok-open.ensures.ok refl
    (missed want.open_bracket (want.expression ∷ want.close_bracket ∷ []) _ _ _ refl c.in_err-inside.ensures.err)))

pub returns-in_err-value-clause-err : goal.returns-in_err-value-clause-err
returns-in_err-value-clause-err c =
    exits _ _ _ c.from_residual-in_err-value.ensures.1
    (stop_next want.name (Name _) (want.equals ∷ want.open_bracket ∷ want.expression ∷ want.close_bracket ∷ []) _ _ _ c.in_ok-name.ensures.ok refl
    (stop_sign want.equals Equals (want.open_bracket ∷ want.expression ∷ want.close_bracket ∷ []) _ _ _ _ c.in_ok-open.ensures.ok refl
    (stop_sign want.open_bracket Open (want.expression ∷ want.close_bracket ∷ []) _ _ _ _ c.in_ok-inside.ensures.ok refl c.in_err-value.ensures.err)))
