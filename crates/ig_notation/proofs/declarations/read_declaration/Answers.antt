use Rattle.ig_notation_terms.specs.Steps.{exits}
use Rattle.ig_notation.proofs.DeclarationParts.{heading_stops, behind_heading, equals_missed, levels_stop, semicolon_missed, declaration}
use Rattle.ig_notation.proofs.declarations.read_declaration.Goals as goal

pub returns-in_err-name-clause-err : goal.returns-in_err-name-clause-err
returns-in_err-name-clause-err c = exits _ _ _ c.from_residual-in_err-name.ensures.1 (heading_stops _ _ _ _ c.in_ok-kind.ensures.ok c.in_err-name.ensures.err)

pub returns-in_err-first-clause-err : goal.returns-in_err-first-clause-err
returns-in_err-first-clause-err c =
    exits _ _ _ c.from_residual-in_err-first.ensures.1
    (behind_heading _ _ _ _ _ _ _ c.in_ok-kind.ensures.ok c.in_ok-name.ensures.ok (equals_missed _ _ _ c.in_err-first.ensures.err))

pub returns-in_err-levels-clause-err : goal.returns-in_err-levels-clause-err
returns-in_err-levels-clause-err c =
    exits _ _ _ c.from_residual-in_err-levels.ensures.1
    (behind_heading _ _ _ _ _ _ _ c.in_ok-kind.ensures.ok c.in_ok-name.ensures.ok (levels_stop _ _ _ _ c.in_ok-first.ensures.ok c.in_err-levels.ensures.err))

pub returns-in_err-end-clause-err : goal.returns-in_err-end-clause-err
returns-in_err-end-clause-err c =
    exits _ _ _ c.from_residual-in_err-end.ensures.1
    (behind_heading _ _ _ _ _ _ _ c.in_ok-kind.ensures.ok c.in_ok-name.ensures.ok
    (semicolon_missed _ _ _ _ _ _ c.in_ok-first.ensures.ok c.in_ok-levels.ensures.ok c.in_err-end.ensures.err))

pub returns-clause-ok : goal.returns-clause-ok
returns-clause-ok c =
    declaration _ _ _ _ _ _ _ _ _ _ c.in_ok-kind.ensures.ok c.in_ok-name.ensures.ok c.in_ok-first.ensures.ok c.in_ok-levels.ensures.ok c.in_ok-end.ensures.ok
