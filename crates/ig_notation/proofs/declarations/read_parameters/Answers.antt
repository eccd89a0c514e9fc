use Rattle.ig_notation.proofs.DeclarationParts.{more_parameters, closed_parameters}
use Rattle.ig_notation.proofs.declarations.read_parameters.Goals as goal

pub returns-then-not-stands_at-clause-ok : goal.returns-then-not-stands_at-clause-ok
returns-then-not-stands_at-clause-ok c =
    closed_parameters _ _ _ _ _ _ _ _ _ c.loop-parameters.invariant c.in_ok-parameter.ensures.ok (c.stands_at.ensures.no c.if-not-stands_at.true)
    c.in_ok-end.ensures.ok c.in_ok-add.ensures.ok c.from_vec.ensures

pub loop-parameters-preserved : goal.loop-parameters-preserved
loop-parameters-preserved c =
    more_parameters _ _ _ _ _ _ _ c.loop-parameters.invariant c.in_ok-parameter.ensures.ok (c.stands_at.ensures.yes c.if-not-stands_at.false)
    c.in_ok-add.ensures.ok
