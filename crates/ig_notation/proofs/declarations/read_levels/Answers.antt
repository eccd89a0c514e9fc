use Rattle.ig_notation.proofs.DeclarationParts.{more_levels, all_levels}
use Rattle.ig_notation.proofs.declarations.read_levels.Goals as goal

pub returns-then-not-stands_at-clause-ok : goal.returns-then-not-stands_at-clause-ok
returns-then-not-stands_at-clause-ok c =
    all_levels _ _ _ _ _ _ _ _ c.loop-levels.invariant c.in_ok-level.ensures.ok (c.stands_at.ensures.no c.if-not-stands_at.true)
    c.in_ok-add.ensures.ok c.from_vec.ensures

pub loop-levels-preserved : goal.loop-levels-preserved
loop-levels-preserved c =
    more_levels _ _ _ _ _ _ _ c.loop-levels.invariant c.in_ok-level.ensures.ok (c.stands_at.ensures.yes c.if-not-stands_at.false)
    c.in_ok-add.ensures.ok
