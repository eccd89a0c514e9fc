use Rattle.ig_notation_terms.proofs.LimitParts.{there, past, too_many, one_opened, all_shallow, open_at_start}
use Rattle.ig_notation_terms.proofs.limits.is_shallow.Goals as goal

pub returns-then-open-gt-MOST_OPEN : goal.returns-then-open-gt-MOST_OPEN
returns-then-open-gt-MOST_OPEN c =
    too_many _ _ _ _ _ _ c.loop-placed.invariant (there _ _ _ c.loop-placed-test.true) c.opened-open.ensures c.if-open-gt-MOST_OPEN.true

pub loop-placed-preserved : goal.loop-placed-preserved
loop-placed-preserved c =
    one_opened _ _ _ _ _ _ c.loop-placed.invariant (there _ _ _ c.loop-placed-test.true) c.opened-open.ensures c.if-open-gt-MOST_OPEN.false

pub returns : goal.returns
returns c = all_shallow _ _ _ c.loop-placed.invariant (past _ _ c.loop-placed-test.false)

pub loop-placed-init : goal.loop-placed-init
loop-placed-init c = open_at_start _

pub opened-open-requires : goal.opened-open-requires
opened-open-requires c = c.loop-placed.invariant.few
