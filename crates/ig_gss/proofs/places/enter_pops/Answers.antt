use Rattle.ig_gss.proofs.Entered.{none_entered, one_entered, all_entered}
use Rattle.ig_gss.proofs.places.enter_pops.Goals as goal

pub loop-pop-init : goal.loop-pop-init
loop-pop-init c = none_entered _ _ _ _ c.into_iter-pop-iterator.ensures.into_iter_gives

pub loop-pop-preserved : goal.loop-pop-preserved
loop-pop-preserved c = one_entered _ _ _ _ _ _ _ _ c.loop-pop.invariant c.in-Some.ensures.steps c.in_ok-insert.ensures.entries

pub returns-clause-all : goal.returns-clause-all
returns-clause-all c = all_entered _ _ _ _ _ c.loop-pop.invariant c.in-None.ensures.steps.0
