use Rattle.ig_analyse.proofs.Telling.{none_told, one_more_told}
use Rattle.ig_analyse.proofs.facts.facts_by.Goals as goal

pub loop-number-init : goal.loop-number-init
loop-number-init c = none_told c.args.core.now _ c.new-facts.ensures.items

pub loop-number-preserved : goal.loop-number-preserved
loop-number-preserved c =
    one_more_told c.args.core.now c.loop-number.facts.items _ c.loop-number.number _ c.loop-number.invariant c.in_ok-push.ensures.items
    c.fact_at-fact.ensures
