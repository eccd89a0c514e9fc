use Rattle.std.proofs.Common.{sym, subst}
use Rattle.ig_item.specs.Tables.{items_of}
use Rattle.ig_item.specs.WellKinded.{NoneTwice}
use Rattle.ig_item.specs.Recorded.{AreReachable}
use Rattle.ig_plain.proofs.saturation.saturate.Goals as goal

pub returns-clause-items : goal.returns-clause-items
returns-clause-items c =
    subst (AreReachable c.args.core.now c.args.text.now) (sym c.into_items.ensures.items)
    (subst (λ z. AreReachable z c.args.text.now c.in_ok-recorded.recorded.tables) c.in_ok-recorded.ensures.core
    (subst (λ z. AreReachable c.in_ok-recorded.recorded.core z c.in_ok-recorded.recorded.tables) c.in_ok-recorded.ensures.text
    c.in_ok-recorded.ensures.recorded.reachable))

pub returns-clause-once : goal.returns-clause-once
returns-clause-once c = subst (λ t. NoneTwice (items_of t)) (sym c.into_items.ensures.items) c.in_ok-recorded.ensures.recorded.once

pub returns-clause-instances : goal.returns-clause-instances
returns-clause-instances c = subst (λ t. NoneTwice t.instances) (sym c.into_items.ensures.items) c.in_ok-recorded.ensures.recorded.instances

pub returns-clause-environments : goal.returns-clause-environments
returns-clause-environments c = subst (λ t. NoneTwice t.environments) (sym c.into_items.ensures.items) c.in_ok-recorded.ensures.recorded.environments
