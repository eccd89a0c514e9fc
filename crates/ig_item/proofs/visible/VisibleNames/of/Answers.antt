use Rattle.std.proofs.Common.{rules, ◌∙◌}
use Rattle.ig_item.specs.Visible.{names_at_dots}
use Rattle.ig_item.proofs.VisibleDots.{starts, goes, ends, ends_seen}
use Rattle.ig_item.proofs.visible.VisibleNames.of.Goals as goal

pub loop-step-init : goal.loop-step-init
loop-step-init c = starts c.in_ok-names.names.items c.as_slice-step-items.result.now c.new-seen.result.items c.new-seen.ensures.items

pub loop-step-preserved : goal.loop-step-preserved
loop-step-preserved c =
    goes c.in_ok-names.names.items c.loop-step.names.items c.as_slice-step-items.result.now c.loop-step.step-index
    c.loop-step.seen.items c.step-item.result c.len.result c.add_bound.new.names.items c.push.new.self.items
    c.loop-step.invariant c.loop-step-test.true c.step-item.is (search rules) c.in_ok-push.ensures.items
    c.in_ok-add_bound.ensures

pub invariant_of-result : goal.invariant_of-result
invariant_of-result c =
    ends_seen c.loop-step.names.items c.loop-step.seen.items c.len-2.result c.push-2.new.self.items c.loop-step.invariant.are
    (search rules) c.in_ok-push-2.ensures.items

pub returns : goal.returns
returns c =
    ends c.in_ok-names.names.items c.loop-step.names.items c.as_slice-step-items.result.now c.loop-step.step-index
    c.loop-step.seen.items c.len-2.result c.push-2.new.self.items c.loop-step.invariant c.loop-step-test.false
    (search rules) c.in_ok-push-2.ensures.items ∙
    (λ i. names_at_dots ((c.in_ok-names.ensures ∙ c.as_slice.ensures) i) (c.as_slice-step-items.ensures i))
