use Rattle.ig_text.proofs.Joining.{at_end}
use Rattle.ig_text.proofs.class.joined.Goals as goal

pub returns : goal.returns
returns c =
    at_end c.args.pairs.now c.in-Some.rest.now c.loop-pair.ranges.items c.push-2.new.self.items c.in-Some.first.now
    c.loop-pair.open c.loop-pair.pair-index (c.in-Some.ensures.cases.0) c.requires c.loop-pair.invariant
    c.loop-pair-test.false c.in_ok-push-2.ensures.items
