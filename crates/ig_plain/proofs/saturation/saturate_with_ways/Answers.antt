use Rattle.ig_plain.proofs.Ends.{no_more}
use Rattle.ig_plain.proofs.Ending.{is_recorded}
use Rattle.ig_plain.proofs.saturation.saturate_with_ways.Goals as goal

pub of-requires : goal.of-requires
of-requires c =
    is_recorded c.args.core.now c.args.text.now c.items_are_in_text.ensures c.args.budget c.in_ok-whole.whole.found c.in_ok-whole.whole.waiting
    c.in_ok-whole.ensures.run c.in_ok-whole.whole.trail c.in_ok-whole.ensures.trail c.in_ok-items.items c.in_ok-items.ensures

pub returns-clause-exact : goal.returns-clause-exact
returns-clause-exact c =
    no_more c.args.core.now c.args.text.now c.items_are_in_text.ensures c.args.budget c.in_ok-whole.whole.found c.in_ok-whole.whole.waiting
    c.in_ok-whole.ensures.run
