use Rattle.ig_walker.proofs.follow.add_visit.Goals as goal

pub returns : goal.returns
returns c = c.in_ok-push.ensures.items
