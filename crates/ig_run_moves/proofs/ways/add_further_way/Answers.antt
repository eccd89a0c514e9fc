use Rattle.ig_run_moves.proofs.ways.add_further_way.Goals as goal

pub returns : goal.returns
returns c = c.push_further.ensures.ok
