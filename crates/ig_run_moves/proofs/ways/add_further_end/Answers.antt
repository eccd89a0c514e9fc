use Rattle.ig_run_moves.proofs.ways.add_further_end.Goals as goal

pub returns : goal.returns
returns c = c.push_end.ensures.ok
