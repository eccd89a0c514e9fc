use Rattle.ig_levels.proofs.operands.asks_left.Goals as goal

pub returns : goal.returns
returns c = c.has_left.ensures
