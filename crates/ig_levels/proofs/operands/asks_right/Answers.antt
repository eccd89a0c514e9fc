use Rattle.ig_levels.proofs.operands.asks_right.Goals as goal

pub returns : goal.returns
returns c = c.has_right.ensures
