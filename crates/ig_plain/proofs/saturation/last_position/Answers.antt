use Rattle.ig_plain.proofs.saturation.last_position.Goals as goal

pub returns : goal.returns
returns c = c.len.ensures.length
