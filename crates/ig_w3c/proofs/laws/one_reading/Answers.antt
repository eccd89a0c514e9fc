use Rattle.ig_w3c.proofs.Readings.{only_reading}
use Rattle.ig_w3c.proofs.laws.one_reading.Goals as goal

pub returns : goal.returns
returns c =
    only_reading c.tokens_are_single.ensures c.one_reading.ensures
