use Rattle.ig_w3c.specs.Outcome.{too_many_bytes}
use Rattle.ig_w3c.proofs.Outcomes.{short_enough}
use Rattle.ig_w3c.proofs.source.read_w3c.Goals as goal

pub returns-then-is_too_long-clause-fault : goal.returns-then-is_too_long-clause-fault
returns-then-is_too_long-clause-fault c = too_many_bytes (c.is_too_long.ensures.0 c.if-is_too_long.true)

pub read_short_w3c-requires : goal.read_short_w3c-requires
read_short_w3c-requires c = short_enough _ _ _ c.is_too_long.ensures c.if-is_too_long.false
