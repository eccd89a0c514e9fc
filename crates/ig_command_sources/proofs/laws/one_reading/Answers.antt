use Rattle.ig_command_sources.proofs.Either.{either_one_reading}
use Rattle.ig_command_sources.proofs.laws.one_reading.Goals as goal

pub returns : goal.returns
returns c = either_one_reading c.one_reading.ensures c.one_reading-2.ensures
