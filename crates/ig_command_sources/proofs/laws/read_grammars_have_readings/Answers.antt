use Rattle.ig_command_sources.proofs.Either.{printable}
use Rattle.ig_command_sources.proofs.laws.read_grammars_have_readings.Goals as goal

pub returns : goal.returns
returns c = printable c.read_grammars_have_readings.ensures
