use Rattle.ig_command_sources.proofs.Either.{either_read_grammars_are_written}
use Rattle.ig_command_sources.proofs.laws.read_grammars_are_written.Goals as goal

pub returns : goal.returns
returns c = either_read_grammars_are_written c.read_grammars_are_written.ensures c.read_grammars_are_written-2.ensures
