use Rattle.ig_command_sources.proofs.Either.{either_read_grammars_are_regular}
use Rattle.ig_command_sources.proofs.laws.read_grammars_are_regular.Goals as goal

pub returns : goal.returns
returns c = either_read_grammars_are_regular c.read_grammars_are_regular.ensures c.read_grammars_are_regular-2.ensures
