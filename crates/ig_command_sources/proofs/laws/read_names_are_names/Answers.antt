use Rattle.ig_command_sources.proofs.Either.{either_read_names_are_names}
use Rattle.ig_command_sources.proofs.laws.read_names_are_names.Goals as goal

pub returns : goal.returns
returns c = either_read_names_are_names c.read_names_are_names.ensures c.read_names_are_names-2.ensures
