use Rattle.ig_command_sources.proofs.OfNotation.{read_grammars_stay_regular}
use Rattle.ig_command_sources.proofs.laws.read_grammars_stay_regular.Goals as goal

pub returns : goal.returns
returns c =
    read_grammars_stay_regular c.read_grammars_are_buildable.ensures c.read_grammars_are_regular.ensures c.passes_are_regular.ensures
