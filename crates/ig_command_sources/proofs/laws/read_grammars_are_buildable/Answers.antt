use Rattle.ig_command_sources.proofs.OfNotation.{read_grammars_are_buildable}
use Rattle.ig_command_sources.proofs.laws.read_grammars_are_buildable.Goals as goal

pub returns : goal.returns
returns c =
    read_grammars_are_buildable
    (record {
      regular = c.read_grammars_are_regular.ensures;
      written = c.read_grammars_are_written.ensures;
      named = c.read_names_are_names.ensures;
    })
    c.notation_is_buildable.ensures
