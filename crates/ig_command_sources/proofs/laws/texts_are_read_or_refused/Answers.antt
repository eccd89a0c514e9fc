use Rattle.ig_command_sources.proofs.Either.{either_texts_are_read_or_refused}
use Rattle.ig_command_sources.proofs.laws.texts_are_read_or_refused.Goals as goal

pub returns : goal.returns
returns c = either_texts_are_read_or_refused c.texts_are_read_or_refused.ensures c.texts_are_read_or_refused-2.ensures
