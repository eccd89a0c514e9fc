use Rattle.ig_forest_reader.proofs.TellingForests.{texts_told}
use Rattle.ig_forest_reader.proofs.laws.texts_tell_drafts.Goals as goal

pub returns : goal.returns
returns c = texts_told
