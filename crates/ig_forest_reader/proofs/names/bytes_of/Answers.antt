use Rattle.std.proofs.Common.{◌∙◌}
use Rattle.ig_text.proofs.Characters.{word_bytes}
use Rattle.ig_forest_reader.proofs.names.bytes_of.Goals as goal

pub returns : goal.returns
returns c = c.as_bytes.ensures.value ∙ word_bytes c.as_str.result.now c.args.name.now c.as_str.utf8 c.as_str.ensures
