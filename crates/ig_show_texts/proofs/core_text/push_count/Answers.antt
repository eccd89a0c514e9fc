use Rattle.std.proofs.Common.{rules}
use Rattle.ig_show_texts.proofs.core_text.push_count.Goals as goal

pub returns : goal.returns
returns c = search rules
