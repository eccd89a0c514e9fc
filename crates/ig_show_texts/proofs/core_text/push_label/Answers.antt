use Rattle.std.specs.Prelude.{codes}
use Rattle.ig_show_texts.proofs.CoreAdded.{pushed_behind}
use Rattle.ig_show_texts.proofs.core_text.push_label.Goals as goal

pub returns : goal.returns
returns c = rw c.in-Some.is (pushed_behind c.push_str.result (codes ": ") _ _ c.in_ok-push_word.ensures c.push_str.ensures.bytes)
