use Rattle.std.proofs.lemmas.Result.{on_ok_weaker}
use Rattle.std.specs.Prelude.{codes}
use Rattle.ig_show_texts.proofs.Pieces.{two_added}
use Rattle.ig_show_texts.proofs.tags.push_alternative.Goals as goal

pub returns : goal.returns
returns c =
    on_ok_weaker c.push_number.result (two_added _ (codes ".") _ c.in_ok-push_str.ensures.bytes) c.push_number.ensures
