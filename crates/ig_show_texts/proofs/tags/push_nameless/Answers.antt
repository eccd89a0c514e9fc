use Rattle.std.proofs.lemmas.Result.{on_ok_weaker}
use Rattle.std.specs.Prelude.{codes}
use Rattle.ig_show_texts.proofs.Pieces.{two_added}
use Rattle.ig_show_texts.proofs.tags.push_nameless.Goals as goal

pub returns-in_ok-push_str-in-GroupAlt : goal.returns-in_ok-push_str-in-GroupAlt
returns-in_ok-push_str-in-GroupAlt c =
    rw c.in-GroupAlt.is
    (on_ok_weaker c.push_number.result (two_added _ (codes "$group.") _ c.in_ok-push_str-in-GroupAlt.ensures.bytes)
    c.push_number.ensures)
