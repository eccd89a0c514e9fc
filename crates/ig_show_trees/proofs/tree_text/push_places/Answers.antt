use Rattle.std.proofs.lemmas.Result.{on_ok_weaker}
use Rattle.std.specs.Prelude.{codes}
use Rattle.ig_show_trees.proofs.Added.{three_added}
use Rattle.ig_show_trees.proofs.tree_text.push_places.Goals as goal

pub returns : goal.returns
returns c =
    on_ok_weaker c.push_number-2.result
    (three_added _ _ (codes "..") _ c.in_ok-push_number.ensures c.in_ok-push_str.ensures.bytes) c.push_number-2.ensures
