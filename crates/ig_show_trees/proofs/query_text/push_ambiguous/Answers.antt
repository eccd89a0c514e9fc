use Rattle.std.proofs.Common.{sym, ◌∙◌}
use Rattle.std.proofs.lemmas.Result.{on_ok_weaker}
use Rattle.ig_show_trees.proofs.Reporting.{some_ambiguous}
use Rattle.ig_show_trees.proofs.query_text.push_ambiguous.Goals as goal

pub returns : goal.returns
returns c =
    on_ok_weaker c.push_nodes.result
    (some_ambiguous c.args.forest.now c.args.nodes.now c.args.out.now.items
    (sym c.is_empty.ensures ∙ c.if-is_empty.false) c.in_ok-extend_from_slice.ensures.items)
    c.push_nodes.ensures
