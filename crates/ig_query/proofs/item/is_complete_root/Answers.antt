use Rattle.std.proofs.Common.{◌≡◌, ◌∙◌, sym, true, rules}
use Rattle.ig_item.specs.Tables.{item_of}
use Rattle.ig_query.proofs.LookedUp.{complete_root_by}
use Rattle.ig_query.proofs.item.is_complete_root.Goals as goal

pub returns : goal.returns
returns c =
    let root : c.is_root.result ≡ true = grind (rules, c.if-not-is_root.false) in
    complete_root_by c.behind_is_looked_up.ensures c.args.core.now (item_of c.args.items.now c.args.item.now) c.dot_of.result c.dot_of.ensures
    c.is_last.result c.is_last.ensures (sym c.instance_of_item.ensures ∙ c.is_root.ensures.0 root)
