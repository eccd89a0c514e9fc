-- The orders of items, nodes, alternatives and entries are total.
use Rattle.std.specs.Cmp.{IsTotalOrder}
use Rattle.std.proofs.lemmas.Cmp.{nat_cmp_total, on_total, then_total}
use Rattle.ig_text.specs.TagNumber.{number_of}
use Rattle.ig_expr.specs.Ordered.{list_total}
use Rattle.ig_item.specs.Items.{Item}
use Rattle.ig_item.specs.Gives.{NodeKey}
use Rattle.ig_forest_tables.specs.Orders.{item_cmp, node_cmp, choice_cmp, entry_cmp, previous}
use Rattle.ig_forest_tables.specs.declared.entry.Choice.{Choice}

pub item_total : IsTotalOrder item_cmp
item_total =
    then_total (on_total (λ (x : Item). x.instance.start) nat_cmp_total)
    (then_total (on_total (λ (x : Item). x.position) nat_cmp_total)
    (then_total (on_total (λ (x : Item). x.instance.nonterminal) nat_cmp_total)
    (then_total (on_total (λ (x : Item). x.instance.values) list_total)
    (then_total (on_total (λ (x : Item). x.alternative) nat_cmp_total)
    (then_total (on_total (λ (x : Item). x.dot) nat_cmp_total)
    (on_total (λ (x : Item). x.env) list_total))))))

pub node_total : IsTotalOrder node_cmp
node_total =
    then_total (on_total (λ (x : NodeKey). x.instance.start) nat_cmp_total)
    (then_total (on_total (λ (x : NodeKey). x.end) nat_cmp_total)
    (then_total (on_total (λ (x : NodeKey). x.instance.nonterminal) nat_cmp_total)
    (on_total (λ (x : NodeKey). x.instance.values) list_total)))

pub choice_total : IsTotalOrder choice_cmp
choice_total = then_total (on_total (λ (x : Choice). number_of x.tag) nat_cmp_total) (on_total (λ (x : Choice). x.item) nat_cmp_total)

pub entry_total : IsTotalOrder entry_cmp
entry_total = on_total previous nat_cmp_total
