use Rattle.std.proofs.Common.{◌<◌, ◌∙◌, length, slice_index, sym, ap, subst}
use Rattle.ig_forest_tables.specs.declared.entry.Entry.TheVariants.{Take}
use Rattle.ig_forest_tables.specs.declared.entry.Child.TheVariants as child
use Rattle.ig_forest.specs.CodeItemNodes.{number_by}
use Rattle.ig_forest.proofs.item_nodes.Sources.taken.Goals as goal

pub number-number-requires : goal.number-number-requires
number-number-requires c = c.requires.1

pub node_at-node-requires : goal.node_at-node-requires
node_at-node-requires c = subst (λ z. z < length c.args.self.now.nodes.now) (sym c.number-number.ensures) c.requires.2

pub number-requires : goal.number-requires
number-requires c = c.requires.0

pub returns : goal.returns
returns c =
    let node = c.node_at-node.ensures ∙ ap (slice_index c.args.self.now.nodes.now) c.number-number.ensures in
    ap (λ z. Take z (child.Node c.node_at-node.result)) c.number.ensures ∙
    ap (λ z. Take (number_by c.args.self.now c.args.prev) (child.Node z)) node
