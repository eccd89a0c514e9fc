use Rattle.std.proofs.Common.{arith, sym, subst, ◌↔◌, ◌<◌, ◌+◌, IsTrue, List, ℕ, length}
use Rattle.ig_forest_tables.specs.Forest.{Forest}
use Rattle.ig_heights.specs.Rules.{height_at, IsPart}
use Rattle.ig_heights.specs.Table.{IsLeastTable}
use Rattle.ig_heights.specs.declared.rule.Table.{Table}
use Rattle.ig_heights.proofs.Answering.{nodes_small, items_small, heights_are}
use Rattle.ig_heights.proofs.heights.Heights.of.Goals as goal

few : (f : Forest) (l : Table) → IsLeastTable f l → length f.nodes < 4294967296
few f l rules = let n = rules.nodes in let s = l.few in omega (arith, n, s)

pub part_of-requires-clause-small : goal.part_of-requires-clause-small
part_of-requires-clause-small c =
    let trim = c.root-root.ensures.trim in
    subst (λ (z : List ℕ). (k : ℕ) → k < c.nodes.result → height_at z (0 + k) < 4294967296) (sym c.as_slice-low.ensures.value)
    (nodes_small c.args.forest.now c.in_ok-least.least c.in_ok-least.ensures c.in_ok-least_table.least_table.items c.in_ok-least_table.ensures trim
    (c.trim_forest_has_trees.ensures c.args.forest.now trim.alive) (few c.args.forest.now c.in_ok-least.least c.in_ok-least.ensures) c.nodes.result c.nodes.ensures)

pub part_of-requires-2-clause-small : goal.part_of-requires-2-clause-small
part_of-requires-2-clause-small c =
    let trim = c.root-root.ensures.trim in
    subst (λ (z : List ℕ). (k : ℕ) → k < c.items.result → height_at z (c.in_ok-least.least.nodes + k) < 4294967296) (sym c.as_slice-low.ensures.value)
    (items_small c.args.forest.now c.in_ok-least.least c.in_ok-least.ensures c.in_ok-least_table.least_table.items c.in_ok-least_table.ensures trim
    (c.trim_forest_has_trees.ensures c.args.forest.now trim.alive) (few c.args.forest.now c.in_ok-least.least c.in_ok-least.ensures) c.items.result
    c.in_ok-least.least.nodes c.in_ok-least.ensures.nodes c.items.ensures)

pub returns : goal.returns
returns c =
    let trim = c.root-root.ensures.trim in
    heights_are c.args.forest.now c.in_ok-least.least c.in_ok-least.ensures c.in_ok-least_table.least_table.items c.in_ok-least_table.ensures trim
    (c.trim_forest_has_trees.ensures c.args.forest.now trim.alive) c.in_ok-whole.whole c.in_ok-whole.ensures c.in_ok-whole_table.whole_table.items
    c.in_ok-whole_table.ensures c.in_ok-nodes.nodes.items c.in_ok-items.items.items c.nodes.result c.in_ok-least.least.nodes c.items.result c.root-root.result
    c.is_above-cyclic.result c.nodes.ensures c.in_ok-least.ensures.nodes c.items.ensures c.root-root.ensures.number
    (subst (λ (z : List ℕ). IsPart z 0 c.nodes.result c.in_ok-nodes.nodes.items) c.as_slice-low.ensures.value c.in_ok-nodes.ensures)
    (subst (λ (z : List ℕ). IsPart z c.in_ok-least.least.nodes c.items.result c.in_ok-items.items.items) c.as_slice-low.ensures.value c.in_ok-items.ensures)
    (subst (λ (z : List ℕ). IsTrue c.is_above-cyclic.result ↔ (c.in_ok-least.least.nodes < height_at z c.root-root.result)) c.as_slice.ensures.value
    c.is_above-cyclic.ensures)
