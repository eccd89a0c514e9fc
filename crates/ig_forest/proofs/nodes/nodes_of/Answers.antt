use Rattle.std.proofs.Common.{ℕ, List, subst}
use Rattle.std.proofs.lemmas.List.{take_all}
use Rattle.ig_forest.specs.CodeDone.{choice_item_cmp}
use Rattle.ig_forest.specs.CodeNodes.{AreNodesWith, rows_of}
use Rattle.ig_forest.proofs.CodeNodePass.{nodes_none}
use Rattle.ig_forest.proofs.CodeNodesInOrder.{nodes_put}
use Rattle.ig_forest.proofs.nodes.nodes_of.Goals as goal

pub loop-place-init : goal.loop-place-init
loop-place-init c = nodes_none c.args.core.now c.new.result c.in_ok-numbers.numbers.items c.new.ensures c.in_ok-numbers.ensures.items

pub returns : goal.returns
returns c =
    nodes_put c.args.core.now (rows_of c.args.found.now.items.now c.args.found.now.keys.now c.args.found.now.places.now c.args.order.now)
    c.loop-place.nodes.table c.put_in_order.new.self c.loop-place.nodes.numbers.items c.put_in_order.ensures
    (subst
    (λ (z : List ℕ).
    AreNodesWith choice_item_cmp c.args.core.now (rows_of c.args.found.now.items.now c.args.found.now.keys.now c.args.found.now.places.now z)
    c.loop-place.nodes.table c.loop-place.nodes.numbers.items)
    (take_all c.loop-place.place c.args.order.now c.loop-place-test.false) c.loop-place.invariant)
