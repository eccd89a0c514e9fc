use Rattle.std.proofs.Common.{List, [], sym, subst}
use Rattle.ig_text.specs.Pairwise as pairwise
use Rattle.ig_forest.specs.CodeItemNodes.{IsStoredItem}
use Rattle.ig_forest_tables.specs.StoredItems.{StoredItem}
use Rattle.std.proofs.lemmas.List.Elements.{Contains-get_or}
use Rattle.ig_text.specs.Pairwise.{Each}
use Rattle.ig_text.proofs.Pairwise.{each_next, each_all}
use Rattle.ig_forest.proofs.item_nodes.Sources.item_nodes.Goals as goal

pub loop-number-init : goal.loop-number-init
loop-number-init c =
    subst (λ (v : List StoredItem). Each (IsStoredItem c.args.self.now) [] v) (sym c.in_ok-table.ensures) pairwise.none

pub add-requires-clause-live : goal.add-requires-clause-live
add-requires-clause-live c = Contains-get_or c.args.self.now.order.now c.loop-number.number-index _ c.loop-number-test.true

pub loop-number-preserved : goal.loop-number-preserved
loop-number-preserved c =
    each_next (IsStoredItem c.args.self.now) c.args.self.now.order.now c.loop-number.table c.add.new.table c.loop-number.number-index 0
    c.in_ok-add.ensures.stored c.loop-number-test.true c.loop-number.invariant c.in_ok-add.ensures.is c.in_ok-add.ensures.added

pub returns : goal.returns
returns c =
    each_all (IsStoredItem c.args.self.now) c.args.self.now.order.now c.loop-number.table c.loop-number.number-index c.loop-number-test.false
    c.loop-number.invariant
