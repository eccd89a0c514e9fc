use Rattle.std.proofs.Common.{rules, subst, sym, ◌∷◌, []}
use Rattle.ig_forest_tables.specs.StoredItems.{ArePartsOf}
use Rattle.ig_forest_tables.proofs.StoredItems.{parts_left, parts_more, items_more}
use Rattle.ig_forest_tables.proofs.item_table.ItemTable.push_one.Goals as goal

pub invariant_of-self : goal.invariant_of-self
invariant_of-self c = subst (λ z. ArePartsOf z c.self.inside.parts.items) (sym c.in_err-push.ensures.items) c.self.invariant

pub invariant_of-self-in_err-push-2 : goal.invariant_of-self-in_err-push-2
invariant_of-self-in_err-push-2 c =
    parts_left c.self.inside.entries.items _ (c.args.entry ∷ []) c.self.inside.parts.items _ c.self.invariant
    c.in_ok-push.ensures.items c.in_err-push-2.ensures.items

pub invariant_of-self-2 : goal.invariant_of-self-2
invariant_of-self-2 c =
    parts_more c.self.inside.entries.items _ (c.args.entry ∷ []) c.self.inside.parts.items _ c.args.row c.in_ok-begin.begin c.in_ok-end.end
    c.self.invariant (search (rules, c.as_slice.ensures.value)) (search (rules, c.as_slice-2.ensures.value)) c.in_ok-push.ensures.items
    c.in_ok-push-2.ensures.items

pub returns : goal.returns
returns c =
    items_more c.self.inside.entries.items _ (c.args.entry ∷ []) c.self.inside.parts.items _ c.args.row c.in_ok-begin.begin c.in_ok-end.end _
    c.self.invariant (search (rules, c.as_slice.ensures.value)) (search (rules, c.as_slice-2.ensures.value)) c.in_ok-push.ensures.items
    c.in_ok-push-2.ensures.items c.self.view_is
