use Rattle.std.proofs.Common.{sym, ◌∙◌, subst}
use Rattle.std.proofs.lemmas.List.{length-map}
use Rattle.ig_item.specs.Items.{MoreThan}
use Rattle.ig_item.specs.Tables.{item_of, items_of}
use Rattle.ig_item.specs.declared.run_fault.RunFault.{RunFault}
use Rattle.ig_plain.specs.Run.{Refuses}
use Rattle.ig_parse.proofs.items.forest_of_items.Goals as goal

pub unreachable-requires : goal.unreachable-requires
unreachable-requires c =
    c.budgets_suffice.ensures c.args.core.now c.args.text.now (items_of c.args.items.now) (λ x r. (c.requires x).1 r)
    (subst (MoreThan c.args.core.now c.args.text.now)
    (c.len.ensures.number ∙ sym (length-map c.args.items.now.items (item_of c.args.items.now)))
    (subst (λ (z : RunFault). Refuses c.args.core.now c.args.text.now c.len.result z) c.in-Err-Budget.field-0-is c.in-Err-Budget.ensures.fault))
