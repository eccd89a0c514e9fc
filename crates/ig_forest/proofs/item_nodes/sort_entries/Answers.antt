use Rattle.std.proofs.Common.{◌==◌, ◌∙◌, ap, rules, Bool}
use Rattle.std.specs.Cmp.{unsigned_ties}
use Rattle.std.specs.List.{dedup}
use Rattle.std.proofs.lemmas.Fn.{dedup_same}
use Rattle.std.proofs.lemmas.List.Sorted.{answers_always}
use Rattle.ig_forest_tables.specs.Orders.{previous}
use Rattle.ig_forest_tables.specs.declared.entry.Entry.{Entry}
use Rattle.ig_forest.proofs.CodeItemNodes.{sorted_once}
use Rattle.ig_forest.proofs.item_nodes.sort_entries.Goals as goal

pub returns : goal.returns
returns c =
    sorted_once c.args.entries.now.items c.sort_unstable_by_key.new.self.items c.dedup_by_key.new.self.items c.requires
    c.sort_unstable_by_key.ensures.permutation
    (c.sort_unstable_by_key.ensures.sorted previous (answers_always _ _ _ (λ f a r g h. search rules)))
    (dedup_same _ (λ e f. previous e == previous f) _ (λ x y b f' x' y' k. search rules) _ _ c.dedup_by_key.ensures.filtered ∙
    ap (λ (same : Entry → Entry → Bool). dedup same c.sort_unstable_by_key.new.self.items)
    (λ i e f. unsigned_ties (previous e) (previous f) i))
