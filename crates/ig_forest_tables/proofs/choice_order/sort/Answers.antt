use Rattle.std.proofs.Common.{rules}
use Rattle.std.proofs.lemmas.List.Sorted.{answers_always}
use Rattle.ig_text.specs.TagNumber.{number_of}
use Rattle.ig_forest_tables.specs.declared.entry.Choice.{Choice}
use Rattle.ig_forest_tables.proofs.choice_order.sort.Goals as goal

pub returns-clause-order : goal.returns-clause-order
returns-clause-order c =
    c.sort_unstable_by_key.ensures.sorted (λ (x : Choice). (number_of x.tag, x.item)) (answers_always _ _ _ (λ f a r g h. search rules))
