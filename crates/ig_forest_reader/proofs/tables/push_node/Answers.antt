use Rattle.std.proofs.Common.{◌++◌, ◌∷◌, ◌∙◌, [], List, ap}
use Rattle.std.proofs.lemmas.List.{take_all}
use Rattle.std.proofs.lemmas.Option.{slice_get-get_or}
use Rattle.ig_text.proofs.Lists.{take_at}
use Rattle.ig_forest_tables.specs.StoredNodes.{StoredNode}
use Rattle.ig_forest_tables.specs.declared.entry.Choice.{Choice}
use Rattle.ig_forest_reader.proofs.Growing.{choice_next}
use Rattle.ig_forest_reader.proofs.tables.push_node.Goals as goal

pub loop-choice-preserved : goal.loop-choice-preserved
loop-choice-preserved c =
    choice_next c.args.nodes.now c.loop-choice.nodes _ c.args.row c.args.choices.now c.loop-choice.choice-index _ c.loop-choice.invariant
    c.in_ok-push_choice.ensures (take_at c.args.choices.now c.loop-choice.choice-index _ (slice_get-get_or c.args.choices.now c.loop-choice.choice-index _ c.loop-choice-test.true))

pub returns : goal.returns
returns c =
    c.loop-choice.invariant ∙
    ap (λ (z : List Choice). c.args.nodes.now ++ (let n : StoredNode = record { row = c.args.row; alternatives = z } in n) ∷ [])
    (take_all c.loop-choice.choice-index c.args.choices.now c.loop-choice-test.false)
