use Rattle.std.proofs.Common.{◌<◌, All, refl, subst}
use Rattle.std.proofs.lemmas.Bool.{false≢true}
use Rattle.std.proofs.lemmas.List.{take_all}
use Rattle.std.proofs.lemmas.List.Elements.{All-more}
use Rattle.ig_text.proofs.Booleans.{refuted}
use Rattle.ig_forest_tables.specs.declared.entry.Choice.{Choice}
use Rattle.ig_forest_reader.proofs.checks.choices_fit.Goals as goal

pub loop-choice-preserved : goal.loop-choice-preserved
loop-choice-preserved c =
    All-more (λ (choice : Choice). choice.item < c.args.items) c.args.choices.now c.loop-choice.choice-index _ c.loop-choice-test.true c.loop-choice.invariant
    (c.is_there.ensures.0 c.if-not-is_there.false)

pub returns-then-not-is_there : goal.returns-then-not-is_there
returns-then-not-is_there c = (
  λ e. absurd (false≢true e),
  λ all. absurd (refuted c.is_there.result c.is_there.ensures c.if-not-is_there.true (all c.loop-choice.choice-index _ c.loop-choice-test.true)),
)

pub returns : goal.returns
returns c = (
  λ e. subst (All (λ (choice : Choice). choice.item < c.args.items)) (take_all c.loop-choice.choice-index c.args.choices.now c.loop-choice-test.false) c.loop-choice.invariant,
  λ all. refl,
)
