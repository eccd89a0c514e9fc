use Rattle.std.proofs.Common.{refl}
use Rattle.std.proofs.lemmas.Bool.{false≢true}
use Rattle.ig_text.proofs.Booleans.{refuted}
use Rattle.ig_forest_tables.specs.Views.{node_view}
use Rattle.ig_verify.specs.Sound.{ChoiceFits}
use Rattle.ig_verify.proofs.Below.{each_next, each_member}
use Rattle.ig_verify.proofs.nodes.choices_fit.Goals as goal

pub loop-choice-preserved : goal.loop-choice-preserved
loop-choice-preserved c =
    each_next (ChoiceFits c.args.core.now c.args.draft.now (node_view c.args.node.now)) c.args.node.now.alternatives.now
    c.loop-choice.choice-index _ c.loop-choice-test.true c.loop-choice.invariant
    (c.choice_fits.ensures.0 c.if-not-choice_fits.false)

pub returns-then-not-choice_fits : goal.returns-then-not-choice_fits
returns-then-not-choice_fits c = (
  λ e. absurd (false≢true e),
  λ all. absurd (refuted c.choice_fits.result c.choice_fits.ensures c.if-not-choice_fits.true (all c.loop-choice.choice-index _ c.loop-choice-test.true)),
)

pub returns : goal.returns
returns c = (
  λ e. each_member (ChoiceFits c.args.core.now c.args.draft.now (node_view c.args.node.now)) c.args.node.now.alternatives.now
      c.loop-choice.choice-index c.loop-choice-test.false c.loop-choice.invariant,
  λ all. refl,
)
