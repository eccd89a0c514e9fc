use Rattle.ig_forest_reader.specs.Checks.{ChoicesThere}
use Rattle.std.proofs.Common.{ℕ, ◌∙◌, ap, refl, subst, sym, arith}
use Rattle.std.specs.Prelude.{option_map}
use Rattle.std.proofs.lemmas.Bool.{false≢true}
use Rattle.std.proofs.lemmas.Option.{slice_get_within}
use Rattle.ig_text.proofs.Booleans.{refuted}
use Rattle.ig_forest_tables.specs.Views.{node_view}
use Rattle.ig_forest_reader.proofs.checks.nodes_fit.Goals as goal

pub returns-then-not-choices_fit : goal.returns-then-not-choices_fit
returns-then-not-choices_fit c = (
  λ e. absurd (false≢true e),
  λ all. absurd (refuted c.choices_fit.result c.choices_fit.ensures c.if-not-choices_fit.true
      (subst (λ (n : ℕ). ChoicesThere n c.in-Some.node.alternatives.now) (sym c.items-items.ensures)
      (all c.loop-k.k (node_view c.in-Some.node) (sym c.node.ensures ∙ ap (option_map node_view) c.in-Some.is)))),
)

pub returns : goal.returns
returns c = (
  λ e v x there.
      let within = slice_get_within c.args.forest.now.nodes v x there in
      let end = c.nodes-k-end.ensures in
      let past = c.loop-k-test.false in
      c.loop-k.invariant v x (omega (arith, within, end, past)) there,
  λ all. refl,
)
