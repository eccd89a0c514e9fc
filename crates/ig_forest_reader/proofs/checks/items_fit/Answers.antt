use Rattle.std.proofs.Common.{◌∙◌, ap, refl, sym, arith}
use Rattle.std.specs.Prelude.{option_map}
use Rattle.std.proofs.lemmas.Bool.{false≢true}
use Rattle.std.proofs.lemmas.Option.{slice_get_within}
use Rattle.ig_text.proofs.Booleans.{refuted}
use Rattle.ig_forest_tables.specs.Views.{item_node_view}
use Rattle.ig_forest_reader.proofs.checks.items_fit.Goals as goal

pub returns-then-not-item_fits : goal.returns-then-not-item_fits
returns-then-not-item_fits c = (
  λ e. absurd (false≢true e),
  λ all. absurd (refuted c.item_fits.result c.item_fits.ensures c.if-not-item_fits.true
      (all c.loop-k.k (item_node_view c.in-Some.item) (sym c.item.ensures ∙ ap (option_map item_node_view) c.in-Some.is))),
)

pub returns : goal.returns
returns c = (
  λ e v x there.
      let within = slice_get_within c.args.forest.now.items v x there in
      let end = c.items-k-end.ensures in
      let past = c.loop-k-test.false in
      c.loop-k.invariant v x (omega (arith, within, end, past)) there,
  λ all. refl,
)
