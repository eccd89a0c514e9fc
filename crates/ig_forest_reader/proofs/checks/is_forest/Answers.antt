use Rattle.std.proofs.lemmas.Bool.{false≢true}
use Rattle.ig_text.proofs.Booleans.{refuted}
use Rattle.ig_forest_reader.proofs.Parts.{forest_fits, nodes_of_forest, items_of_forest}
use Rattle.ig_forest_reader.proofs.checks.is_forest.Goals as goal

pub returns-then-not-root_fits : goal.returns-then-not-root_fits
returns-then-not-root_fits c = (
  λ e. absurd (false≢true e),
  λ is. absurd (refuted c.root_fits.result c.root_fits.ensures c.if-not-root_fits.true is.root),
)

pub returns-then-not-nodes_fit : goal.returns-then-not-nodes_fit
returns-then-not-nodes_fit c = (
  λ e. absurd (false≢true e),
  λ is. absurd (refuted c.nodes_fit.result c.nodes_fit.ensures c.if-not-nodes_fit.true (nodes_of_forest c.args.forest.now is)),
)

pub returns : goal.returns
returns c = (
  λ e. forest_fits c.args.forest.now (c.root_fits.ensures.0 c.if-not-root_fits.false) (c.nodes_fit.ensures.0 c.if-not-nodes_fit.false) (c.items_fit.ensures.0 e),
  λ is. c.items_fit.ensures.1 (items_of_forest c.args.forest.now is),
)
