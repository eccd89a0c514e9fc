use Rattle.std.proofs.Common.{All, refl, subst}
use Rattle.std.proofs.lemmas.Bool.{false≢true}
use Rattle.std.proofs.lemmas.List.{take_all}
use Rattle.std.proofs.lemmas.List.Elements.{All-more}
use Rattle.ig_text.proofs.Booleans.{refuted}
use Rattle.ig_forest_tables.specs.Forest.{EntryFits}
use Rattle.ig_forest_reader.proofs.checks.entries_fit.Goals as goal

pub loop-entry-preserved : goal.loop-entry-preserved
loop-entry-preserved c =
    All-more (EntryFits c.args.forest.now c.args.dot) c.args.entries.now c.loop-entry.entry-index _ c.loop-entry-test.true c.loop-entry.invariant
    (c.entry_fits.ensures.0 c.if-not-entry_fits.false)

pub returns-then-not-entry_fits : goal.returns-then-not-entry_fits
returns-then-not-entry_fits c = (
  λ e. absurd (false≢true e),
  λ all. absurd (refuted c.entry_fits.result c.entry_fits.ensures c.if-not-entry_fits.true (all c.loop-entry.entry-index _ c.loop-entry-test.true)),
)

pub returns : goal.returns
returns c = (
  λ e. subst (All (EntryFits c.args.forest.now c.args.dot)) (take_all c.loop-entry.entry-index c.args.entries.now c.loop-entry-test.false) c.loop-entry.invariant,
  λ all. refl,
)
