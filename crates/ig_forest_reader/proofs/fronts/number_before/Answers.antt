use Rattle.std.proofs.Common.{refl, subst, sym}
use Rattle.ig_text.proofs.Booleans.{refuted}
use Rattle.ig_forest_reader.specs.Runs.{LeadsWell}
use Rattle.ig_forest_reader.proofs.fronts.number_before.Goals as goal

pub returns-then-not-leads_well : goal.returns-then-not-leads_well
returns-then-not-leads_well c leads =
    refuted c.leads_well.result c.leads_well.ensures c.if-not-leads_well.true (subst LeadsWell (sym c.split_at.ensures.front) leads)

pub returns : goal.returns
returns c = (subst LeadsWell c.split_at.ensures.front (c.leads_well.ensures.0 c.if-not-leads_well.false), refl, c.split_at.ensures.back)
