use Rattle.std.proofs.Common.{subst}
use Rattle.ig_run_laws.specs.Renamed.{AreAbove}
use Rattle.ig_run_laws.proofs.Least.{is_renamed_above}
use Rattle.ig_run_laws.proofs.renaming.rename.Goals as goal

pub returns-then-not-has_lower : goal.returns-then-not-has_lower
returns-then-not-has_lower c = is_renamed_above c.args.ways (subst AreAbove c.ends.ensures c.if-not-has_lower.ensures)
