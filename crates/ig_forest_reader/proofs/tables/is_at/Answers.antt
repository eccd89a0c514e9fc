use Rattle.std.proofs.Common.{◌∙◌, Some, ap, sym}
use Rattle.ig_forest_reader.proofs.tables.is_at.Goals as goal

pub returns-in-Some : goal.returns-in-Some
returns-in-Some c is = sym c.in-Some.ensures ∙ ap Some (c.are_same.ensures.0 is)
