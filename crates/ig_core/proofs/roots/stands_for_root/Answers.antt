use Rattle.std.proofs.Common.{◌∙◌, ap}
use Rattle.ig_pass.specs.Rooted.{is_root}
use Rattle.ig_core.proofs.roots.stands_for_root.Goals as goal

pub returns : goal.returns
returns c = c.is_root.ensures ∙ ap is_root c.shape_behind.ensures
