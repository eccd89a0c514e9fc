use Rattle.std.proofs.Common.{◌∙◌}
use Rattle.ig_gss.proofs.Keyed as keyed
use Rattle.ig_gss.proofs.places.done_at.Goals as goal

pub returns-clause-some : goal.returns-clause-some
returns-clause-some c = keyed.looked_up keyed.place_decides _ _ _ (c.copied.ensures ∙ c.get.ensures.value)

pub returns-clause-none : goal.returns-clause-none
returns-clause-none c = keyed.not_found keyed.place_decides _ _ _ (c.copied.ensures ∙ c.get.ensures.value)
