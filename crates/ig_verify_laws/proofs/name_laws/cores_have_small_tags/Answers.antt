use Rattle.ig_verify_laws.proofs.Law.{small_tags}
use Rattle.ig_verify_laws.proofs.name_laws.cores_have_small_tags.Goals as goal

pub returns : goal.returns
returns c = small_tags c.alternatives_are_few.ensures
