use Rattle.ig_verify_laws.proofs.NoFlaw.{no_flaw}
use Rattle.ig_verify_laws.proofs.reduced_laws.sound_forests_have_no_flaw.Goals as goal

pub returns : goal.returns
returns c = no_flaw
