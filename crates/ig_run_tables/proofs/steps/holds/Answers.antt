use Rattle.std.proofs.lemmas.Bool.{false≢true}
use Rattle.ig_run_tables.proofs.steps.holds.Goals as goal

pub returns-in-None : goal.returns-in-None
returns-in-None c = (λ e. absurd (false≢true e), λ h. absurd (cc))
