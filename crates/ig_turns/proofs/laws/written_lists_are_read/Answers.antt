use Rattle.std.proofs.Common.{arith, length, List, [], ◌∷◌, ◌≢◌, ◌<◌, ◌+◌, refl}
use Rattle.ig_turns.specs.Lists.{Job}
use Rattle.ig_turns.proofs.Written.{written_from}
use Rattle.ig_turns.proofs.laws.written_lists_are_read.Goals as goal

some_jobs : (jobs : List Job) → jobs ≢ [] → 1 < 1 + length jobs
some_jobs [] h = absurd (h refl)
some_jobs (job ∷ jobs) h = omega arith

pub returns : goal.returns
returns c jobs all some few = written_from 1 jobs all (some_jobs jobs some) (omega (arith, few))
