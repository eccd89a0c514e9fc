-- What a reader of lists answers.
use Rattle.std.specs.Prelude.{◌≡◌, ℕ, List, map, Result, Ok, Err, Vec, string_bytes}
use Rattle.std.specs.declared.alloc.Global.{Global}
use Rattle.ig_turns.specs.declared.job_list.Names.{Names}
use Rattle.ig_turns.specs.declared.job_list.ListFault.{ListFault}
use Rattle.ig_turns.specs.declared.job_list.ListFault.TheVariants.{Memory, Wrong}
use Rattle.ig_turns.specs.Lists.{Job, reading}

abbrev pub stored_job : Names → Job
stored_job names = record { grammar = string_bytes names.grammar; input = string_bytes names.input }

-- the jobs of the list, or the number of the first wrong line; want of memory may come at any time
abbrev pub Reads : List ℕ → Result (Vec Names Global) ListFault → Type 0
Reads bytes (Ok jobs) = reading bytes ≡ Ok (map stored_job jobs.items)
Reads bytes (Err (Wrong line)) = reading bytes ≡ Err line
Reads bytes (Err Memory) = Unit {0}
