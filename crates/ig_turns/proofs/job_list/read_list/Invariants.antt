use Rattle.std.proofs.Common.{◌≡◌, ◌≤◌, ◌+◌, map, vec_len, length}
use Rattle.std.specs.List.{slice_split}
use Rattle.ig_turns.specs.Lists.{reading, jobs_from, is_line_feed, most_jobs}
use Rattle.ig_turns.specs.Reads.{stored_job}
use Rattle.ig_turns.proofs.Reading.{jobs_after}
use Rattle.ig_turns.proofs.job_list.read_list.Given as goal

-- the jobs so far and those of what is left are those of all
abbrev pub invariant-loop-end : goal.invariant-loop-end
invariant-loop-end l = record {
  told : reading l.fn.bytes ≡ jobs_after (map stored_job l.jobs.items) (jobs_from (vec_len l.jobs + 1) (slice_split is_line_feed l.rest));
  few : vec_len l.jobs ≤ most_jobs;
}

abbrev pub decreases-loop-end : goal.decreases-loop-end
decreases-loop-end l = length l.rest
