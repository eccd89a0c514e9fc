-- What the top call decides of a batch.
use Rattle.std.proofs.Common.{◌≡◌, ◌≢◌, ℕ, ◌+◌, List, [], sym, subst, Result, Ok, Err, Vec, Global}
use Rattle.ig_outside.specs.States.{ShelfState}
use Rattle.ig_turns.specs.Lists.{Job}
use Rattle.ig_command.specs.Commands.{batch, IsCommand}
use Rattle.ig_command_endings.specs.Change.{Change}
use Rattle.ig_command_endings.specs.Notes.{cannot_read_note}
use Rattle.ig_command_endings.specs.declared.status.Status.{Status}
use Rattle.ig_command_endings.specs.declared.status.Status.TheVariants as status
use Rattle.ig_command_endings.specs.declared.stop.Stop.{Stop}
use Rattle.ig_command_endings.specs.declared.stop.Stop.TheVariants as halt
use Rattle.ig_command_sources.specs.Sources as sources
use Rattle.ig_command_sources.specs.Sources.{IsNoList, StopsAt}
use Rattle.ig_tool.specs.Batch as batches
use Rattle.ig_tool.specs.Batch.{CannotLoad, GivesJobs, RunsBatch, StopsBatch}
use Rattle.ig_tool.specs.Outcome.{Decided, HasJobs, batched, for_batch, job_missing, job_unread, list_missing, list_refused, list_unread}
use Rattle.ig_tool.specs.Decisions.{Decides}

module _ (words : List (List ℕ)) (shelf : Change ShelfState) (list : List ℕ) (budget turn : ℕ)
    (command : IsCommand words (batch list budget turn)) where
  abbrev Stops : Status → List ℕ → ℕ → Type 0
  Stops s note k = Decided words shelf s [] note k × (s ≢ status.Done)

  stops_at_list : (s : Status) (note : List ℕ) →
      StopsAt (shelf.before.holds list) list shelf.before.faults shelf.after.faults IsNoList s note → Stops s note 1
  stops_at_list s note (sources.missing z line e n p q) =
      (rw (p, q) (list_missing list budget turn e command n), λ d. cc)
  stops_at_list s note (sources.unread z line rose p q) =
      (rw (p, q) (list_unread list budget turn rose command), λ d. cc)
  stops_at_list s note (sources.refused z line xs e gives none) = (
    rw none.status_is (list_refused list budget turn xs note e command gives none.bad),
    λ d. let p = none.status_is in cc,
  )

  has_jobs : (jobs : List Job) → GivesJobs (shelf.before.holds list) jobs → HasJobs words shelf.before list budget turn jobs
  has_jobs jobs gives = record { command = command; gives = gives }

  stops_at_job : (s : Status) (note name : List ℕ) (jobs : List Job) (k : ℕ) → GivesJobs (shelf.before.holds list) jobs →
      CannotLoad shelf jobs name k → s ≡ status.ReadFault → note ≡ cannot_read_note name → Stops s note (1 + k)
  stops_at_job s note name jobs k gives (batches.missing e stops) p q =
      (rw (p, q) (job_missing list budget turn jobs name k e (has_jobs jobs gives) stops), λ d. cc)
  stops_at_job s note name jobs k gives (batches.unread rose stops) p q =
      (rw (p, q) (job_unread list budget turn jobs name k rose (has_jobs jobs gives) stops), λ d. cc)

  stops_batch : (s : Status) (note : List ℕ) (k : ℕ) → StopsBatch shelf list s note k → Stops s note k
  stops_batch s note k (batches.at_list stops) = stops_at_list s note stops
  stops_batch s note k (batches.at_job jobs name j gives cannot p q) = stops_at_job s note name jobs j gives cannot p q

  -- what comes of it
  pub decides_batch : (r : Result (Vec ℕ Global) Stop) → RunsBatch budget shelf list r → Decides words shelf r
  decides_batch (Ok text) h =
      let P : List ℕ → Type 0 = λ z. Decided words shelf status.Done z [] (1 + h.fetches) in (
        1 + h.fetches,
        subst P (sym h.text_is) (batched list budget turn h.jobs h.ends h.fetches h.calm (has_jobs h.jobs h.gives_jobs) h.all_end),
        h.counted,
      )
  decides_batch (Err (halt.Note s line)) h =
      let d = stops_batch s line.items h.0 h.1 in (h.0, d.0, h.2, d.1)
  decides_batch (Err halt.Memory) h = (h.0, for_batch list budget turn h.0 command h.1, h.2, h.3)
