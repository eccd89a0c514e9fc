-- What comes of a batch, from what was loaded and played.
use Rattle.std.proofs.Common.{◌≡◌, ℕ, suc, ◌+◌, List, All, map, refl, sym, ◌∙◌, ap, subst, inl, Result, Ok, Err, Vec, Global, length, slice_get}
use Rattle.std.specs.List.{AllZip}
use Rattle.std.specs.Result.{IsErrAnd}
use Rattle.std.proofs.lemmas.List.Elements.{All-cons, All-nil}
use Rattle.ig_text.specs.Input.{Input}
use Rattle.ig_text.proofs.Options.{one_value, passed_on}
use Rattle.ig_outside.specs.States.{ShelfState}
use Rattle.ig_outside.specs.Told.{Told}
use Rattle.ig_turns.specs.Lists.{Job}
use Rattle.ig_turns.specs.Reads.{stored_job}
use Rattle.ig_turns.specs.declared.job_list.Names.{Names}
use Rattle.ig_grammar.specs.Checked.{CheckedGrammar}
use Rattle.ig_grammar.specs.declared.grammar.Grammar.{Grammar}
use Rattle.ig_core.specs.Notation.{unchanged}
use Rattle.ig_command_endings.specs.Change.{Change, Fetched, change}
use Rattle.ig_command_endings.specs.declared.status.Status.{Status}
use Rattle.ig_command_endings.specs.declared.stop.Stop.{Stop}
use Rattle.ig_command_endings.specs.declared.stop.Stop.TheVariants as halt
use Rattle.ig_command_jobs.specs.Jobs.{print}
use Rattle.ig_command_jobs.specs.Outcome.{Outcome}
use Rattle.ig_command_jobs.specs.Question.{Question, refused, parses}
use Rattle.ig_command_sources.specs.Sources.{IsListOf, LoadsList}
use Rattle.ig_tool.specs.Batch.{CannotLoad, GivesJobs, IsAny, IsMissing, RunsBatch, at_job, at_list, missing, of_jobs, the_list, unread}
use Rattle.ig_tool.specs.Counted.{ended, paired}
use Rattle.ig_tool.specs.Ends as ends
use Rattle.ig_tool.specs.Ends.{AllEnd, JobEnds}
use Rattle.ig_tool.specs.Files.{GivesFiles, IsRefusedJob, MayLoad, StopsAtFile}
use Rattle.ig_tool.specs.Loading.{AllLoaded, AreLoaded, IsLoaded, StopsLoading, grammars_of}
use Rattle.ig_tool.specs.Playing.{EndsAs, GivesEnd, IsPlaced, PlaysOut}
use Rattle.ig_tool.specs.Text.{End}
use Rattle.ig_tool.specs.declared.grammars.Kept.{Kept}
use Rattle.ig_tool.specs.declared.loading.Loaded.{Loaded}
use Rattle.ig_tool.specs.declared.loading.Loaded.TheVariants as loaded
use Rattle.ig_tool.proofs.Counted.{paired_through}
use Rattle.ig_tool.proofs.Fetching.{fetched_behind, rose_behind, same_holds, stood_behind}
use Rattle.ig_tool.proofs.Stopping.{may_all}

-- each job that was loaded has its grammar in its place
is_placed : (holds : List ℕ → Told) (grammars : List CheckedGrammar) (job : Job) (l : Loaded) (k : ℕ) →
    IsLoaded holds grammars job l k → IsPlaced grammars l
is_placed holds grammars job (loaded.Refused s note) k h = tt
is_placed holds grammars job (loaded.Accepted at input) k h = (unchanged h.1.0, h.1.2)

pub all_placed : (holds : List ℕ → Told) (grammars : List CheckedGrammar) (jobs : List Job) (ls : List Loaded) (n : ℕ) →
    AllLoaded holds grammars jobs ls n → All (IsPlaced grammars) ls
all_placed holds grammars jobs ls n ended = All-nil (IsPlaced grammars)
all_placed holds grammars jobs ls n (paired job l j m whole js others one rest e) =
    All-cons (IsPlaced grammars) l others (is_placed holds grammars job l j one) (all_placed holds grammars js others m rest)

-- as many as jobs
pub as_many_loaded : (holds : List ℕ → Told) (grammars : List CheckedGrammar) (jobs : List Job) (ls : List Loaded) (n : ℕ) →
    AllLoaded holds grammars jobs ls n → length ls ≡ length jobs
as_many_loaded holds grammars jobs ls n ended = refl
as_many_loaded holds grammars jobs ls n (paired job l j m whole js others one rest e) =
    ap suc (as_many_loaded holds grammars js others m rest)

-- what comes of a job that was loaded
module _ (holds : List ℕ → Told) (grammars : List CheckedGrammar) (budget : ℕ) (job : Job) (end : End) where
  as_refused : (s : Status) (note : List ℕ) (k : ℕ) (question : Question) → question ≡ refused s note → EndsAs question end →
      IsRefusedJob holds job s note k → JobEnds holds budget job end.status end.out end.note k
  as_refused s note k question asked is h =
      let told = subst (λ (z : Question). EndsAs z end) asked is in
      rw (told.0, told.1, told.2) (ends.refused s note k h)

  as_parsed : (input : Input) (g : Grammar) (question : Question) (c : CheckedGrammar) → GivesFiles holds job g input →
      c ≡ unchanged g → question ≡ parses c.grammar input budget → EndsAs question end →
      JobEnds holds budget job end.status end.out end.note 2
  as_parsed input g question c files same asked is =
      let told = subst (λ (z : Question). EndsAs z end) asked is in
      ends.parsed g input end.status end.out end.note files
      (subst (λ (z : CheckedGrammar). Outcome z.grammar input budget print end.status end.out end.note) same told)

job_ends : (holds : List ℕ → Told) (grammars : List CheckedGrammar) (budget : ℕ) (job : Job) (l : Loaded) (end : End) (k : ℕ) →
    IsLoaded holds grammars job l k → GivesEnd grammars budget l end → JobEnds holds budget job end.status end.out end.note k
job_ends holds grammars budget job (loaded.Refused s note) end k h is =
    as_refused holds grammars budget job end s note.items k is.0 is.1 is.2 h
job_ends holds grammars budget job (loaded.Accepted at input) end k h is =
    subst (JobEnds holds budget job end.status end.out end.note) (sym h.0)
    (as_parsed holds grammars budget job end input h.1.0 is.0 is.1.0 h.1.1
    (one_value (slice_get grammars at) is.1.0 (unchanged h.1.0) is.1.1 h.1.2) is.1.2 is.2)

-- the list was loaded, and the shelf tells the same
module _ (budget : ℕ) (old mid new : ShelfState) (list : List ℕ) (names : Vec Names Global) (first : Fetched (change old mid) 1)
    (loads : LoadsList (change old mid) list (Ok names)) (same : (name : List ℕ) → mid.holds name ≡ old.holds name) (read : List Names)
    (as_read : read ≡ names.items) where
  abbrev jobs : List Job
  jobs = map stored_job read

  gives_jobs : GivesJobs (old.holds list) jobs
  gives_jobs = record { bytes = loads.1.0; gives = loads.1.1; listed = subst (λ (z : List Names). IsListOf loads.1.0 (map stored_job z)) (sym as_read) loads.1.2 }

  here : mid.holds ≡ old.holds
  here = same_holds mid.holds old.holds same

  cannot_here : (name : List ℕ) (k : ℕ) → CannotLoad (change mid new) jobs name k → CannotLoad (change old new) jobs name k
  cannot_here name k (missing still s) =
      missing (still ∙ loads.0) (subst (λ (z : List ℕ → Told). StopsAtFile z IsMissing jobs name k) here s)
  cannot_here name k (unread rose s) =
      unread (rose_behind old mid new loads.0 rose) (subst (λ (z : List ℕ → Told). StopsAtFile z IsAny jobs name k) here s)

  -- a job stops the command
  pub stops_at_jobs : (stop : Stop) → StopsLoading (change mid new) jobs stop → RunsBatch budget (change old new) list (Err stop)
  stops_at_jobs (halt.Note s line) h = (
    1 + h.1.2.0,
    at_job jobs h.1.0 h.1.2.0 gives_jobs (cannot_here h.1.0 h.1.2.0 h.1.2.1) h.0 h.1.1,
    fetched_behind old mid new 1 h.1.2.0 first h.1.2.2,
  )
  stops_at_jobs halt.Memory h = (
    1 + h.0,
    of_jobs jobs h.0 gives_jobs (subst (λ (z : List ℕ → Told). MayLoad z jobs h.0) here h.1),
    fetched_behind old mid new 1 h.0 first h.2,
    stood_behind old mid new loads.0 h.3,
  )

  module _ (kept : List Kept) (ls : List Loaded) (are : AreLoaded (change mid new) jobs kept ls) where
    -- memory ran out while they were played
    pub runs_out : RunsBatch budget (change old new) list (Err halt.Memory)
    runs_out = stops_at_jobs halt.Memory (are.fetches, may_all mid.holds (grammars_of kept) jobs ls are.fetches are.all, are.counted, inl are.calm)

    all_end : (es : List End) → AllZip (GivesEnd (grammars_of kept) budget) ls es → AllEnd mid.holds budget jobs es are.fetches
    all_end es h =
        paired_through (IsLoaded mid.holds (grammars_of kept)) (GivesEnd (grammars_of kept) budget)
        (λ (job : Job) (end : End). JobEnds mid.holds budget job end.status end.out end.note)
        (λ job l end k. job_ends mid.holds (grammars_of kept) budget job l end k) jobs ls es are.fetches are.all h

    pub gives_text : (text : Vec ℕ Global) → PlaysOut (grammars_of kept) budget ls text.items →
        RunsBatch budget (change old new) list (Ok text)
    gives_text text h = record {
      calm = are.calm ∙ loads.0;
      jobs = jobs;
      gives_jobs = gives_jobs;
      ends = h.0;
      fetches = are.fetches;
      all_end = subst (λ (z : List ℕ → Told). AllEnd z budget jobs h.0 are.fetches) here (all_end h.0 h.1);
      counted = fetched_behind old mid new 1 are.fetches first are.counted;
      text_is = h.2;
    }

-- the list stops the command
pub stops_at_list : (budget : ℕ) (shelf : Change ShelfState) (list : List ℕ) (stop : Stop) → Fetched shelf 1 →
    LoadsList shelf list (Err stop) → RunsBatch budget shelf list (Err stop)
stops_at_list budget shelf list (halt.Note s line) count h = (1, at_list h, count)
stops_at_list budget shelf list halt.Memory count h = (1, the_list, count, h)

-- an error that is passed on
pub passed_batch : (budget : ℕ) (shelf : Change ShelfState) (list : List ℕ) (r : Result (Vec ℕ Global) Stop) (stop : Stop) →
    IsErrAnd r (λ f. f ≡ stop) → RunsBatch budget shelf list (Err stop) → RunsBatch budget shelf list r
passed_batch budget shelf list r stop e h = subst (RunsBatch budget shelf list) (sym (passed_on r stop e)) h
