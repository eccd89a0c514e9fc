-- Jobs that are loaded one after another.
use Rattle.std.proofs.Common.{◌≡◌, ℕ, ◌+◌, ◌<◌, List, [], ◌∷◌, ◌++◌, All, map, refl, sym, ◌∙◌, ap, subst, inl, Result, Ok, length, take, drop, get_or}
use Rattle.std.specs.Result.{IsErrAnd}
use Rattle.std.proofs.lemmas.List.{map-append, take-append-drop, take_more}
use Rattle.std.proofs.lemmas.List.Elements.{All-nil}
use Rattle.ig_text.proofs.Lists.{left_at}
use Rattle.ig_text.proofs.Options.{passed_on}
use Rattle.ig_outside.specs.States.{ShelfState}
use Rattle.ig_outside.specs.Told.{Told}
use Rattle.ig_turns.specs.Lists.{Job}
use Rattle.ig_turns.specs.Reads.{stored_job}
use Rattle.ig_turns.specs.declared.job_list.Names.{Names}
use Rattle.ig_grammar.specs.Checked.{CheckedGrammar}
use Rattle.ig_command_endings.specs.Change.{change}
use Rattle.ig_command_endings.specs.declared.stop.Stop.{Stop}
use Rattle.ig_command_endings.specs.declared.stop.Stop.TheVariants as halt
use Rattle.ig_tool.specs.Counted.{ended}
use Rattle.ig_tool.specs.Loading.{AllLoaded, AreLoaded, Grows, IsKept, IsLoaded, LoadsJob, LoadsJobs, StopsLoading, grammars_of}
use Rattle.ig_tool.specs.declared.grammars.Kept.{Kept}
use Rattle.ig_tool.specs.declared.loading.Batch.{Batch}
use Rattle.ig_tool.specs.declared.loading.Loaded.{Loaded}
use Rattle.ig_tool.specs.declared.loading.Loaded.TheVariants as loaded
use Rattle.ig_tool.proofs.Counted.{paired_as, paired_last}
use Rattle.ig_tool.proofs.Fetching.{fetched_behind, same_holds}
use Rattle.ig_tool.proofs.Kept.{grown_grammars}
use Rattle.ig_tool.proofs.Stopping.{may_all, stopped_before, stopped_behind}

-- before the first job
pub none_loaded : (shelf : ShelfState) (kept : List Kept) (ls : List Loaded) → kept ≡ [] → ls ≡ [] → AreLoaded (change shelf shelf) [] kept ls
none_loaded shelf kept ls e d =
    rw (e, d) (record { calm = refl; all_kept = All-nil IsKept; fetches = 0; all = ended; counted = refl })

-- grammars that are added later change nothing
still_loaded : (holds : List ℕ → Told) (grammars more : List CheckedGrammar) (job : Job) (l : Loaded) (k : ℕ) →
    IsLoaded holds grammars job l k → IsLoaded holds (grammars ++ more) job l k
still_loaded holds grammars more job (loaded.Refused s note) k h = h
still_loaded holds grammars more job (loaded.Accepted at input) k h =
    (h.0, (h.1.0, h.1.1, left_at grammars more at _ h.1.2))

module _ (old mid new : ShelfState) (jobs : List Job) (kept : List Kept) (ls : List Loaded)
    (before : AreLoaded (change old mid) jobs kept ls) (same : (name : List ℕ) → mid.holds name ≡ old.holds name) (job : Job) where
  -- one more job
  pub one_loaded : (kept_2 : List Kept) (l : Loaded) → Grows kept kept_2 → All IsKept kept_2 → LoadsJob (change mid new) kept_2 job (Ok l) →
      AreLoaded (change old new) (jobs ++ job ∷ []) kept_2 (ls ++ l ∷ [])
  one_loaded kept_2 l grown all h =
      let later : AllLoaded old.holds (grammars_of kept_2) jobs ls before.fetches =
      subst (λ (z : List CheckedGrammar). AllLoaded old.holds z jobs ls before.fetches) (sym (grown_grammars kept kept_2 grown.0 grown.1))
      (paired_as (IsLoaded old.holds (grammars_of kept)) (IsLoaded old.holds (grammars_of kept ++ grammars_of grown.0))
      (still_loaded old.holds (grammars_of kept) (grammars_of grown.0)) jobs ls before.fetches before.all) in
      let here : IsLoaded old.holds (grammars_of kept_2) job l h.1.0 =
      subst (λ (z : List ℕ → Told). IsLoaded z (grammars_of kept_2) job l h.1.0) (same_holds mid.holds old.holds same) h.1.1 in
      record {
        calm = h.0 ∙ before.calm;
        all_kept = all;
        fetches = before.fetches + h.1.0;
        all = paired_last (IsLoaded old.holds (grammars_of kept_2)) jobs ls before.fetches job l h.1.0 later here;
        counted = fetched_behind old mid new before.fetches h.1.0 before.counted h.1.2;
      }

  -- it stops
  pub one_stops : (stop : Stop) → StopsLoading (change mid new) (job ∷ []) stop → StopsLoading (change old new) (jobs ++ job ∷ []) stop
  one_stops stop h =
      stopped_behind old mid new (grammars_of kept) jobs ls before.fetches before.calm before.counted same before.all (job ∷ []) stop h

-- memory runs out behind jobs that were loaded
pub memory_behind : (old new : ShelfState) (jobs : List Job) (kept : List Kept) (ls : List Loaded) → AreLoaded (change old new) jobs kept ls →
    StopsLoading (change old new) jobs halt.Memory
memory_behind old new jobs kept ls h =
    (h.fetches, may_all old.holds (grammars_of kept) jobs ls h.fetches h.all, h.counted, inl h.calm)

-- the jobs of a list up to the one at a place
jobs_upto : (list : List Names) (i : ℕ) (x : Names) → i < length list → x ≡ get_or list i x →
    map stored_job (take (i + 1) list) ≡ map stored_job (take i list) ++ stored_job x ∷ []
jobs_upto list i x within read =
    ap (map stored_job) (take_more list i x within) ∙ map-append stored_job (take i list) (get_or list i x ∷ []) ∙
    ap (λ (z : Names). map stored_job (take i list) ++ stored_job z ∷ []) (sym read)

-- and all of them
all_jobs : (list : List Names) (i : ℕ) → map stored_job (take i list) ++ map stored_job (drop i list) ≡ map stored_job list
all_jobs list i = sym (map-append stored_job (take i list) (drop i list)) ∙ ap (map stored_job) (take-append-drop i list)

module _ (list : List Names) (i : ℕ) (x : Names) (within : i < length list) (read : x ≡ get_or list i x) (old new : ShelfState) where
  pub loaded_upto : (kept : List Kept) (ls more : List Loaded) → more ≡ ls →
      AreLoaded (change old new) (map stored_job (take i list) ++ stored_job x ∷ []) kept ls →
      AreLoaded (change old new) (map stored_job (take (i + 1) list)) kept more
  loaded_upto kept ls more e h =
      subst (λ (z : List Job). AreLoaded (change old new) z kept more) (sym (jobs_upto list i x within read))
      (subst (AreLoaded (change old new) (map stored_job (take i list) ++ stored_job x ∷ []) kept) (sym e) h)

  pub stops_among : (stop : Stop) → StopsLoading (change old new) (map stored_job (take i list) ++ stored_job x ∷ []) stop →
      StopsLoading (change old new) (map stored_job list) stop
  stops_among stop h =
      subst (λ (z : List Job). StopsLoading (change old new) z stop) (all_jobs list (i + 1))
      (stopped_before old new (map stored_job (take (i + 1) list)) (map stored_job (drop (i + 1) list)) stop
      (subst (λ (z : List Job). StopsLoading (change old new) z stop) (sym (jobs_upto list i x within read)) h))

-- an error that is passed on
pub passed_stop : (old new : ShelfState) (jobs : List Job) (r : Result Batch Stop) (stop : Stop) → IsErrAnd r (λ f. f ≡ stop) →
    StopsLoading (change old new) jobs stop → LoadsJobs (change old new) jobs r
passed_stop old new jobs r stop e h = subst (LoadsJobs (change old new) jobs) (sym (passed_on r stop e)) h
