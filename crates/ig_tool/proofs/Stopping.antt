-- Jobs of which the first were loaded, and where the others stop.
use Rattle.std.proofs.Common.{◌≡◌, ℕ, ◌+◌, List, [], ◌++◌, sym, ◌∙◌, subst, arith, zero-add}
use Rattle.ig_outside.specs.States.{ShelfState}
use Rattle.ig_outside.specs.Told.{Told}
use Rattle.ig_turns.specs.Lists.{Job}
use Rattle.ig_grammar.specs.Checked.{CheckedGrammar}
use Rattle.ig_command_endings.specs.Change.{Fetched, IsCalm, change}
use Rattle.ig_command_endings.specs.declared.stop.Stop.{Stop}
use Rattle.ig_command_endings.specs.declared.stop.Stop.TheVariants as halt
use Rattle.ig_tool.specs.Batch.{CannotLoad, IsAny, IsMissing, missing, unread}
use Rattle.ig_tool.specs.Counted.{ended, paired}
use Rattle.ig_tool.specs.Files.{JobLoads, MayLoad, StopsAtFile, at_grammar, at_input, behind, given, later, no_more, one_more, refused, two_more}
use Rattle.ig_tool.specs.Loading.{AllLoaded, IsLoaded, StopsLoading}
use Rattle.ig_tool.specs.declared.loading.Loaded.{Loaded}
use Rattle.ig_tool.specs.declared.loading.Loaded.TheVariants as loaded
use Rattle.ig_tool.proofs.Fetching.{fetched_behind, rose_behind, same_holds, stood_behind}

module _ (holds : List ℕ → Told) (grammars : List CheckedGrammar) where
  job_loads : (job : Job) (l : Loaded) (k : ℕ) → IsLoaded holds grammars job l k → JobLoads holds job k
  job_loads job (loaded.Refused s note) k h = refused s note.items k h
  job_loads job (loaded.Accepted at input) k h = subst (JobLoads holds job) (sym h.0) (given h.1.0 input h.1.1)

  stops_behind : (Fails : Told → Type 0) (jobs more : List Job) (ls : List Loaded) (name : List ℕ) (n k : ℕ) →
      AllLoaded holds grammars jobs ls n → StopsAtFile holds Fails more name k → StopsAtFile holds Fails (jobs ++ more) name (n + k)
  stops_behind Fails jobs more ls name n k ended s = subst (StopsAtFile holds Fails more name) (sym (zero-add k)) s
  stops_behind Fails jobs more ls name n k (paired job l j m whole js others one rest e) s =
      behind job (js ++ more) name j (m + k) (n + k) (job_loads job l j one) (stops_behind Fails js more others name m k rest s)
      (omega arith)

  pub may_behind : (jobs more : List Job) (ls : List Loaded) (n k : ℕ) → AllLoaded holds grammars jobs ls n → MayLoad holds more k →
      MayLoad holds (jobs ++ more) (n + k)
  may_behind jobs more ls n k ended s = subst (MayLoad holds more) (sym (zero-add k)) s
  may_behind jobs more ls n k (paired job l j m whole js others one rest e) s =
      later job (js ++ more) j (m + k) (n + k) (job_loads job l j one) (may_behind js more others m k rest s) (omega arith)

  -- all were loaded
  pub may_all : (jobs : List Job) (ls : List Loaded) (n : ℕ) → AllLoaded holds grammars jobs ls n → MayLoad holds jobs n
  may_all jobs ls n ended = no_more []
  may_all jobs ls n (paired job l j m whole js others one rest e) =
      later job js j m n (job_loads job l j one) (may_all js others m rest) e

-- what comes behind is not looked at
module _ (holds : List ℕ → Told) (more : List Job) where
  stops_before : (Fails : Told → Type 0) (jobs : List Job) (name : List ℕ) (k : ℕ) → StopsAtFile holds Fails jobs name k →
      StopsAtFile holds Fails (jobs ++ more) name k
  stops_before Fails jobs name k (at_grammar job js f) = at_grammar job (js ++ more) f
  stops_before Fails jobs name k (at_input job js xs g gives accepted f) = at_input job (js ++ more) xs g gives accepted f
  stops_before Fails jobs name k (behind job js word j n m loads rest e) =
      behind job (js ++ more) name j n k loads (stops_before Fails js name n rest) e

  may_before : (jobs : List Job) (k : ℕ) → MayLoad holds jobs k → MayLoad holds (jobs ++ more) k
  may_before jobs k (no_more js) = no_more (jobs ++ more)
  may_before jobs k (one_more job js) = one_more job (js ++ more)
  may_before jobs k (two_more job js xs g gives accepted) = two_more job (js ++ more) xs g gives accepted
  may_before jobs k (later job js j n m loads rest e) = later job (js ++ more) j n k loads (may_before js n rest) e

-- the first jobs were loaded, and the shelf tells the same
module _ (old mid new : ShelfState) (grammars : List CheckedGrammar) (jobs : List Job) (ls : List Loaded) (n : ℕ)
    (calm : IsCalm (change old mid)) (counted : Fetched (change old mid) n) (same : (name : List ℕ) → mid.holds name ≡ old.holds name)
    (all : AllLoaded old.holds grammars jobs ls n) where
  cannot_behind : (more : List Job) (name : List ℕ) (k : ℕ) → CannotLoad (change mid new) more name k →
      CannotLoad (change old new) (jobs ++ more) name (n + k)
  cannot_behind more name k (missing still s) =
      missing (still ∙ calm)
      (stops_behind old.holds grammars IsMissing jobs more ls name n k all
      (subst (λ (z : List ℕ → Told). StopsAtFile z IsMissing more name k) (same_holds mid.holds old.holds same) s))
  cannot_behind more name k (unread rose s) =
      unread (rose_behind old mid new calm rose)
      (stops_behind old.holds grammars IsAny jobs more ls name n k all
      (subst (λ (z : List ℕ → Told). StopsAtFile z IsAny more name k) (same_holds mid.holds old.holds same) s))

  pub stopped_behind : (more : List Job) (stop : Stop) → StopsLoading (change mid new) more stop →
      StopsLoading (change old new) (jobs ++ more) stop
  stopped_behind more (halt.Note s line) h =
      (h.0, (h.1.0, h.1.1, (n + h.1.2.0, cannot_behind more h.1.0 h.1.2.0 h.1.2.1, fetched_behind old mid new n h.1.2.0 counted h.1.2.2)))
  stopped_behind more halt.Memory h = (
    n + h.0,
    may_behind old.holds grammars jobs more ls n h.0 all
        (subst (λ (z : List ℕ → Told). MayLoad z more h.0) (same_holds mid.holds old.holds same) h.1),
    fetched_behind old mid new n h.0 counted h.2,
    stood_behind old mid new calm h.3,
  )

-- jobs behind the one that stops aren't looked at
cannot_before : (old new : ShelfState) (jobs more : List Job) (name : List ℕ) (k : ℕ) → CannotLoad (change old new) jobs name k →
    CannotLoad (change old new) (jobs ++ more) name k
cannot_before old new jobs more name k (missing still s) = missing still (stops_before old.holds more IsMissing jobs name k s)
cannot_before old new jobs more name k (unread rose s) = unread rose (stops_before old.holds more IsAny jobs name k s)

pub stopped_before : (old new : ShelfState) (jobs more : List Job) (stop : Stop) → StopsLoading (change old new) jobs stop →
    StopsLoading (change old new) (jobs ++ more) stop
stopped_before old new jobs more (halt.Note s line) h =
    (h.0, (h.1.0, h.1.1, (h.1.2.0, cannot_before old new jobs more h.1.0 h.1.2.0 h.1.2.1, h.1.2.2)))
stopped_before old new jobs more halt.Memory h = (h.0, may_before old.holds more jobs h.0 h.1, h.2, h.3)
