-- What the command `batch` answers, from the answer by cases.
use Rattle.std.proofs.Common.{◌≡◌, ℕ, List, [], inl, inr, refl, sym, ◌∙◌, ap, subst, Some, None, arith}
use Rattle.std.specs.Prelude.{All}
use Rattle.std.proofs.lemmas.List.Elements.{All-head, All-tail}
use Rattle.ig_outside.specs.States.{ShelfState, SinkState}
use Rattle.ig_outside.specs.Told.{Told, bytes}
use Rattle.ig_turns.specs.Lists.{Job}
use Rattle.ig_grammar.specs.declared.grammar.Grammar.{Grammar}
use Rattle.ig_command_endings.specs.Change.{Change, FetchFailed, Got}
use Rattle.ig_command_endings.specs.declared.status.Status.{Status}
use Rattle.ig_command_endings.specs.declared.status.Status.TheVariants as status
use Rattle.ig_command.specs.Commands.{Request, Source, load, batch, verify, grammar_file, IsCommand}
use Rattle.ig_command.specs.declared.command.Notation.TheVariants.{Own}
use Rattle.ig_command_jobs.specs.Jobs.{request_for, task_request}
use Rattle.ig_command_sources.specs.Accepted.{IsAccepted}
use Rattle.ig_command_sources.specs.Sources.{IsBadList, IsListOf, too_long, wrong}
use Rattle.ig_tool.specs.Batch.{IsMissing}
use Rattle.ig_tool.specs.Ends.{AllEnd}
use Rattle.ig_tool.specs.Files.{IsHeld, StopsAtFile, at_grammar, at_input, behind}
use Rattle.ig_tool.specs.Text.{End, batch_text}
use Rattle.ig_tool.specs.Outcome as answer
use Rattle.ig_tool.specs.Outcome.{Decided, HasJobs, Answers, written, noted, unwritten, unnoted, no_memory}
use Rattle.ig_tool.specs.Headline.{BatchCommands}
use Rattle.ig_tool.proofs.Asked.{Sort, of_batch, gives_held, one_sort, same_request, sort_of, sort_of_job, sort_of_task}

-- the lists and the budgets of one batch
same_batch : (l : List ℕ) (b t : ℕ) (m : List ℕ) (c u : ℕ) → batch l b t ≡ batch m c u → (l ≡ m) × (b ≡ c)
same_batch l b t m c u e = (cc, cc)

-- where all files are held, none is missing
module _ (holds : List ℕ → Told) where
  input_held : (job : Job) (held : IsHeld holds job) (xs : List ℕ) (g : Grammar) → xs ≡ held.grammar_bytes → IsAccepted Own xs g →
      IsMissing (holds job.input) → ⊥
  input_held job held xs g same accepted none =
      let there = held.holds_input g (subst (λ (z : List ℕ). IsAccepted Own z g) same accepted) in
      let told : holds job.input ≡ bytes there.0 = there.1 in cc

  none_missing : (jobs : List Job) (name : List ℕ) (k : ℕ) → All (IsHeld holds) jobs → StopsAtFile holds IsMissing jobs name k → ⊥
  none_missing jobs name k all (at_grammar job js none) =
      let held = All-head (IsHeld holds) job js all in
      let told : holds job.grammar ≡ bytes held.grammar_bytes = held.holds_grammar in cc
  none_missing jobs name k all (at_input job js xs g gives accepted none) =
      let held = All-head (IsHeld holds) job js all in
      input_held job held xs g (gives_held (holds job.grammar) held.grammar_bytes xs held.holds_grammar gives) accepted none
  none_missing jobs name k all (behind job js word j n m loads rest e) =
      none_missing js name n (All-tail (IsHeld holds) job js all) rest

-- bytes that are the text of a list aren't refused
listed_or_bad : (xs : List ℕ) (jobs : List Job) (note : List ℕ) → IsListOf xs jobs → IsBadList xs note → ⊥
listed_or_bad xs jobs note is (too_long many) = let few = is.few in omega (arith, few, many)
listed_or_bad xs jobs note is (wrong line few told) = let read = is.reading_is in cc

same_jobs : (xs : List ℕ) (js jobs : List Job) → IsListOf xs js → IsListOf xs jobs → js ≡ jobs
same_jobs xs js jobs a b = let both = sym a.reading_is ∙ b.reading_is in cc

module _ (words : List (List ℕ)) (shelf : Change ShelfState) (list : List ℕ) (budget turn : ℕ) (xs : List ℕ) (jobs : List Job)
    (asked : IsCommand words (batch list budget turn)) (held : shelf.before.holds list ≡ bytes xs) (listed : IsListOf xs jobs)
    (all : All (IsHeld shelf.before.holds) jobs) where
  abbrev request : Request
  request = batch list budget turn

  of_one_sort : (r : Request) (m : Sort) → IsCommand words r → sort_of r ≡ m → m ≡ of_batch
  of_one_sort r m command e = one_sort words r request m of_batch command asked e refl

  -- the words name no grammar
  no_grammar : (r : Request) (f : Source) → IsCommand words r → grammar_file r ≡ Some f → ⊥
  no_grammar r f command named =
      let none : grammar_file r ≡ None = ap grammar_file (same_request words r request command asked) in cc

  same_parts : (l : List ℕ) (b t : ℕ) → IsCommand words (batch l b t) → (l ≡ list) × (b ≡ budget)
  same_parts l b t command = same_batch l b t list budget turn (same_request words (batch l b t) request command asked)

  told_list : (l : List ℕ) (b t : ℕ) → IsCommand words (batch l b t) → shelf.before.holds l ≡ bytes xs
  told_list l b t command = ap shelf.before.holds (same_parts l b t command).0 ∙ held

  -- the jobs are these
  jobs_are : (l : List ℕ) (b t : ℕ) (js : List Job) → HasJobs words shelf.before l b t js → js ≡ jobs
  jobs_are l b t js has =
      let read = gives_held (shelf.before.holds l) xs has.gives.bytes (told_list l b t has.command) has.gives.gives in
      same_jobs xs js jobs (subst (λ (z : List ℕ). IsListOf z js) read has.gives.listed) listed

  not_missing : (l : List ℕ) (b t : ℕ) (js : List Job) (name : List ℕ) (k : ℕ) → HasJobs words shelf.before l b t js →
      StopsAtFile shelf.before.holds IsMissing js name k → ⊥
  not_missing l b t js name k has stops =
      none_missing shelf.before.holds jobs name k all
      (subst (λ (z : List Job). StopsAtFile shelf.before.holds IsMissing z name k) (jobs_are l b t js has) stops)

  -- what was decided is the text of all ends
  abbrev IsText : Status → List ℕ → List ℕ → Type 0
  IsText s out note =
      (s ≡ status.Done) ×
      ((ends : List End) × ((k : ℕ) × (AllEnd shelf.before.holds budget jobs ends k × (out ≡ batch_text 1 ends))))

  text_is : (l : List ℕ) (b t : ℕ) (js : List Job) (ends : List End) (k : ℕ) → HasJobs words shelf.before l b t js →
      AllEnd shelf.before.holds b js ends k → IsText status.Done (batch_text 1 ends) []
  text_is l b t js ends k has all_end = (
    refl,
    (
      ends,
      (
        k,
        (
          subst (λ (z : ℕ). AllEnd shelf.before.holds z jobs ends k) (same_parts l b t has.command).1
              (subst (λ (z : List Job). AllEnd shelf.before.holds b z ends k) (jobs_are l b t js has) all_end),
          refl,
        ),
      ),
    ),
  )

  decided_batch : (s : Status) (out note : List ℕ) (k : ℕ) → Decided words shelf s out note k → (FetchFailed shelf → ⊥) →
      IsText s out note
  decided_batch s out note k (answer.usage e none) calm = absurd (none request asked)
  decided_batch s out note k (answer.load_over_budget size number b e command many) calm =
      let same = of_one_sort (load size number b) _ command refl in absurd (cc)
  decided_batch s out note k (answer.load_summed size number b summary e command few is) calm =
      let same = of_one_sort (load size number b) _ command refl in absurd (cc)
  decided_batch s out note k (answer.grammar_missing r f e command named none) calm = absurd (no_grammar r f command named)
  decided_batch s out note k (answer.grammar_unread r f rose command named) calm = absurd (calm rose)
  decided_batch s out note k (answer.grammar_refused r f ys text e command named gives refused) calm =
      absurd (no_grammar r f command named)
  decided_batch s out note k (answer.told_grammar u f text g e command has is) calm =
      let same = of_one_sort (task_request u f) _ command (sort_of_task u f) in absurd (cc)
  decided_batch s out note k (answer.input_missing r g f e command has named none) calm =
      absurd (no_grammar r has.file command has.named)
  decided_batch s out note k (answer.input_unread r g f rose command has named) calm = absurd (calm rose)
  decided_batch s out note k (answer.input_refused r g f ys fault e command has named gives faulty cause) calm =
      absurd (no_grammar r has.file command has.named)
  decided_batch s out note k (answer.over_budget f i g input b job e files more) calm =
      let same = of_one_sort (request_for job f i b) _ files.command (sort_of_job job f i b) in absurd (cc)
  decided_batch s out note k (answer.no_parse f i g input b job line e files few none told) calm =
      let same = of_one_sort (request_for job f i b) _ files.command (sort_of_job job f i b) in absurd (cc)
  decided_batch s out note k (answer.parsed f i g input b job forest u made line e files is finishes) calm =
      let same = of_one_sort (request_for job f i b) _ files.command (sort_of_job job f i b) in absurd (cc)
  decided_batch s out note k (answer.forest_missing f i n g input e files none) calm =
      let same = of_one_sort (verify f i n) _ files.command refl in absurd (cc)
  decided_batch s out note k (answer.forest_unread f i n g input rose files) calm = absurd (calm rose)
  decided_batch s out note k (answer.checked f i n g input zs u made line e files gives is passes) calm =
      let same = of_one_sort (verify f i n) _ files.command refl in absurd (cc)
  decided_batch s out note k (answer.list_missing l b t e command none) calm =
      let told = told_list l b t command in absurd (cc)
  decided_batch s out note k (answer.list_unread l b t rose command) calm = absurd (calm rose)
  decided_batch s out note k (answer.list_refused l b t ys line e command gives bad) calm =
      absurd (listed_or_bad xs jobs line listed
      (subst (λ (z : List ℕ). IsBadList z line) (gives_held (shelf.before.holds l) xs ys (told_list l b t command) gives) bad))
  decided_batch s out note k (answer.job_missing l b t js f j e has stops) calm = absurd (not_missing l b t js f j has stops)
  decided_batch s out note k (answer.job_unread l b t js f j rose has stops) calm = absurd (calm rose)
  decided_batch s out note k (answer.batched l b t js ends j e has all_end) calm = text_is l b t js ends j has all_end

pub batch_commands : (words : List (List ℕ)) (shelf : Change ShelfState) (out notes : Change SinkState) (s : Status) →
    Answers words shelf out notes s → BatchCommands words shelf out notes s
batch_commands words shelf out notes s (written text k d count got untouched) list budget turn xs jobs asked held listed all calm a b =
    let is = decided_batch words shelf list budget turn xs jobs asked held listed all status.Done text [] k d calm in
    inr (refl, record { ends = is.1.0; fetches = is.1.1.0; all_end = is.1.1.1.0; got = subst (Got out) is.1.1.1.1 got; quiet = untouched })
batch_commands words shelf out notes s (noted t note k d not_done count untouched got) list budget turn xs jobs asked held listed all calm a b =
    absurd (not_done (decided_batch words shelf list budget turn xs jobs asked held listed all t [] note k d calm).0)
batch_commands words shelf out notes s (unwritten text k d full count failed part) list budget turn xs jobs asked held listed all calm a b =
    absurd (a failed.rose)
batch_commands words shelf out notes s (unnoted t note k d not_done count untouched failed) list budget turn xs jobs asked held listed all calm a b =
    absurd (b failed.rose)
batch_commands words shelf out notes s (no_memory k few count stood untouched part) list budget turn xs jobs asked held listed all calm a b =
    inl (refl, untouched)
