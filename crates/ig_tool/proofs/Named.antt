-- What is decided rests on what is held under the names that the words give.
use Rattle.std.proofs.Common.{◌≡◌, inl, inr, ℕ, List, [], ◌∷◌, All, Contains, Some, refl, sym, ◌∙◌, subst, arith}
use Rattle.std.proofs.lemmas.List.Elements.{All-contains_itself, All-head, All-tail, All-weaker}
use Rattle.std.proofs.lemmas.Option.{same_Some}
use Rattle.ig_text.specs.Input.{Input}
use Rattle.ig_text.proofs.Lists.{contains_first, contains_later}
use Rattle.ig_outside.specs.Counts.{Rose, last_count}
use Rattle.ig_outside.specs.States.{ShelfState, SinkState}
use Rattle.ig_outside.specs.Told.{Told}
use Rattle.ig_turns.specs.Lists.{Job}
use Rattle.ig_grammar.specs.declared.grammar.Grammar.{Grammar}
use Rattle.ig_command.specs.Commands.{Request, Source, check, show, core, forest, trees, query, load, batch, verify, analyse, grammar_file, input_file, files_of, IsCommand}
use Rattle.ig_command_endings.specs.Change.{Change, FetchFailed, IsCalm}
use Rattle.ig_command_endings.specs.declared.status.Status.{Status}
use Rattle.ig_command_endings.specs.declared.status.Status.TheVariants as status
use Rattle.ig_command_jobs.specs.Jobs.{request_for, task_request}
use Rattle.ig_command_sources.specs.Sources.{MayGive}
use Rattle.ig_tool.specs.Batch.{GivesJobs}
use Rattle.ig_tool.specs.Counted.{ended, paired}
use Rattle.ig_tool.specs.Ends as ends
use Rattle.ig_tool.specs.Ends.{AllEnd, JobEnds}
use Rattle.ig_tool.specs.Files as files
use Rattle.ig_tool.specs.Files.{GivesFiles, IsRefusedJob, JobLoads, StopsAtFile, at_grammar, at_input, behind, by_grammar, by_input}
use Rattle.ig_tool.specs.Held.{AnswersOutcome, Held, HoldsNames, IsNamed, OutcomeOfWords, OutcomesRestOnNames, by_line, by_words, calmly, told_by}
use Rattle.ig_tool.specs.Outcome as answer
use Rattle.ig_tool.specs.Outcome.{Answers, Decided, HasFiles, HasGrammar, HasInput, HasJobs, written, noted, unwritten, unnoted, no_memory}
use Rattle.ig_tool.specs.Text.{End}
use Rattle.ig_tool.proofs.Asked.{got_none}

-- the file of the grammar is one that the words name
first_file : (grammar file : Source) (others : List (List ℕ)) → Some grammar ≡ Some file → Contains (grammar.name ∷ others) file.name
first_file grammar file others e =
    subst (λ (z : Source). Contains (grammar.name ∷ others) z.name) (same_Some grammar file e) (contains_first grammar.name others)

names_grammar : (r : Request) (file : Source) → grammar_file r ≡ Some file → Contains (files_of r) file.name
names_grammar (check grammar) file e = first_file grammar file [] e
names_grammar (show grammar) file e = first_file grammar file [] e
names_grammar (core grammar) file e = first_file grammar file [] e
names_grammar (forest grammar input budget) file e = first_file grammar file (input ∷ []) e
names_grammar (trees grammar input budget listing) file e = first_file grammar file (input ∷ []) e
names_grammar (query grammar input budget question) file e = first_file grammar file (input ∷ []) e
names_grammar (load size number budget) file e = absurd (cc)
names_grammar (batch list budget turn) file e = absurd (cc)
names_grammar (verify grammar input text) file e = first_file grammar file (input ∷ text ∷ []) e
names_grammar (analyse grammar) file e = first_file grammar file [] e

-- and so is that of the input
second_file : (first input name : List ℕ) (others : List (List ℕ)) → Some input ≡ Some name → Contains (first ∷ input ∷ others) name
second_file first input name others e =
    subst (Contains (first ∷ input ∷ others)) (same_Some input name e)
    (contains_later first (input ∷ others) input (contains_first input others))

names_input : (r : Request) (name : List ℕ) → input_file r ≡ Some name → Contains (files_of r) name
names_input (check grammar) name e = absurd (cc)
names_input (show grammar) name e = absurd (cc)
names_input (core grammar) name e = absurd (cc)
names_input (forest grammar input budget) name e = second_file grammar.name input name [] e
names_input (trees grammar input budget listing) name e = second_file grammar.name input name [] e
names_input (query grammar input budget question) name e = second_file grammar.name input name [] e
names_input (load size number budget) name e = absurd (cc)
names_input (batch list budget turn) name e = absurd (cc)
names_input (verify grammar input text) name e = second_file grammar.name input name (text ∷ []) e
names_input (analyse grammar) name e = absurd (cc)

-- what the files of jobs come to, where two shelves tell the same of them
module _ (f h : List ℕ → Told) where
  abbrev AreSame : Job → Type 0
  AreSame job = (h job.grammar ≡ f job.grammar) × (h job.input ≡ f job.input)

  may_give : (name xs : List ℕ) → h name ≡ f name → MayGive (f name) xs → MayGive (h name) xs
  may_give name xs same gives = subst (λ (z : Told). MayGive z xs) (sym same) gives

  files_too : (job : Job) (g : Grammar) (input : Input) → AreSame job → GivesFiles f job g input → GivesFiles h job g input
  files_too job g input same given = record {
    grammar_bytes = given.grammar_bytes;
    gives_grammar = may_give job.grammar given.grammar_bytes same.0 given.gives_grammar;
    accepted = given.accepted;
    input_bytes = given.input_bytes;
    gives_input = may_give job.input given.input_bytes same.1 given.gives_input;
    decoded = given.decoded;
  }

  refused_too : (job : Job) (s : Status) (note : List ℕ) (k : ℕ) → AreSame job → IsRefusedJob f job s note k → IsRefusedJob h job s note k
  refused_too job s note k same (by_grammar xs text gives refused) =
      by_grammar xs text (may_give job.grammar xs same.0 gives) refused
  refused_too job s note k same (by_input xs ys g fault gives accepted gives_input faulty cause) =
      by_input xs ys g fault (may_give job.grammar xs same.0 gives) accepted (may_give job.input ys same.1 gives_input) faulty cause

  loads_too : (job : Job) (k : ℕ) → AreSame job → JobLoads f job k → JobLoads h job k
  loads_too job k same (files.refused s note j is) = files.refused s note k (refused_too job s note k same is)
  loads_too job k same (files.given g input gives) = files.given g input (files_too job g input same gives)

  stops_too : (Fails : Told → Type 0) (jobs : List Job) (name : List ℕ) (k : ℕ) → All AreSame jobs → StopsAtFile f Fails jobs name k →
      StopsAtFile h Fails jobs name k
  stops_too Fails jobs name k all (at_grammar job js fails) =
      at_grammar job js (subst Fails (sym (All-head AreSame job js all).0) fails)
  stops_too Fails jobs name k all (at_input job js xs g gives accepted fails) =
      let same = All-head AreSame job js all in
      at_input job js xs g (may_give job.grammar xs same.0 gives) accepted (subst Fails (sym same.1) fails)
  stops_too Fails jobs name k all (behind job js last j n m loads rest e) =
      behind job js name j n k (loads_too job j (All-head AreSame job js all) loads)
      (stops_too Fails js name n (All-tail AreSame job js all) rest) e

  ends_too : (budget : ℕ) (job : Job) (s : Status) (out note : List ℕ) (k : ℕ) → AreSame job → JobEnds f budget job s out note k →
      JobEnds h budget job s out note k
  ends_too budget job s out note k same (ends.refused t line j is) = ends.refused s note k (refused_too job s note k same is)
  ends_too budget job s out note k same (ends.parsed g input t text line gives is) =
      ends.parsed g input s out note (files_too job g input same gives) is

  all_end_too : (budget : ℕ) (jobs : List Job) (es : List End) (k : ℕ) → All AreSame jobs → AllEnd f budget jobs es k →
      AllEnd h budget jobs es k
  all_end_too budget jobs es k all ended = ended
  all_end_too budget jobs es k all (paired job end j n m js others one rest e) =
      paired job end j n m js others
      (ends_too budget job end.status end.out end.note j (All-head AreSame job js all) one)
      (all_end_too budget js others n (All-tail AreSame job js all) rest) e

-- two calls over shelves that tell the same of each name that the words give
module _ (words : List (List ℕ)) (a b : Change ShelfState) (calm : IsCalm a → IsCalm b) (failed : FetchFailed a → FetchFailed b)
    (same : (name : List ℕ) → IsNamed words a.before.holds name → b.before.holds name ≡ a.before.holds name) where
  abbrev f : List ℕ → Told
  f = a.before.holds

  abbrev h : List ℕ → Told
  h = b.before.holds

  of_grammar : (r : Request) (file : Source) → IsCommand words r → grammar_file r ≡ Some file → h file.name ≡ f file.name
  of_grammar r file command named = same file.name (by_words r command (names_grammar r file named))

  of_input : (r : Request) (name : List ℕ) → IsCommand words r → input_file r ≡ Some name → h name ≡ f name
  of_input r name command named = same name (by_words r command (names_input r name named))

  of_text : (grammar : Source) (input text : List ℕ) → IsCommand words (verify grammar input text) → h text ≡ f text
  of_text grammar input text command =
      same text
      (by_words (verify grammar input text) command
      (contains_later grammar.name (input ∷ text ∷ []) text (contains_later input (text ∷ []) text (contains_first text []))))

  of_list : (list : List ℕ) (budget turn : ℕ) → IsCommand words (batch list budget turn) → h list ≡ f list
  of_list list budget turn command = same list (by_words (batch list budget turn) command (contains_first list []))

  has_grammar : (r : Request) (g : Grammar) → IsCommand words r → HasGrammar a.before r g → HasGrammar b.before r g
  has_grammar r g command has = record {
    file = has.file;
    named = has.named;
    bytes = has.bytes;
    gives = may_give f h has.file.name has.bytes (of_grammar r has.file command has.named) has.gives;
    accepted = has.accepted;
  }

  has_input : (r : Request) (g : Grammar) (input : Input) → IsCommand words r → HasInput a.before r g input → HasInput b.before r g input
  has_input r g input command has = record {
    name = has.name;
    named = has.named;
    bytes = has.bytes;
    gives = may_give f h has.name has.bytes (of_input r has.name command has.named) has.gives;
    decoded = has.decoded;
  }

  has_files : (r : Request) (g : Grammar) (input : Input) → HasFiles words a.before r g input → HasFiles words b.before r g input
  has_files r g input has = record {
    command = has.command;
    of_grammar = has_grammar r g has.command has.of_grammar;
    of_input = has_input r g input has.command has.of_input;
  }

  gives_jobs : (list : List ℕ) (jobs : List Job) → h list ≡ f list → GivesJobs (f list) jobs → GivesJobs (h list) jobs
  gives_jobs list jobs told gives = record {
    bytes = gives.bytes;
    gives = may_give f h list gives.bytes told gives.gives;
    listed = gives.listed;
  }

  has_jobs : (list : List ℕ) (budget turn : ℕ) (jobs : List Job) → HasJobs words a.before list budget turn jobs →
      HasJobs words b.before list budget turn jobs
  has_jobs list budget turn jobs has =
      record { command = has.command; gives = gives_jobs list jobs (of_list list budget turn has.command) has.gives }

  same_jobs : (list : List ℕ) (budget turn : ℕ) (jobs : List Job) → HasJobs words a.before list budget turn jobs → All (AreSame f h) jobs
  same_jobs list budget turn jobs has =
      All-weaker (Contains jobs) (AreSame f h)
      (λ job is. (
        same job.grammar (by_line list budget turn jobs job has.command has.gives is (inl refl)),
        same job.input (by_line list budget turn jobs job has.command has.gives is (inr refl)),
      ))
      jobs (All-contains_itself jobs)

  -- what is decided over the first is decided over the second
  pub decided_too : (s : Status) (out note : List ℕ) (k : ℕ) → Decided words a s out note k → Decided words b s out note k
  decided_too s out note k (answer.usage e none) = answer.usage (calm e) none
  decided_too s out note k (answer.load_over_budget size number n e command many) =
      answer.load_over_budget size number n (calm e) command many
  decided_too s out note k (answer.load_summed size number n summary e command few is) =
      answer.load_summed size number n summary (calm e) command few is
  decided_too s out note k (answer.grammar_missing r file e command named none) =
      answer.grammar_missing r file (calm e) command named (of_grammar r file command named ∙ none)
  decided_too s out note k (answer.grammar_unread r file rose command named) =
      answer.grammar_unread r file (failed rose) command named
  decided_too s out note k (answer.grammar_refused r file xs text e command named gives refused) =
      answer.grammar_refused r file xs text (calm e) command named
      (may_give f h file.name xs (of_grammar r file command named) gives) refused
  decided_too s out note k (answer.told_grammar t file text g e command has is) =
      answer.told_grammar t file text g (calm e) command (has_grammar (task_request t file) g command has) is
  decided_too s out note k (answer.input_missing r g name e command has named none) =
      answer.input_missing r g name (calm e) command (has_grammar r g command has) named (of_input r name command named ∙ none)
  decided_too s out note k (answer.input_unread r g name rose command has named) =
      answer.input_unread r g name (failed rose) command (has_grammar r g command has) named
  decided_too s out note k (answer.input_refused r g name ys fault e command has named gives faulty cause) =
      answer.input_refused r g name ys fault (calm e) command (has_grammar r g command has) named
      (may_give f h name ys (of_input r name command named) gives) faulty cause
  decided_too s out note k (answer.over_budget file name g input n job e has more) =
      answer.over_budget file name g input n job (calm e) (has_files (request_for job file name n) g input has) more
  decided_too s out note k (answer.no_parse file name g input n job line e has few none told) =
      answer.no_parse file name g input n job line (calm e) (has_files (request_for job file name n) g input has) few none told
  decided_too s out note k (answer.parsed file name g input n job tree t text line e has is finishes) =
      answer.parsed file name g input n job tree t text line (calm e) (has_files (request_for job file name n) g input has) is finishes
  decided_too s out note k (answer.forest_missing file name text g input e has none) =
      answer.forest_missing file name text g input (calm e) (has_files (verify file name text) g input has)
      (of_text file name text has.command ∙ none)
  decided_too s out note k (answer.forest_unread file name text g input rose has) =
      answer.forest_unread file name text g input (failed rose) (has_files (verify file name text) g input has)
  decided_too s out note k (answer.checked file name text g input zs t line told e has gives verifies passes) =
      answer.checked file name text g input zs t line told (calm e) (has_files (verify file name text) g input has)
      (may_give f h text zs (of_text file name text has.command) gives) verifies passes
  decided_too s out note k (answer.list_missing list n turn e command none) =
      answer.list_missing list n turn (calm e) command (of_list list n turn command ∙ none)
  decided_too s out note k (answer.list_unread list n turn rose command) = answer.list_unread list n turn (failed rose) command
  decided_too s out note k (answer.list_refused list n turn xs line e command gives bad) =
      answer.list_refused list n turn xs line (calm e) command (may_give f h list xs (of_list list n turn command) gives) bad
  decided_too s out note k (answer.job_missing list n turn jobs name j e has stops) =
      answer.job_missing list n turn jobs name j (calm e) (has_jobs list n turn jobs has)
      (stops_too f h _ jobs name j (same_jobs list n turn jobs has) stops)
  decided_too s out note k (answer.job_unread list n turn jobs name j rose has stops) =
      answer.job_unread list n turn jobs name j (failed rose) (has_jobs list n turn jobs has)
      (stops_too f h _ jobs name j (same_jobs list n turn jobs has) stops)
  decided_too s out note k (answer.batched list n turn jobs es j e has all_end) =
      answer.batched list n turn jobs es j (calm e) (has_jobs list n turn jobs has)
      (all_end_too f h n jobs es j (same_jobs list n turn jobs has) all_end)

  -- and the words give no further name over the second
  pub named_before : (name : List ℕ) → IsNamed words h name → IsNamed words f name
  named_before name (by_words r command is) = by_words r command is
  named_before name (by_line list budget turn jobs job command gives is either) =
      by_line list budget turn jobs job command
      (record {
        bytes = gives.bytes;
        gives = may_give h f list gives.bytes (sym (of_list list budget turn command)) gives.gives;
        listed = gives.listed;
      })
      is either

-- nothing fails in a call in which counts stay at 0
none_rose : Rose 0 0 → ⊥
none_rose (inl more) = omega (arith, more)
none_rose (inr both) = let zero_is : 0 ≡ last_count = both.0 in omega (arith, zero_is)

module _ (words : List (List ℕ)) (shelf : Change ShelfState) (held : List Held) (has : HoldsNames words shelf.before.holds held)
    (whole : FetchFailed shelf → ⊥) where
  pub outcome_of : (s : Status) (out note : List ℕ) (k : ℕ) → Decided words shelf s out note k → OutcomeOfWords words held s out note
  outcome_of s out note k d =
      (k, decided_too words shelf (calmly (told_by held)) (λ e. refl) (λ rose. absurd (whole rose)) has s out note k d)

  still_named : (name : List ℕ) → IsNamed words (told_by held) name → IsNamed words shelf.before.holds name
  still_named = named_before words shelf (calmly (told_by held)) (λ e. refl) (λ rose. absurd (whole rose)) has

  pub decided_of : IsCalm shelf → (s : Status) (out note : List ℕ) → OutcomeOfWords words held s out note → (k : ℕ) × Decided words shelf s out note k
  decided_of calm s out note d = (
    d.0,
    decided_too words (calmly (told_by held)) shelf (λ e. calm) (λ rose. absurd (none_rose rose))
        (λ name is. sym (has name (still_named name is))) s out note d.0 d.1,
  )

pub outcomes_rest : OutcomesRestOnNames
outcomes_rest words shelf held s out note has calm whole =
    (λ d. outcome_of words shelf held has whole s out note d.0 d.1, decided_of words shelf held has whole calm s out note)

pub answers_outcome : (words : List (List ℕ)) (shelf : Change ShelfState) (out notes : Change SinkState) (s : Status) →
    Answers words shelf out notes s → AnswersOutcome words shelf out notes s
answers_outcome words shelf out notes s (written text k d count got untouched) held has whole a b =
    inr (text, ([], (outcome_of words shelf held has whole status.Done text [] k d, got, got_none notes untouched)))
answers_outcome words shelf out notes s (noted t note k d not_done count untouched got) held has whole a b =
    inr ([], (note, (outcome_of words shelf held has whole t [] note k d, got_none out untouched, got)))
answers_outcome words shelf out notes s (unwritten text k d full count failed part) held has whole a b = absurd (a failed.rose)
answers_outcome words shelf out notes s (unnoted t note k d not_done count untouched failed) held has whole a b = absurd (b failed.rose)
answers_outcome words shelf out notes s (no_memory k few count stood untouched part) held has whole a b = inl (refl, untouched)
