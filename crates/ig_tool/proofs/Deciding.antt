-- What the top call decides, from what was loaded and run, and what it answers.
use Rattle.std.proofs.Common.{◌≡◌, ◌≢◌, ℕ, suc, ◌<◌, ◌≤◌, List, length, [], inl, inr, refl, sym, ◌∙◌, ap, subst, subst₂, arith, Some, Result, Ok, Err, Vec, Global}
use Rattle.std.specs.Result.{IsErrAnd}
use Rattle.ig_text.specs.Input.{Input}
use Rattle.ig_text.specs.declared.text.Text.{Text}
use Rattle.ig_text.specs.Decoding.{IsDecoded}
use Rattle.ig_outside.specs.Counts.{risen}
use Rattle.ig_outside.specs.States.{ShelfState, SinkState}
use Rattle.ig_outside.specs.Told.{Told}
use Rattle.ig_grammar.specs.Tabs.{tab_width}
use Rattle.ig_grammar.specs.Checked.{CheckedGrammar}
use Rattle.ig_grammar.specs.declared.grammar.Grammar.{Grammar}
use Rattle.ig_core.specs.Lowered.{IsBuildable}
use Rattle.ig_core.specs.Notation.{unchanged}
use Rattle.ig_command_endings.specs.Change.{Change, change, raised, Fetched, Stood, Untouched}
use Rattle.ig_command_endings.specs.declared.stop.Stop.{Stop}
use Rattle.ig_command_endings.specs.declared.stop.Stop.TheVariants as halt
use Rattle.ig_command_endings.specs.declared.status.Status.{Status}
use Rattle.ig_command_endings.specs.declared.status.Status.TheVariants as status
use Rattle.ig_command.specs.Commands.{Request, Source, check, show, core, forest, trees, query, load, batch, verify, analyse, grammar_file, input_file, files_of, IsCommand}
use Rattle.ig_command_jobs.specs.Jobs.{Job, print, list, ask, request_for, task_request}
use Rattle.ig_command_jobs.specs.declared.job.Task.{Task}
use Rattle.ig_command_jobs.specs.declared.job.Task.TheVariants as task
use Rattle.ig_command_sources.specs.Accepted.{IsAccepted, IsTextOf}
use Rattle.ig_command_sources.specs.Laws.{ReadGrammarsAreBuildable, ReadGrammarsHaveReadings}
use Rattle.ig_command.specs.declared.command.Notation.{Notation}
use Rattle.ig_command.specs.declared.command.Notation.TheVariants as notation
use Rattle.ig_command_sources.specs.Refusals.{too_many_dots, dots_text}
use Rattle.ig_tool.specs.Outcome as decided
use Rattle.ig_command_endings.specs.Notes.{usage_note}
use Rattle.ig_command_endings.specs.Stops.{Ends, StopsWith, WritesText, WritesNote}
use Rattle.ig_command_sources.specs.Sources as sources
use Rattle.ig_command_sources.specs.Sources.{MayGive, StopsAt, IsNoGrammar, IsNoInput, IsWrittenIn, LoadsGrammar, LoadsInput, LoadsForest, most_forest_bytes}
use Rattle.ig_command_jobs.specs.Tasks.{DoesTask, GrammarText, IsSayable}
use Rattle.ig_command_jobs.specs.Verifying as verifying
use Rattle.ig_command_jobs.specs.Verifying.{IsReducedText, IsTaken, Verifies, VerifiesText}
use Rattle.ig_command_jobs.specs.Texts as texts
use Rattle.ig_command_jobs.specs.Texts.{IsPrepared, Prepares, IsParse, StopsParse, LoadsText, ParsesText}
use Rattle.ig_tool.specs.Outcome.{never, for_names, HasFiles, HasGrammar, Decided, usage, load_over_budget, load_summed, grammar_missing, grammar_unread, grammar_refused, told_grammar, input_missing, input_unread, input_refused, over_budget, no_parse, parsed, forest_missing, forest_unread, checked, Answers, noted, unwritten, unnoted, no_memory}
use Rattle.ig_tool.specs.Decisions as decisions
use Rattle.ig_tool.specs.Decisions.{StopsRun, GivesText, RunsJob, StopsCheck, RunsCheck, Decides}

-- the words are no command
pub decides_usage : (words : List (List ℕ)) (shelf : ShelfState) (stop : Stop) →
    ((request : Request) → IsCommand words request → ⊥) → StopsWith status.Usage usage_note stop →
    Decides words (change shelf shelf) (Err stop)
decides_usage words shelf (halt.Note s line) none h =
    let P : Status → Type 0 = λ z. Decides words (change shelf shelf) (Err (halt.Note z line)) in
    subst P (sym h.0)
    (0, subst (λ (z : List ℕ). Decided words (change shelf shelf) status.Usage [] z 0) (sym h.1) (usage refl none), refl, λ e. cc)
decides_usage words shelf halt.Memory none h = (0, never, refl, inl refl)

-- what a load gives
pub decides_load : (words : List (List ℕ)) (shelf : ShelfState) (size number budget : ℕ) (r : Result (Vec ℕ Global) Stop) →
    IsCommand words (load size number budget) → LoadsText size number budget r → Decides words (change shelf shelf) r
decides_load words shelf size number budget (Ok text) command h =
    let Q : List ℕ → Type 0 = λ z. Decided words (change shelf shelf) status.Done z [] 0 in
    (0, subst Q (sym h.2) (load_summed size number budget h.0 refl command h.1.0 h.1.1), refl)
decides_load words shelf size number budget (Err (halt.Note s line)) command h =
    (0, rw (h.1, h.2) (load_over_budget size number budget refl command h.0), refl, λ d. let p = h.1 in cc)
decides_load words shelf size number budget (Err halt.Memory) command h = (0, never, refl, inl refl)

-- each command that names a grammar names a file
one_file : (request : Request) (file : Source) → grammar_file request ≡ Some file → 1 ≤ length (files_of request)
one_file (check grammar) file e = omega arith
one_file (show grammar) file e = omega arith
one_file (core grammar) file e = omega arith
one_file (forest grammar input budget) file e = omega arith
one_file (trees grammar input budget listing) file e = omega arith
one_file (query grammar input budget question) file e = omega arith
one_file (load size number budget) file e = absurd (cc)
one_file (batch named budget turn) file e = absurd (cc)
one_file (verify grammar input text) file e = omega arith
one_file (analyse grammar) file e = omega arith

-- and each that names an input names two
two_files : (request : Request) (file : List ℕ) → input_file request ≡ Some file → 2 ≤ length (files_of request)
two_files (check grammar) file e = absurd (cc)
two_files (show grammar) file e = absurd (cc)
two_files (core grammar) file e = absurd (cc)
two_files (forest grammar input budget) file e = omega arith
two_files (trees grammar input budget listing) file e = omega arith
two_files (query grammar input budget question) file e = omega arith
two_files (load size number budget) file e = absurd (cc)
two_files (batch named budget turn) file e = absurd (cc)
two_files (verify grammar input text) file e = omega arith
two_files (analyse grammar) file e = absurd (cc)

pub named_of_task : (t : Task) (file : Source) → grammar_file (task_request t file) ≡ Some file
named_of_task task.Check file = refl
named_of_task task.Show file = refl
named_of_task task.Core file = refl
named_of_task task.Analyse file = refl

-- a job names a grammar and an input
pub grammar_of_job : (job : Job) (grammar : Source) (input : List ℕ) (budget : ℕ) → grammar_file (request_for job grammar input budget) ≡ Some grammar
grammar_of_job print grammar input budget = refl
grammar_of_job (list listing) grammar input budget = refl
grammar_of_job (ask question) grammar input budget = refl

input_of_job : (job : Job) (grammar : Source) (input : List ℕ) (budget : ℕ) → input_file (request_for job grammar input budget) ≡ Some input
input_of_job print grammar input budget = refl
input_of_job (list listing) grammar input budget = refl
input_of_job (ask question) grammar input budget = refl

-- memory ran out before a file was fetched
pub decides_memory : (words : List (List ℕ)) (shelf : ShelfState) (r : Result (Vec ℕ Global) Stop) →
    IsErrAnd r (λ s. s ≡ halt.Memory) → Decides words (change shelf shelf) r
decides_memory words shelf (Ok text) h = absurd h
decides_memory words shelf (Err stop) h = rw h (0, never, refl, inl refl)

-- the grammar stops the command
stopped_at_grammar : (words : List (List ℕ)) (shelf : Change ShelfState) (request : Request) (file : Source) (s : Status)
    (note : List ℕ) → IsCommand words request → grammar_file request ≡ Some file →
    StopsAt (shelf.before.holds file.name) file.name shelf.before.faults shelf.after.faults (IsNoGrammar file.written) s note →
    Decided words shelf s [] note 1 × (s ≢ status.Done)
stopped_at_grammar words shelf request file s note command named (sources.missing z line e n p q) =
    (rw (p, q) (grammar_missing request file e command named n), λ d. cc)
stopped_at_grammar words shelf request file s note command named (sources.unread z line rose p q) =
    (rw (p, q) (grammar_unread request file rose command named), λ d. cc)
stopped_at_grammar words shelf request file s note command named (sources.refused z line xs e gives not) = (
  rw (not.status_is, not.note_is) (grammar_refused request file xs not.text e command named gives not.refused),
  λ d. let p = not.status_is in cc,
)

pub decides_at_grammar : (words : List (List ℕ)) (shelf : Change ShelfState) (request : Request)
    (file : Source) (stop : Stop) → IsCommand words request → grammar_file request ≡ Some file → Fetched shelf 1 →
    LoadsGrammar file.written shelf file.name (Err stop) → Decides words shelf (Err stop)
decides_at_grammar words shelf request file (halt.Note s line) command named count h =
    let d = stopped_at_grammar words shelf request file s line.items command named h in
    (1, d.0, count, d.1)
decides_at_grammar words shelf request file halt.Memory command named count h =
    (1, for_names request 1 command (one_file request file named), count, h)

-- the grammar that was loaded is buildable
pub loaded_is_buildable : ReadGrammarsAreBuildable → (shelf : Change ShelfState) (file : Source) (c : CheckedGrammar) →
    LoadsGrammar file.written shelf file.name (Ok c) → IsBuildable c
loaded_is_buildable law shelf file c lg =
    let w = lg.1.2 in
    subst IsBuildable (sym w.as_it_is) (law file.written lg.1.0 c.grammar w.text)

-- and the notation that it was read in can say it
is_sayable : ReadGrammarsHaveReadings → (n : Notation) (xs : List ℕ) (g : Grammar) → IsTextOf n xs g → IsSayable n g
is_sayable law notation.Own xs g text = tt
is_sayable law notation.W3c xs g text = law xs g text

pub parsed_is_sayable : ReadGrammarsHaveReadings → (shelf : Change ShelfState) (file : Source) (c parser : CheckedGrammar) →
    LoadsGrammar file.written shelf file.name (Ok c) → IsPrepared c.grammar parser → IsSayable file.written parser.grammar
parsed_is_sayable law shelf file c parser lg prepared =
    let P : CheckedGrammar → Type 0 = λ z. IsSayable file.written z.grammar in
    subst P (sym prepared.0) (is_sayable law file.written lg.1.0 c.grammar lg.1.2.text)

-- the parser of a grammar as it is written is that of its own grammar as it is written
pub still_unchanged : (g : Grammar) (parser : CheckedGrammar) → parser ≡ unchanged g → parser ≡ unchanged parser.grammar
still_unchanged g parser e = e ∙ ap (λ (z : CheckedGrammar). unchanged z.grammar) (sym e)

-- where the parser of the grammar was made, the grammar is accepted
accepted_text : (n : Notation) (xs : List ℕ) (c parser : CheckedGrammar) → IsWrittenIn n xs c → IsPrepared c.grammar parser →
    IsAccepted n xs c.grammar
accepted_text n xs c parser w is = record { text = w.text; few_dots = is.1 }

-- the grammar was loaded
module _ (words : List (List ℕ)) (shelf : Change ShelfState) (file : Source) (c : CheckedGrammar)
    (count : Fetched shelf 1) (lg : LoadsGrammar file.written shelf file.name (Ok c)) where
  -- its parser stops the command
  pub decides_at_dots : (request : Request) (stop : Stop) → IsCommand words request → grammar_file request ≡ Some file →
      Prepares c.grammar (Err stop) → Decides words shelf (Err stop)
  decides_at_dots request (halt.Note s line) command named h =
      let many = too_many_dots c.grammar lg.1.2.text h.2 in
      (1, rw (h.0, h.1) (grammar_refused request file lg.1.0 dots_text lg.0 command named lg.1.1 many), count, λ d. let p = h.0 in cc)
  decides_at_dots request halt.Memory command named h = (1, for_names request 1 command (one_file request file named), count, inl lg.0)

  module _ (parser : CheckedGrammar) (prepared : IsPrepared c.grammar parser) where
    accepted : IsAccepted file.written lg.1.0 c.grammar
    accepted = accepted_text file.written lg.1.0 c parser lg.1.2 prepared

    -- the parser's grammar is accepted, as it is written
    pub is_taken : IsTaken parser
    is_taken =
        let P : CheckedGrammar → Type 0 = IsTaken in
        subst P (sym prepared.0) (record { as_it_is = refl; written = file.written; bytes = lg.1.0; accepted = accepted })

    pub has_grammar : (request : Request) → grammar_file request ≡ Some file → HasGrammar shelf.before request c.grammar
    has_grammar request named =
        record { file = file; named = named; bytes = lg.1.0; gives = lg.1.1; accepted = accepted }

    -- the grammar is all that was asked for
    pub decides_task : (t : Task) (r : Result (Vec ℕ Global) Stop) → IsCommand words (task_request t file) →
        DoesTask parser.grammar file.written t r → Decides words shelf r
    decides_task t (Ok text) command h =
        let P : CheckedGrammar → Type 0 = λ z. GrammarText z.grammar file.written t text.items in (
          1,
          told_grammar t file text.items c.grammar lg.0 command (has_grammar (task_request t file) (named_of_task t file))
              (subst P prepared.0 h),
          count,
        )
    decides_task t (Err (halt.Note s line)) command h = absurd h
    decides_task t (Err halt.Memory) command h =
        (1, for_names (task_request t file) 1 command (one_file (task_request t file) file (named_of_task t file)), count, inl lg.0)

-- what comes of a parser and an input
module _ (c : CheckedGrammar) (budget : ℕ) (job : Job) (shelf : Change ShelfState) (name : List ℕ) where
  pub runs_at_input : (width : ℕ) (stop : Stop) → LoadsInput width shelf name (Err stop) → RunsJob c budget job shelf name (Err stop)
  runs_at_input width (halt.Note s line) li = decisions.at_input s line.items li
  runs_at_input width halt.Memory li = li

  pub runs_parse : (width : ℕ) → width ≡ tab_width c.grammar.tabs → (text : Text) (r : Result (Vec ℕ Global) Stop) →
      LoadsInput width shelf name (Ok text) →
      ParsesText c text budget job r → RunsJob c budget job shelf name r
  runs_parse width w text (Ok out) li h =
      record {
        calm = li.0;
        input_bytes = li.1.0;
        input = text;
        gives_input = li.1.1;
        decoded = subst (λ z. IsDecoded z li.1.0 text) w li.1.2;
        is_parse = h;
      }
  runs_parse width w text (Err (halt.Note s line)) li h =
      decisions.at_parse s line.items li.1.0 text li.0 li.1.1 (subst (λ z. IsDecoded z li.1.0 text) w li.1.2) h
  runs_parse width w text (Err halt.Memory) li h = inl li.0

-- what comes of a parser, an input and the text of a forest
module _ (c : CheckedGrammar) (input : Input) (shelf : Change ShelfState) (name : List ℕ) where
  pub checks_at_file : (stop : Stop) → LoadsForest shelf name (Err stop) → RunsCheck c input shelf name (Err stop)
  checks_at_file (halt.Note s line) lf = decisions.at_file s line.items lf
  checks_at_file halt.Memory lf = lf

  pub checks_text : (bytes : Vec ℕ Global) (r : Result (Vec ℕ Global) Stop) → LoadsForest shelf name (Ok bytes) →
      VerifiesText c input bytes.items r → RunsCheck c input shelf name r
  checks_text bytes (Ok line) lf h = record { calm = lf.0; bytes = bytes.items; gives = lf.1; verifies = h }
  checks_text bytes (Err (halt.Note s line)) lf h = decisions.at_text s line.items bytes.items lf.0 lf.1 h.0 h.1 h.2
  checks_text bytes (Err halt.Memory) lf h = inl lf.0

-- the grammar that the request names was accepted, and it names an input
module _ (words : List (List ℕ)) (shelf : Change ShelfState) (request : Request) (g : Grammar) (command : IsCommand words request)
    (has : HasGrammar shelf.before request g) (input : List ℕ) (named : input_file request ≡ Some input) where
  abbrev told : Told
  told = shelf.before.holds input

  abbrev old : ℕ
  old = shelf.before.faults

  abbrev new : ℕ
  new = shelf.after.faults

  -- the input stops the command
  stopped_at_input : (s : Status) (note : List ℕ) → StopsAt told input old new IsNoInput s note →
      Decided words shelf s [] note 2 × (s ≢ status.Done)
  stopped_at_input s note (sources.missing z line e n p q) =
      (rw (p, q) (input_missing request g input e command has named n), λ d. cc)
  stopped_at_input s note (sources.unread z line rose p q) =
      (rw (p, q) (input_unread request g input rose command has named), λ d. cc)
  stopped_at_input s note (sources.refused z line ys e gives r) = (
    rw (r.status_is, r.note_is) (input_refused request g input ys r.fault e command has named gives r.faulty r.cause),
    λ d. let p = r.status_is in cc,
  )

  has_files : (ys : List ℕ) (text : Input) → MayGive told ys → IsDecoded (tab_width g.tabs) ys text → HasFiles words shelf.before request g text
  has_files ys text gives decoded =
      record {
        command = command;
        of_grammar = has;
        of_input = record { name = input; named = named; bytes = ys; gives = gives; decoded = decoded };
      }

-- a job was asked for, and the grammar was accepted
module _ (words : List (List ℕ)) (shelf : Change ShelfState) (job : Job) (grammar : Source) (input : List ℕ) (budget : ℕ) (g : Grammar)
    (command : IsCommand words (request_for job grammar input budget))
    (has : HasGrammar shelf.before (request_for job grammar input budget) g) (parser : CheckedGrammar) (prepared : IsPrepared g parser)
  where
    abbrev asked : Request
    asked = request_for job grammar input budget

    abbrev files_with : (ys : List ℕ) (text : Input) → MayGive (shelf.before.holds input) ys → IsDecoded (tab_width g.tabs) ys text →
        HasFiles words shelf.before asked g text
    files_with = has_files words shelf asked g command has input (input_of_job job grammar input budget)

    -- the parser's grammar is the one that was read, so it says the same width
    widened : (ys : List ℕ) (text : Input) → IsDecoded (tab_width parser.grammar.tabs) ys text → IsDecoded (tab_width g.tabs) ys text
    widened ys text = subst (λ (z : CheckedGrammar). IsDecoded (tab_width z.grammar.tabs) ys text) prepared.0

    stopped_at_parse : (s : Status) (note : List ℕ) (text : Input) → shelf.after.faults ≡ shelf.before.faults →
        HasFiles words shelf.before asked g text →
        StopsParse (unchanged g) text budget job s note → Decided words shelf s [] note 2 × (s ≢ status.Done)
    stopped_at_parse s note text e files (texts.over_budget z line more p q) =
        (rw (p, q) (over_budget grammar input g text budget job e files more), λ d. cc)
    stopped_at_parse s note text e files (texts.no_parse z line suffices none p told) =
        (rw p (no_parse grammar input g text budget job note e files suffices none told), λ d. cc)
    stopped_at_parse s note text e files (texts.at_job z line is not_done) =
        (parsed grammar input g text budget job is.forest s [] note e files is.is is.finishes, not_done)

    stopped_run : (s : Status) (note : List ℕ) →
        StopsRun parser budget job (shelf.before.holds input) input shelf.before.faults shelf.after.faults s note →
        Decided words shelf s [] note 2 × (s ≢ status.Done)
    stopped_run s note (decisions.at_input z line at) =
        stopped_at_input words shelf asked g command has input (input_of_job job grammar input budget) s note at
    stopped_run s note (decisions.at_parse z line ys text e gives_input decoded at) =
        let P : CheckedGrammar → Type 0 = λ z. StopsParse z text budget job s note in
        stopped_at_parse s note text e (files_with ys text gives_input (widened ys text decoded)) (subst P prepared.0 at)

    made_text : (text : List ℕ) →
        GivesText parser budget job (shelf.before.holds input) shelf.before.faults shelf.after.faults text →
        Decided words shelf status.Done text [] 2
    made_text text h =
        let Q : CheckedGrammar → Type 0 = λ z. IsParse z h.input budget job status.Done text [] in
        let is = subst Q prepared.0 h.is_parse in
        parsed grammar input g h.input budget job is.forest status.Done text [] h.calm
        (files_with h.input_bytes h.input h.gives_input (widened h.input_bytes h.input h.decoded)) is.is is.finishes

once_more : (k before between after : ℕ) → between ≡ risen before → after ≡ raised k between → after ≡ raised (suc k) before
once_more k before between after c1 c2 = c2 ∙ ap (raised k) c1

-- the grammar was loaded, and then a job was run
pub decides_job : (words : List (List ℕ)) (first loaded last : ShelfState) (job : Job) (file : Source) (input : List ℕ) (budget : ℕ)
    (c parser : CheckedGrammar) (r : Result (Vec ℕ Global) Stop) → IsCommand words (request_for job file input budget) →
    Fetched (change first loaded) 1 → ((n : List ℕ) → loaded.holds n ≡ first.holds n) →
    LoadsGrammar file.written (change first loaded) file.name (Ok c) →
    IsPrepared c.grammar parser → Fetched (change loaded last) 1 →
    RunsJob parser budget job (change loaded last) input r → Decides words (change first last) r
decides_job words first loaded last job file input budget c parser r command count same lg prepared count_2 h = go r h
  where
    asked : Request
    asked = request_for job file input budget

    has : HasGrammar first asked c.grammar
    has =
        has_grammar words (change first loaded) file c count lg parser prepared asked (grammar_of_job job file input budget)

    twice : Fetched (change first last) 2
    twice = once_more 1 first.fetches loaded.fetches last.fetches count count_2

    go : (r : Result (Vec ℕ Global) Stop) → RunsJob parser budget job (change loaded last) input r → Decides words (change first last) r
    go (Ok text) h =
        let P : Told → ℕ → Type 0 = λ told old. GivesText parser budget job told old last.faults text.items in (
          2,
          made_text words (change first last) job file input budget c.grammar command has parser prepared text.items
              (subst₂ P (same input) lg.0 h),
          twice,
        )
    go (Err (halt.Note s line)) h =
        let P : Told → ℕ → Type 0 = λ told old. StopsRun parser budget job told input old last.faults s line.items in
        let d = stopped_run words (change first last) job file input budget c.grammar command has parser prepared s line.items
        (subst₂ P (same input) lg.0 h) in
        (2, d.0, twice, d.1)
    go (Err halt.Memory) h = (
      2,
      for_names asked 2 command (two_files asked input (input_of_job job file input budget)),
      twice,
      subst (λ z. Stood z last.faults) lg.0 h,
    )

-- a forest is to be checked, and the grammar was loaded
module _ (words : List (List ℕ)) (file : Source) (input name : List ℕ) (command : IsCommand words (verify file input name))
    (first loaded : ShelfState) (c parser : CheckedGrammar) (count : Fetched (change first loaded) 1)
    (same : (n : List ℕ) → loaded.holds n ≡ first.holds n) (lg : LoadsGrammar file.written (change first loaded) file.name (Ok c))
    (prepared : IsPrepared c.grammar parser) (read : ShelfState) (count_2 : Fetched (change loaded read) 1) where
  has_one : HasGrammar first (verify file input name) c.grammar
  has_one = has_grammar words (change first loaded) file c count lg parser prepared (verify file input name) refl

  twice : Fetched (change first read) 2
  twice = once_more 1 first.fetches loaded.fetches read.fetches count count_2

  -- then the input stops the command
  pub decides_at_input : (width : ℕ) (stop : Stop) → LoadsInput width (change loaded read) input (Err stop) → Decides words (change first read) (Err stop)
  decides_at_input width (halt.Note s line) h =
      let P : Told → ℕ → Type 0 = λ told old. StopsAt told input old read.faults IsNoInput s line.items in
      let d = stopped_at_input words (change first read) (verify file input name) c.grammar command has_one input refl s line.items
      (subst₂ P (same input) lg.0 h) in
      (2, d.0, twice, d.1)
  decides_at_input width halt.Memory h =
      (2, for_names (verify file input name) 2 command (omega arith), twice, subst (λ z. Stood z read.faults) lg.0 h)

  -- or the input was loaded, and then the text of the forest looked at
  module _ (last : ShelfState) (text : Text) (same_2 : (n : List ℕ) → read.holds n ≡ loaded.holds n)
      (width : ℕ) (its : width ≡ tab_width parser.grammar.tabs) (li : LoadsInput width (change loaded read) input (Ok text)) (count_3 : Fetched (change read last) 1) where
    abbrev both : Change ShelfState
    both = change first last

    calm_before : read.faults ≡ first.faults
    calm_before = li.0 ∙ lg.0

    thrice : Fetched both 3
    thrice = once_more 2 first.fetches loaded.fetches last.fetches count (once_more 1 loaded.fetches read.fetches last.fetches count_2 count_3)

    files : HasFiles words first (verify file input name) c.grammar text
    files =
        has_files words both (verify file input name) c.grammar command has_one input refl li.1.0 text
        (subst (λ z. MayGive z li.1.0) (same input) li.1.1)
        (subst (λ z. IsDecoded z li.1.0 text) (its ∙ ap (λ (z : CheckedGrammar). tab_width z.grammar.tabs) prepared.0) li.1.2)

    held : read.holds name ≡ first.holds name
    held = same_2 name ∙ same name

    stopped_check : (s : Status) (note : List ℕ) → StopsCheck parser text (first.holds name) name first.faults last.faults s note →
        Decided words both s [] note 3 × (s ≢ status.Done)
    stopped_check s note (decisions.at_file z line (sources.missing _ _ e n p q)) =
        (rw (p, q) (forest_missing file input name c.grammar text e files n), λ d. cc)
    stopped_check s note (decisions.at_file z line (sources.unread _ _ rose p q)) =
        (rw (p, q) (forest_unread file input name c.grammar text rose files), λ d. cc)
    stopped_check s note (decisions.at_file z line (sources.refused _ _ zs e gives long)) = (
      rw (long.status_is, long.note_is)
          (checked file input name c.grammar text zs status.NotForest [] _ e files gives (verifying.too_long long.many)
          (λ few is. let many : most_forest_bytes < length zs = long.many in absurd (omega arith))),
      λ d. let p = long.status_is in cc,
    )
    stopped_check s note (decisions.at_text z line zs e gives h not_done not_reduced) =
        let P : CheckedGrammar → Type 0 = λ z. Verifies z text zs s [] note in
        let Q : CheckedGrammar → Type 0 = λ z. IsReducedText z text zs → ⊥ in (
          checked file input name c.grammar text zs s [] note e files gives (subst P prepared.0 h)
              (λ few is. absurd (subst Q prepared.0 not_reduced is)),
          not_done,
        )

    pub decides_check : (r : Result (Vec ℕ Global) Stop) → RunsCheck parser text (change read last) name r → Decides words both r
    decides_check (Ok line) h =
        let P : CheckedGrammar → Type 0 = λ z. Verifies z text h.bytes status.Done line.items [] in
        let M : Told → Type 0 = λ z. MayGive z h.bytes in (
          3,
          checked file input name c.grammar text h.bytes status.Done line.items [] (h.calm ∙ calm_before) files
              (subst M held h.gives) (subst P prepared.0 h.verifies) (λ few is. refl),
          thrice,
        )
    decides_check (Err (halt.Note s line)) h =
        let P : Told → ℕ → Type 0 = λ told old. StopsCheck parser text told name old last.faults s line.items in
        let d = stopped_check s line.items (subst₂ P held calm_before h) in
        (3, d.0, thrice, d.1)
    decides_check (Err halt.Memory) h =
        (3, for_names (verify file input name) 3 command (omega arith), thrice, subst (λ z. Stood z last.faults) calm_before h)

-- what was decided is answered
answers_text : (words : List (List ℕ)) (shelf : Change ShelfState) (out notes : Change SinkState)
    (text : Vec ℕ Global) (answer : Status) → Decides words shelf (Ok text) →
    WritesText text.items out notes answer → Answers words shelf out notes answer
answers_text words shelf out notes text answer d (inl w) =
    rw w.0 (decided.written text.items d.0 d.1 d.2 w.1 w.2)
answers_text words shelf out notes text answer d (inr w) =
    rw w.0 (unwritten text.items d.0 d.1 w.1 d.2 w.2 w.3)

answers_note : (words : List (List ℕ)) (shelf : Change ShelfState) (out notes : Change SinkState)
    (s : Status) (line : Vec ℕ Global) (answer : Status) → Untouched out →
    Decides words shelf (Err (halt.Note s line)) → WritesNote s line.items notes answer →
    Answers words shelf out notes answer
answers_note words shelf out notes s line answer u d (inl w) =
    rw w.0 (noted s line.items d.0 d.1 d.3 d.2 u w.1)
answers_note words shelf out notes s line answer u d (inr w) =
    rw w.0 (unnoted s line.items d.0 d.1 d.3 d.2 u w.1)

pub answers_end : (words : List (List ℕ)) (shelf : Change ShelfState) (out notes : Change SinkState)
    (r : Result (Vec ℕ Global) Stop) (answer : Status) → Decides words shelf r → Ends r out notes answer →
    Answers words shelf out notes answer
answers_end words shelf out notes (Ok text) answer d w = answers_text words shelf out notes text answer d w
answers_end words shelf out notes (Err (halt.Note s line)) answer d w =
    answers_note words shelf out notes s line answer w.0 d w.1
answers_end words shelf out notes (Err halt.Memory) answer d w =
    rw w.1.0 (no_memory d.0 d.1 d.2 d.3 w.0 w.1.1)
