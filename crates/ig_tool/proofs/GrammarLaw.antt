-- What is answered where a task with a grammar is asked for, from the answer by cases.
use Rattle.std.proofs.Common.{◌≡◌, ℕ, List, [], inl, inr, refl, sym, ◌∙◌, ap, subst, Option, Some, None}
use Rattle.std.proofs.lemmas.Option.{same_Some}
use Rattle.ig_outside.specs.States.{ShelfState, SinkState}
use Rattle.ig_outside.specs.Told.{bytes}
use Rattle.ig_grammar.specs.declared.grammar.Grammar.{Grammar}
use Rattle.ig_command_endings.specs.Change.{Change, FetchFailed}
use Rattle.ig_command_endings.specs.declared.status.Status.{Status}
use Rattle.ig_command_endings.specs.declared.status.Status.TheVariants as status
use Rattle.ig_command.specs.Commands as asks
use Rattle.ig_command.specs.Commands.{Request, Source, load, batch, verify, grammar_file, input_file, IsCommand}
use Rattle.ig_command_jobs.specs.Jobs.{request_for, task_request}
use Rattle.ig_command_jobs.specs.Tasks.{GrammarText}
use Rattle.ig_command_jobs.specs.declared.job.Task.{Task}
use Rattle.ig_command_jobs.specs.declared.job.Task.TheVariants as task
use Rattle.ig_command_sources.specs.Accepted.{IsAccepted}
use Rattle.ig_tool.specs.Outcome as answer
use Rattle.ig_tool.specs.Outcome.{Decided, Answers, written, noted, unwritten, unnoted, no_memory}
use Rattle.ig_tool.specs.Headline.{GrammarCommands}
use Rattle.ig_tool.proofs.Asked.{Laws, Sort, of_grammar, grammar_is, not_missing, not_refused, one_sort, same_request, sort_of, sort_of_job, sort_of_task}
use Rattle.ig_tool.proofs.Deciding.{named_of_task}

-- the task of a request; some task where there is none
abbrev task_of : Request → Option Task
task_of (asks.check file) = Some task.Check
task_of (asks.show file) = Some task.Show
task_of (asks.core file) = Some task.Core
task_of (asks.analyse file) = Some task.Analyse
task_of request = None

itself : (t : Task) (file : Source) → task_of (task_request t file) ≡ Some t
itself task.Check file = refl
itself task.Show file = refl
itself task.Core file = refl
itself task.Analyse file = refl

module _ (laws : Laws) (words : List (List ℕ)) (shelf : Change ShelfState) (t : Task) (file : Source) (xs : List ℕ) (g : Grammar)
    (asked : IsCommand words (task_request t file)) (held : shelf.before.holds file.name ≡ bytes xs)
    (accepted : IsAccepted file.written xs g) where
  abbrev request : Request
  request = task_request t file

  of_one_sort : (r : Request) (m : Sort) → IsCommand words r → sort_of r ≡ m → m ≡ of_grammar
  of_one_sort r m command e = one_sort words r request m of_grammar command asked e (sort_of_task t file)

  -- no input is read
  no_input : (r : Request) (f : List ℕ) → IsCommand words r → input_file r ≡ Some f → ⊥
  no_input r f command e =
      by_task t (sym (ap input_file (same_request words r request command asked)) ∙ e)
    where
      by_task : (u : Task) → input_file (task_request u file) ≡ Some f → ⊥
      by_task task.Check h = cc
      by_task task.Show h = cc
      by_task task.Core h = cc
      by_task task.Analyse h = cc

  same_task : (u : Task) (f : Source) → IsCommand words (task_request u f) → u ≡ t
  same_task u f command =
      same_Some u t (sym (itself u f) ∙ ap task_of (same_request words (task_request u f) request command asked) ∙ itself t file)

  same_source : (u : Task) (f : Source) → IsCommand words (task_request u f) → f ≡ file
  same_source u f command =
      same_Some f file
      (sym (named_of_task u f) ∙ ap grammar_file (same_request words (task_request u f) request command asked) ∙ named_of_task t file)

  -- what was decided is the text of the task
  decided_text : (s : Status) (out note : List ℕ) (k : ℕ) → Decided words shelf s out note k → (FetchFailed shelf → ⊥) →
      (s ≡ status.Done) × GrammarText g file.written t out
  decided_text s out note k (answer.usage e none) calm = absurd (none request asked)
  decided_text s out note k (answer.load_over_budget size number b e command many) calm =
      let same = of_one_sort (load size number b) _ command refl in absurd (cc)
  decided_text s out note k (answer.load_summed size number b summary e command few is) calm =
      let same = of_one_sort (load size number b) _ command refl in absurd (cc)
  decided_text s out note k (answer.list_missing l b t e command held_not) calm =
      let same = of_one_sort (batch l b t) _ command refl in absurd (cc)
  decided_text s out note k (answer.list_unread l b t rose command) calm =
      let same = of_one_sort (batch l b t) _ command refl in absurd (cc)
  decided_text s out note k (answer.list_refused l b t ys line e command gives bad) calm =
      let same = of_one_sort (batch l b t) _ command refl in absurd (cc)
  decided_text s out note k (answer.job_missing l b t js f j e has stops) calm =
      let same = of_one_sort (batch l b t) _ has.command refl in absurd (cc)
  decided_text s out note k (answer.job_unread l b t js f j rose has stops) calm =
      let same = of_one_sort (batch l b t) _ has.command refl in absurd (cc)
  decided_text s out note k (answer.batched l b t js ends j e has all_end) calm =
      let same = of_one_sort (batch l b t) _ has.command refl in absurd (cc)
  decided_text s out note k (answer.grammar_missing r f e command n held_not) calm =
      absurd (not_missing laws words shelf.before request asked file (named_of_task t file) xs held g accepted r f command n held_not)
  decided_text s out note k (answer.grammar_unread r f rose command n) calm = absurd (calm rose)
  decided_text s out note k (answer.grammar_refused r f ys text e command n gives refused) calm =
      absurd (not_refused laws words shelf.before request asked file (named_of_task t file) xs held g accepted r f ys text command n
      gives refused)
  decided_text s out note k (answer.told_grammar u f text h e command has is) calm =
      let same =
      grammar_is laws words shelf.before request asked file (named_of_task t file) xs held g accepted (task_request u f) h command has in (
        refl,
        subst (λ (z : Task). GrammarText g file.written z out) (same_task u f command)
            (subst (λ (z : Source). GrammarText g z.written u out) (same_source u f command)
            (subst (λ (z : Grammar). GrammarText z f.written u out) same is)),
      )
  decided_text s out note k (answer.input_missing r h f e command has n held_not) calm = absurd (no_input r f command n)
  decided_text s out note k (answer.input_unread r h f rose command has n) calm = absurd (calm rose)
  decided_text s out note k (answer.input_refused r h f ys fault e command has n gives faulty cause) calm =
      absurd (no_input r f command n)
  decided_text s out note k (answer.over_budget f i h text b j e files more) calm =
      let same = of_one_sort (request_for j f i b) _ files.command (sort_of_job j f i b) in absurd (cc)
  decided_text s out note k (answer.no_parse f i h text b j line e files few none told) calm =
      let same = of_one_sort (request_for j f i b) _ files.command (sort_of_job j f i b) in absurd (cc)
  decided_text s out note k (answer.parsed f i h text b j forest u made line e files is finishes) calm =
      let same = of_one_sort (request_for j f i b) _ files.command (sort_of_job j f i b) in absurd (cc)
  decided_text s out note k (answer.forest_missing f i n h text e files held_not) calm =
      let same = of_one_sort (verify f i n) _ files.command refl in absurd (cc)
  decided_text s out note k (answer.forest_unread f i n h text rose files) calm = absurd (calm rose)
  decided_text s out note k (answer.checked f i n h text zs u made line e files gives is passes) calm =
      let same = of_one_sort (verify f i n) _ files.command refl in absurd (cc)

pub grammar_commands : (laws : Laws) (words : List (List ℕ)) (shelf : Change ShelfState) (out notes : Change SinkState) (s : Status) →
    Answers words shelf out notes s → GrammarCommands words shelf out notes s
grammar_commands laws words shelf out notes s (written text k d count got untouched) t file xs g asked held accepted calm a b =
    let is = decided_text laws words shelf t file xs g asked held accepted status.Done text [] k d calm in
    inr (refl, (text, (is.1, got, untouched)))
grammar_commands laws words shelf out notes s (noted u note k d not_done count untouched got) t file xs g asked held accepted calm a b =
    absurd (not_done (decided_text laws words shelf t file xs g asked held accepted u [] note k d calm).0)
grammar_commands laws words shelf out notes s (unwritten text k d full count failed part) t file xs g asked held accepted calm a b =
    absurd (a failed.rose)
grammar_commands laws words shelf out notes s (unnoted u note k d not_done count untouched failed) t file xs g asked held accepted calm a b =
    absurd (b failed.rose)
grammar_commands laws words shelf out notes s (no_memory k few count stood untouched part) t file xs g asked held accepted calm a b =
    inl (refl, untouched)
