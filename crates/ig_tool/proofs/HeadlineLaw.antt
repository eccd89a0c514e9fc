-- The main theorem, from the answer by cases.
use Rattle.std.proofs.Common.{◌≡◌, ℕ, List, [], inl, inr, refl, ap, subst}
use Rattle.ig_text.specs.Input.{Input}
use Rattle.ig_outside.specs.States.{ShelfState, SinkState}
use Rattle.ig_grammar.specs.declared.grammar.Grammar.{Grammar}
use Rattle.ig_command_endings.specs.Change.{Change, FetchFailed, PutFailed}
use Rattle.ig_command_endings.specs.declared.status.Status.{Status}
use Rattle.ig_command_endings.specs.declared.status.Status.TheVariants as status
use Rattle.ig_command.specs.Commands.{Request, Source, load, batch, verify, IsCommand}
use Rattle.ig_command_jobs.specs.Jobs.{Job, print, list, ask, request_for, task_request}
use Rattle.ig_tool.specs.Outcome as answer
use Rattle.ig_tool.specs.Outcome.{HasFiles, Decided, Answers, written, noted, unwritten, unnoted, no_memory}
use Rattle.ig_command_jobs.specs.Outcome.{Outcome, over_budget, no_parse, parsed}
use Rattle.ig_tool.specs.Headline.{Asks, Says, Headline}
use Rattle.ig_tool.proofs.Asked.{Laws, Sort, of_job, got_none, no_missing_grammar, no_missing_input, no_refused_grammar, no_refused_input, one_sort, same_grammar, same_input, same_request, sort_of, sort_of_job, sort_of_task}

-- two requests are one only where jobs, files and budgets are
pub record AreSame (i j : Job) (file : Source) (input : List ℕ) (file_2 : Source) (input_2 : List ℕ) (b c : ℕ) : Type 0 where
  pub job : i ≡ j
  pub grammar : file ≡ file_2
  pub read : input ≡ input_2
  pub budget : b ≡ c

same_parts : (i j : Job) (f : Source) (t : List ℕ) (u : Source) (v : List ℕ) (b c : ℕ) → request_for i f t b ≡ request_for j u v c → AreSame i j f t u v b c
same_parts print print f t u v b c e = record { job = refl; grammar = cc; read = cc; budget = cc }
same_parts (list l) (list m) f t u v b c e =
    let same : l ≡ m = cc in record { job = ap list same; grammar = cc; read = cc; budget = cc }
same_parts (ask q) (ask r) f t u v b c e =
    let same : q ≡ r = cc in record { job = ap ask same; grammar = cc; read = cc; budget = cc }
same_parts print (list m) f t u v b c e = absurd (cc)
same_parts print (ask r) f t u v b c e = absurd (cc)
same_parts (list l) print f t u v b c e = absurd (cc)
same_parts (list l) (ask r) f t u v b c e = absurd (cc)
same_parts (ask q) print f t u v b c e = absurd (cc)
same_parts (ask q) (list m) f t u v b c e = absurd (cc)

-- the words ask for a job
module _ (laws : Laws) (words : List (List ℕ)) (shelf : Change ShelfState) (grammar : Source) (input_name : List ℕ) (g : Grammar)
    (input : Input) (budget : ℕ) (job : Job)
    (asked : Asks words shelf.before (request_for job grammar input_name budget) g input) where
  abbrev request : Request
  request = request_for job grammar input_name budget

  of_one_sort : (r : Request) (m : Sort) → IsCommand words r → sort_of r ≡ m → m ≡ of_job
  of_one_sort r m command e =
      one_sort words r request m of_job command asked.command e (sort_of_job job grammar input_name budget)

  module _ (f : Source) (t : List ℕ) (h : Grammar) (text : Input) (b : ℕ) (i : Job)
      (files : HasFiles words shelf.before (request_for i f t b) h text) where
    same_files : AreSame i job f t grammar input_name b budget
    same_files =
        same_parts i job f t grammar input_name b budget
        (same_request words (request_for i f t b) request files.command asked.command)

    moved : (s : Status) (out note : List ℕ) → Outcome h text b i s out note → Outcome g input budget job s out note
    moved s out note o =
        subst (λ (z : Job). Outcome g input budget z s out note) same_files.job
        (subst (λ (z : ℕ). Outcome g input z i s out note) same_files.budget
        (subst (λ (z : Input). Outcome g z b i s out note)
        (same_input laws words shelf.before request g input asked (request_for i f t b) h text files)
        (subst (λ (z : Grammar). Outcome z text b i s out note)
        (same_grammar laws words shelf.before request g input asked (request_for i f t b) h text files) o)))

  -- what was decided is the outcome
  decided_outcome : (s : Status) (out note : List ℕ) (k : ℕ) → Decided words shelf s out note k →
      (FetchFailed shelf → ⊥) → Outcome g input budget job s out note
  decided_outcome s out note k (answer.usage e none) calm = absurd (none request asked.command)
  decided_outcome s out note k (answer.load_over_budget size number b e command many) calm =
      let same = of_one_sort (load size number b) _ command refl in absurd (cc)
  decided_outcome s out note k (answer.load_summed size number b summary e command few is) calm =
      let same = of_one_sort (load size number b) _ command refl in absurd (cc)
  decided_outcome s out note k (answer.list_missing l b t e command held_not) calm =
      let same = of_one_sort (batch l b t) _ command refl in absurd (cc)
  decided_outcome s out note k (answer.list_unread l b t rose command) calm =
      let same = of_one_sort (batch l b t) _ command refl in absurd (cc)
  decided_outcome s out note k (answer.list_refused l b t ys line e command gives bad) calm =
      let same = of_one_sort (batch l b t) _ command refl in absurd (cc)
  decided_outcome s out note k (answer.job_missing l b t js f j e has stops) calm =
      let same = of_one_sort (batch l b t) _ has.command refl in absurd (cc)
  decided_outcome s out note k (answer.job_unread l b t js f j rose has stops) calm =
      let same = of_one_sort (batch l b t) _ has.command refl in absurd (cc)
  decided_outcome s out note k (answer.batched l b t js ends j e has all_end) calm =
      let same = of_one_sort (batch l b t) _ has.command refl in absurd (cc)
  decided_outcome s out note k (answer.grammar_missing r f e command n held_not) calm =
      absurd (no_missing_grammar laws words shelf.before request g input asked r f command n held_not)
  decided_outcome s out note k (answer.grammar_unread r f rose command n) calm = absurd (calm rose)
  decided_outcome s out note k (answer.grammar_refused r f xs text e command n gives refused) calm =
      absurd (no_refused_grammar laws words shelf.before request g input asked r f xs text command n gives refused)
  decided_outcome s out note k (answer.told_grammar t f text h e command has is) calm =
      let same = of_one_sort (task_request t f) _ command (sort_of_task t f) in absurd (cc)
  decided_outcome s out note k (answer.input_missing r h f e command has n held_not) calm =
      absurd (no_missing_input laws words shelf.before request g input asked r f command n held_not)
  decided_outcome s out note k (answer.input_unread r h f rose command has n) calm = absurd (calm rose)
  decided_outcome s out note k (answer.input_refused r h f ys fault e command has n gives faulty cause) calm =
      absurd (no_refused_input laws words shelf.before request g input asked r f ys fault command n gives faulty cause)
  decided_outcome s out note k (answer.over_budget f t h text b i e files more) calm =
      moved f t h text b i files s out note (over_budget more)
  decided_outcome s out note k (answer.no_parse f t h text b i line e files few none told) calm =
      moved f t h text b i files s out note (no_parse note few none told)
  decided_outcome s out note k (answer.parsed f t h text b i forest u made line e files is finishes) calm =
      moved f t h text b i files s out note (parsed forest s out note is finishes)
  decided_outcome s out note k (answer.forest_missing f t n h text e files held_not) calm =
      let same = of_one_sort (verify f t n) _ files.command refl in absurd (cc)
  decided_outcome s out note k (answer.forest_unread f t n h text rose files) calm = absurd (calm rose)
  decided_outcome s out note k (answer.checked f t n h text zs u made line e files gives is passes) calm =
      let same = of_one_sort (verify f t n) _ files.command refl in absurd (cc)

  answer_outcome : (out notes : Change SinkState) (s : Status) →
      Answers words shelf out notes s → (FetchFailed shelf → ⊥) →
      (PutFailed out → ⊥) → (PutFailed notes → ⊥) →
      Says g input budget job out notes s
  answer_outcome out notes s (written text k d count got untouched) calm a b =
      inr (text, ([], (decided_outcome status.Done text [] k d calm, got, got_none notes untouched)))
  answer_outcome out notes s (noted t note k d not_done count untouched got) calm a b =
      inr ([], (note, (decided_outcome t [] note k d calm, got_none out untouched, got)))
  answer_outcome out notes s (unwritten text k d full count failed part) calm a b = absurd (a failed.rose)
  answer_outcome out notes s (unnoted t note k d not_done count untouched failed) calm a b =
      absurd (b failed.rose)
  answer_outcome out notes s (no_memory k few count stood untouched part) calm a b =
      inl (refl, untouched)

pub headline : (laws : Laws) (words : List (List ℕ)) (shelf : Change ShelfState) (out notes : Change SinkState) (s : Status) →
    Answers words shelf out notes s → Headline words shelf out notes s
headline laws words shelf out notes s answers grammar input_name g input budget job asked calm a b =
    answer_outcome laws words shelf grammar input_name g input budget job asked out notes s answers calm a b
