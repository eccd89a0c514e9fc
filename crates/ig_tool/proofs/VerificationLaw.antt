-- What is answered where a forest is to be checked, from the answer by cases.
use Rattle.std.proofs.Common.{◌≡◌, ℕ, List, [], inl, inr, refl, ◌∙◌, ap, subst}
use Rattle.ig_text.specs.Input.{Input}
use Rattle.ig_outside.specs.States.{ShelfState, SinkState}
use Rattle.ig_outside.specs.Told.{bytes}
use Rattle.ig_grammar.specs.declared.grammar.Grammar.{Grammar}
use Rattle.ig_core.specs.Notation.{unchanged}
use Rattle.ig_command_endings.specs.Change.{Change, FetchFailed, Got}
use Rattle.ig_grammar.specs.Checked.{CheckedGrammar}
use Rattle.ig_command_endings.specs.declared.status.Status.{Status}
use Rattle.ig_command_endings.specs.declared.status.Status.TheVariants as status
use Rattle.ig_command.specs.Commands.{Request, Source, load, batch, verify, IsCommand}
use Rattle.ig_command_jobs.specs.Jobs.{request_for, task_request}
use Rattle.ig_command_jobs.specs.Verifying.{PassesReduced, Verifies, too_long, no_forest, not_sound, verified, verified_text}
use Rattle.ig_tool.specs.Outcome as answer
use Rattle.ig_tool.specs.Outcome.{Decided, Answers, written, noted, unwritten, unnoted, no_memory}
use Rattle.ig_tool.specs.Headline.{Asks, Certification, Verification}
use Rattle.ig_tool.proofs.Asked.{Laws, Sort, of_check, gives_held, got_none, no_missing_grammar, no_missing_input, no_refused_grammar, no_refused_input, one_sort, same_grammar, same_input, same_request, sort_of, sort_of_job, sort_of_task}

-- the texts that two such requests name
same_text : (f : Source) (i n : List ℕ) (g : Source) (j m : List ℕ) → verify f i n ≡ verify g j m → n ≡ m
same_text f i n g j m e = cc

module _ (laws : Laws) (words : List (List ℕ)) (shelf : Change ShelfState) (grammar : Source) (input_name name : List ℕ) (g : Grammar)
    (input : Input) (zs : List ℕ) (asked : Asks words shelf.before (verify grammar input_name name) g input)
    (held : shelf.before.holds name ≡ bytes zs) where
  abbrev request : Request
  request = verify grammar input_name name

  of_one_sort : (r : Request) (m : Sort) → IsCommand words r → sort_of r ≡ m → m ≡ of_check
  of_one_sort r m command e = one_sort words r request m of_check command asked.command e refl

  told_text : (f : Source) (i n : List ℕ) → IsCommand words (verify f i n) → shelf.before.holds n ≡ bytes zs
  told_text f i n command =
      ap shelf.before.holds (same_text f i n grammar input_name name (same_request words (verify f i n) request command asked.command)) ∙
      held

  -- what was decided comes of the text, and that of the reduced forest passes
  decided_check : (s : Status) (out note : List ℕ) (k : ℕ) → Decided words shelf s out note k → (FetchFailed shelf → ⊥) →
      Verifies (unchanged g) input zs s out note × PassesReduced (unchanged g) input zs s
  decided_check s out note k (answer.usage e none) calm = absurd (none request asked.command)
  decided_check s out note k (answer.load_over_budget size number b e command many) calm =
      let same = of_one_sort (load size number b) _ command refl in absurd (cc)
  decided_check s out note k (answer.load_summed size number b summary e command few is) calm =
      let same = of_one_sort (load size number b) _ command refl in absurd (cc)
  decided_check s out note k (answer.list_missing l b t e command held_not) calm =
      let same = of_one_sort (batch l b t) _ command refl in absurd (cc)
  decided_check s out note k (answer.list_unread l b t rose command) calm =
      let same = of_one_sort (batch l b t) _ command refl in absurd (cc)
  decided_check s out note k (answer.list_refused l b t ys line e command gives bad) calm =
      let same = of_one_sort (batch l b t) _ command refl in absurd (cc)
  decided_check s out note k (answer.job_missing l b t js f j e has stops) calm =
      let same = of_one_sort (batch l b t) _ has.command refl in absurd (cc)
  decided_check s out note k (answer.job_unread l b t js f j rose has stops) calm =
      let same = of_one_sort (batch l b t) _ has.command refl in absurd (cc)
  decided_check s out note k (answer.batched l b t js ends j e has all_end) calm =
      let same = of_one_sort (batch l b t) _ has.command refl in absurd (cc)
  decided_check s out note k (answer.grammar_missing r f e command n held_not) calm =
      absurd (no_missing_grammar laws words shelf.before request g input asked r f command n held_not)
  decided_check s out note k (answer.grammar_unread r f rose command n) calm = absurd (calm rose)
  decided_check s out note k (answer.grammar_refused r f xs text e command n gives refused) calm =
      absurd (no_refused_grammar laws words shelf.before request g input asked r f xs text command n gives refused)
  decided_check s out note k (answer.told_grammar t f text h e command has is) calm =
      let same = of_one_sort (task_request t f) _ command (sort_of_task t f) in absurd (cc)
  decided_check s out note k (answer.input_missing r h f e command has n held_not) calm =
      absurd (no_missing_input laws words shelf.before request g input asked r f command n held_not)
  decided_check s out note k (answer.input_unread r h f rose command has n) calm = absurd (calm rose)
  decided_check s out note k (answer.input_refused r h f ys fault e command has n gives faulty cause) calm =
      absurd (no_refused_input laws words shelf.before request g input asked r f ys fault command n gives faulty cause)
  decided_check s out note k (answer.over_budget f i h text b j e files more) calm =
      let same = of_one_sort (request_for j f i b) _ files.command (sort_of_job j f i b) in absurd (cc)
  decided_check s out note k (answer.no_parse f i h text b j line e files few none told) calm =
      let same = of_one_sort (request_for j f i b) _ files.command (sort_of_job j f i b) in absurd (cc)
  decided_check s out note k (answer.parsed f i h text b j forest u made line e files is finishes) calm =
      let same = of_one_sort (request_for j f i b) _ files.command (sort_of_job j f i b) in absurd (cc)
  decided_check s out note k (answer.forest_missing f i n h text e files held_not) calm =
      let told = told_text f i n files.command in absurd (cc)
  decided_check s out note k (answer.forest_unread f i n h text rose files) calm = absurd (calm rose)
  decided_check s out note k (answer.checked f i n h text ys u made line e files gives is passes) calm =
      let P : Grammar → Input → List ℕ → Type 0 =
      λ x y z. Verifies (unchanged x) y z s out note × PassesReduced (unchanged x) y z s in
      subst (λ (z : List ℕ). P g input z) (gives_held (shelf.before.holds n) zs ys (told_text f i n files.command) gives)
      (subst (λ (z : Input). P g z ys) (same_input laws words shelf.before request g input asked (verify f i n) h text files)
      (subst (λ (z : Grammar). P z text ys) (same_grammar laws words shelf.before request g input asked (verify f i n) h text files)
      (is, passes)))

pub verification : (laws : Laws) (words : List (List ℕ)) (shelf : Change ShelfState) (out notes : Change SinkState) (s : Status) →
    Answers words shelf out notes s → Verification words shelf out notes s
verification laws words shelf out notes s (written text k d count got untouched) f i n g input zs asked held calm a b =
    inr (text, ([], ((decided_check laws words shelf f i n g input zs asked held status.Done text [] k d calm).0, got, got_none notes untouched)))
verification laws words shelf out notes s (noted t note k d not_done count untouched got) f i n g input zs asked held calm a b =
    inr ([], (note, ((decided_check laws words shelf f i n g input zs asked held t [] note k d calm).0, got_none out untouched, got)))
verification laws words shelf out notes s (unwritten text k d full count failed part) f i n g input zs asked held calm a b =
    absurd (a failed.rose)
verification laws words shelf out notes s (unnoted t note k d not_done count untouched failed) f i n g input zs asked held calm a b =
    absurd (b failed.rose)
verification laws words shelf out notes s (no_memory k few count stood untouched part) f i n g input zs asked held calm a b =
    inl (refl, untouched)

-- under status 0 the text is the line
done_line : (c : CheckedGrammar) (input : Input) (zs : List ℕ) (s : Status) (out note : List ℕ) → Verifies c input zs s out note →
    s ≡ status.Done → (out ≡ verified_text) × (note ≡ [])
done_line c input zs s out note (too_long many) e = absurd (cc)
done_line c input zs s out note (no_forest few none) e = absurd (cc)
done_line c input zs s out note (not_sound f flaw few is first) e = absurd (cc)
done_line c input zs s out note (verified f few is sound trees) e = (refl, refl)

pub certification : (laws : Laws) (words : List (List ℕ)) (shelf : Change ShelfState) (out notes : Change SinkState) (s : Status) →
    Answers words shelf out notes s → Certification words shelf out notes s
certification laws words shelf out notes s (written text k d count got untouched) f i n g input zs asked held calm a b few reduced =
    let both = decided_check laws words shelf f i n g input zs asked held status.Done text [] k d calm in
    let line = done_line (unchanged g) input zs status.Done text [] both.0 refl in
    inr (refl, subst (Got out) line.0 got, got_none notes untouched)
certification laws words shelf out notes s (noted t note k d not_done count untouched got) f i n g input zs asked held calm a b few reduced =
    let both = decided_check laws words shelf f i n g input zs asked held t [] note k d calm in
    absurd (not_done (both.1 few reduced))
certification laws words shelf out notes s (unwritten text k d full count failed part) f i n g input zs asked held calm a b few reduced =
    absurd (a failed.rose)
certification laws words shelf out notes s (unnoted t note k d not_done count untouched failed) f i n g input zs asked held calm a b few reduced =
    absurd (b failed.rose)
certification laws words shelf out notes s (no_memory k fetched count stood untouched part) f i n g input zs asked held calm a b few reduced =
    inl (refl, untouched)
