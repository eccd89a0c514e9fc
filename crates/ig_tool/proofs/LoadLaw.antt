-- What the command `load` answers, from the answer by cases.
use Rattle.std.proofs.Common.{◌≡◌, ℕ, List, [], inl, inr, refl, ap, subst, Some, None}
use Rattle.ig_outside.specs.States.{ShelfState, SinkState}
use Rattle.ig_command_endings.specs.declared.status.Status.{Status}
use Rattle.ig_command_endings.specs.declared.status.Status.TheVariants as status
use Rattle.ig_command.specs.Commands.{Request, Source, load, batch, verify, grammar_file, IsCommand}
use Rattle.ig_command_jobs.specs.Jobs.{request_for, task_request}
use Rattle.ig_command_endings.specs.Change.{Change}
use Rattle.ig_tool.specs.Outcome as answer
use Rattle.ig_tool.specs.Outcome.{Decided, Answers, written, noted, unwritten, unnoted, no_memory}
use Rattle.ig_tool.specs.Headline.{LoadOutcome, too_large, summed, LoadCommands}
use Rattle.ig_tool.proofs.Asked.{Sort, of_load, got_none, one_sort, same_request, sort_of, sort_of_job, sort_of_task}

-- the sizes, numbers and budgets of one load
same_load : (s n b t m c : ℕ) → load s n b ≡ load t m c → (s ≡ t) × (n ≡ m) × (b ≡ c)
same_load s n b t m c e = (cc, cc, cc)

module _ (words : List (List ℕ)) (shelf : Change ShelfState) (size number budget : ℕ) (asked : IsCommand words (load size number budget))
  where
    of_one_sort : (r : Request) (m : Sort) → IsCommand words r → sort_of r ≡ m → m ≡ of_load
    of_one_sort r m command e = one_sort words r (load size number budget) m of_load command asked e refl

    -- no grammar is read
    no_grammar : (r : Request) (f : Source) → IsCommand words r → grammar_file r ≡ Some f → ⊥
    no_grammar r f command named =
        let none : grammar_file r ≡ None = ap grammar_file (same_request words r (load size number budget) command asked) in cc

    moved : (s n b : ℕ) (t : Status) (text note : List ℕ) → IsCommand words (load s n b) → LoadOutcome s n b t text note →
        LoadOutcome size number budget t text note
    moved s n b t text note command o =
        let same = same_load s n b size number budget (same_request words (load s n b) (load size number budget) command asked) in
        subst (λ (z : ℕ). LoadOutcome z number budget t text note) same.0
        (subst (λ (z : ℕ). LoadOutcome s z budget t text note) same.1 (subst (λ (z : ℕ). LoadOutcome s n z t text note) same.2 o))

    -- what was decided is the outcome
    decided_load : (t : Status) (text note : List ℕ) (k : ℕ) → Decided words shelf t text note k → LoadOutcome size number budget t text note
    decided_load t text note k (answer.usage e none) = absurd (none (load size number budget) asked)
    decided_load t text note k (answer.load_over_budget s n b e command many) = moved s n b t text note command (too_large many)
    decided_load t text note k (answer.load_summed s n b summary e command few is) =
        moved s n b t text note command (summed summary few is)
    decided_load t text note k (answer.list_missing l b u e command held_not) =
        let same = of_one_sort (batch l b u) _ command refl in absurd (cc)
    decided_load t text note k (answer.list_unread l b u rose command) =
        let same = of_one_sort (batch l b u) _ command refl in absurd (cc)
    decided_load t text note k (answer.list_refused l b u ys line e command gives bad) =
        let same = of_one_sort (batch l b u) _ command refl in absurd (cc)
    decided_load t text note k (answer.job_missing l b u js f j e has stops) =
        let same = of_one_sort (batch l b u) _ has.command refl in absurd (cc)
    decided_load t text note k (answer.job_unread l b u js f j rose has stops) =
        let same = of_one_sort (batch l b u) _ has.command refl in absurd (cc)
    decided_load t text note k (answer.batched l b u js ends j e has all_end) =
        let same = of_one_sort (batch l b u) _ has.command refl in absurd (cc)
    decided_load t text note k (answer.grammar_missing r f e command named held) = absurd (no_grammar r f command named)
    decided_load t text note k (answer.grammar_unread r f rose command named) = absurd (no_grammar r f command named)
    decided_load t text note k (answer.grammar_refused r f xs line e command named gives refused) = absurd (no_grammar r f command named)
    decided_load t text note k (answer.told_grammar u f line g e command has is) =
        let same = of_one_sort (task_request u f) _ command (sort_of_task u f) in absurd (cc)
    decided_load t text note k (answer.input_missing r g f e command has n held) = absurd (no_grammar r has.file command has.named)
    decided_load t text note k (answer.input_unread r g f rose command has n) = absurd (no_grammar r has.file command has.named)
    decided_load t text note k (answer.input_refused r g f ys fault e command has n gives faulty cause) =
        absurd (no_grammar r has.file command has.named)
    decided_load t text note k (answer.over_budget f i g input b job e files more) =
        let same = of_one_sort (request_for job f i b) _ files.command (sort_of_job job f i b) in absurd (cc)
    decided_load t text note k (answer.no_parse f i g input b job line e files few none told) =
        let same = of_one_sort (request_for job f i b) _ files.command (sort_of_job job f i b) in absurd (cc)
    decided_load t text note k (answer.parsed f i g input b job forest s out line e files is finishes) =
        let same = of_one_sort (request_for job f i b) _ files.command (sort_of_job job f i b) in absurd (cc)
    decided_load t text note k (answer.forest_missing f i n g input e files held) =
        let same = of_one_sort (verify f i n) _ files.command refl in absurd (cc)
    decided_load t text note k (answer.forest_unread f i n g input rose files) =
        let same = of_one_sort (verify f i n) _ files.command refl in absurd (cc)
    decided_load t text note k (answer.checked f i n g input zs s out line e files gives is passes) =
        let same = of_one_sort (verify f i n) _ files.command refl in absurd (cc)

pub load_commands : (words : List (List ℕ)) (shelf : Change ShelfState) (out notes : Change SinkState) (s : Status) →
    Answers words shelf out notes s → LoadCommands words out notes s
load_commands words shelf out notes s (written text k d count got untouched) size number budget asked a b =
    inr (text, ([], (decided_load words shelf size number budget asked status.Done text [] k d, got, got_none notes untouched)))
load_commands words shelf out notes s (noted t note k d not_done count untouched got) size number budget asked a b =
    inr ([], (note, (decided_load words shelf size number budget asked t [] note k d, got_none out untouched, got)))
load_commands words shelf out notes s (unwritten text k d full count failed part) size number budget asked a b = absurd (a failed.rose)
load_commands words shelf out notes s (unnoted t note k d not_done count untouched failed) size number budget asked a b = absurd (b failed.rose)
load_commands words shelf out notes s (no_memory k few count stood untouched part) size number budget asked a b = inl (refl, untouched)
