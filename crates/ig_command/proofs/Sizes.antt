-- The numbers of a load and of a batch are some that may be asked for.
use Rattle.std.proofs.Common.{◌≡◌, ◌∙◌, ℕ, ◌≤◌, Bool, true, false, List, [], ◌∷◌, Option, Some, None, refl, sym, subst, arith}
use Rattle.std.specs.Prelude.{if◌then◌else◌, ◌&&◌, nat_le, option_map, option_and_then, codes}
use Rattle.std.specs.List.{list_all}
use Rattle.std.proofs.lemmas.Bool.Decides.{nat_tests}
use Rattle.std.proofs.lemmas.Option.{same_Some}
use Rattle.ig_text.specs.Words.{is_digit}
use Rattle.ig_expr.specs.Reading.{spelled}
use Rattle.ig_command.specs.Words.{Parts, Setting, parts_of}
use Rattle.ig_command.specs.Commands.{Request, check, show, core, forest, trees, query, load, batch, verify, analyse, IsCommand, request_of, request_with, row, are_among, number_of, number_or, most_size, most_number, Source, source_in}
use Rattle.ig_command.specs.Commands.{budget_in, list_order_in, most_budget, most_turn, option_in, run_with, turn_in, usual_budget, usual_turn}
use Rattle.ig_command.specs.Commands.{run_in, listing_in, question_in, for_grammar, for_forest, for_trees, for_query, for_load, for_batch, for_verify}
use Rattle.ig_command.specs.Laws.{AreBatchNumbers, BatchNumbersAreSome}
use Rattle.ig_command.specs.Rows.{asked, names_of, row_of}
use Rattle.ig_command.specs.declared.rows.Row.{Row}
use Rattle.ig_command.specs.declared.rows.Row.TheVariants as rows
use Rattle.ig_command.proofs.Requests.{table}
use Rattle.ig_queue.specs.declared.order.Order.{Order}

-- a load has a lawful size, and a batch lawful numbers
abbrev Fits : Request → Type 0
Fits (load size number budget) = size ≤ most_size
Fits (batch l budget turn) = AreBatchNumbers budget turn
Fits request = Unit {0}

-- so does what was found
abbrev AllFit : Option Request → Type 0
AllFit found = (r : Request) → found ≡ Some r → Fits r

none_fits : AllFit None
none_fits r e = absurd (cc)

some_fits : (q : Request) → Fits q → AllFit (Some q)
some_fits q fits r e = subst Fits (same_Some q r e) fits

found_fits : {A : Type 0} (f : A → Request) (found : Option A) → ((x : A) → found ≡ Some x → Fits (f x)) → AllFit (option_map f found)
found_fits f None fits = none_fits
found_fits f (Some x) fits = some_fits (f x) (fits x refl)

mapped_fits : {A : Type 0} (f : A → Request) (found : Option A) → ((x : A) → Fits (f x)) → AllFit (option_map f found)
mapped_fits f found fits = found_fits f found (λ x e. fits x)

then_fits : {A : Type 0} (f : A → Option Request) (found : Option A) → ((x : A) → found ≡ Some x → AllFit (f x)) →
    AllFit (option_and_then f found)
then_fits f None fits = none_fits
then_fits f (Some x) fits = fits x refl

chosen_fits : (b : Bool) (found : Option Request) → AllFit found → AllFit (if b then found else None)
chosen_fits true found fits = fits
chosen_fits false found fits = none_fits

-- a number that was read is no less than the least, and no greater than the greatest
abbrev IsWithin : ℕ → ℕ → ℕ → Type 0
IsWithin least most n = (least ≤ n) × (n ≤ most)

middle_true : (a b c : Bool) → (a && (b && c)) ≡ true → b ≡ true
middle_true true true c e = refl
middle_true true false c e = e
middle_true false b c e = absurd (cc)

last_true : (a b c : Bool) → (a && (b && c)) ≡ true → c ≡ true
last_true true true c e = e
last_true true false c e = absurd (cc)
last_true false b c e = absurd (cc)

picked : (b : Bool) (v n least most : ℕ) → (b ≡ true → IsWithin least most v) → (if b then Some v else None) ≡ Some n →
    IsWithin least most n
picked true v n least most fits e = subst (IsWithin least most) (same_Some v n e) (fits refl)
picked false v n least most fits e = absurd (cc)

within : (v most : ℕ) → nat_le v most ≡ true → v ≤ most
within v most e = grind (arith, nat_tests)

number_fits : (least most n : ℕ) (digits : List ℕ) → number_of least most digits ≡ Some n → IsWithin least most n
number_fits least most n digits e =
    picked (list_all is_digit digits && (nat_le least (spelled 0 digits) && nat_le (spelled 0 digits) most)) (spelled 0 digits) n least most
    (λ h. (
      within least (spelled 0 digits) (middle_true (list_all is_digit digits) (nat_le least (spelled 0 digits)) _ h),
      within (spelled 0 digits) most (last_true (list_all is_digit digits) (nat_le least (spelled 0 digits)) _ h),
    )) e

-- so is that of an option with a usual one between them
option_fits : (usual least most n : ℕ) → IsWithin least most usual → (value : Option (Option (List ℕ))) →
    option_and_then (number_or usual least most) value ≡ Some n → IsWithin least most n
option_fits usual least most n fits None e = absurd (cc)
option_fits usual least most n fits (Some None) e = subst (IsWithin least most) (same_Some usual n e) fits
option_fits usual least most n fits (Some (Some digits)) e = number_fits least most n digits e

-- a run has the budget
of_budget : (b : Option ℕ) (o : Option Order) (n : ℕ) → run_with b o ≡ Some n → b ≡ Some n
of_budget None o n e = absurd (cc)
of_budget (Some m) None n e = absurd (cc)
of_budget (Some m) (Some o) n e = e

grammar_fits : (ask : Source → Request) (words : List (List ℕ)) (options : List Setting) → ((g : Source) → Fits (ask g)) →
    AllFit (for_grammar ask words options)
grammar_fits ask [] options fits = none_fits
grammar_fits ask (g ∷ []) options fits = mapped_fits ask (source_in g options) fits
grammar_fits ask (g ∷ h ∷ others) options fits = none_fits

forest_fits : (words : List (List ℕ)) (options : List Setting) → AllFit (for_forest words options)
forest_fits [] options = none_fits
forest_fits (g ∷ []) options = none_fits
forest_fits (g ∷ i ∷ []) options =
    then_fits (λ (s : Source). option_map (forest s i) (run_in options)) (source_in g options)
    (λ s found. mapped_fits (forest s i) (run_in options) (λ b. tt))
forest_fits (g ∷ i ∷ h ∷ others) options = none_fits

trees_fit : (words : List (List ℕ)) (options : List Setting) → AllFit (for_trees words options)
trees_fit [] options = none_fits
trees_fit (g ∷ []) options = none_fits
trees_fit (g ∷ i ∷ []) options =
    then_fits (λ (s : Source). option_and_then (λ (b : ℕ). option_map (trees s i b) (listing_in options)) (run_in options))
    (source_in g options)
    (λ s is. then_fits (λ (b : ℕ). option_map (trees s i b) (listing_in options)) (run_in options)
    (λ b found. mapped_fits (trees s i b) (listing_in options) (λ l. tt)))
trees_fit (g ∷ i ∷ h ∷ others) options = none_fits

query_fits : (words : List (List ℕ)) (options : List Setting) → AllFit (for_query words options)
query_fits [] options = none_fits
query_fits (g ∷ []) options = none_fits
query_fits (g ∷ i ∷ []) options =
    then_fits (λ (s : Source). option_and_then (λ (b : ℕ). option_map (query s i b) (question_in options)) (run_in options))
    (source_in g options)
    (λ s is. then_fits (λ (b : ℕ). option_map (query s i b) (question_in options)) (run_in options)
    (λ b found. mapped_fits (query s i b) (question_in options) (λ q. tt)))
query_fits (g ∷ i ∷ h ∷ others) options = none_fits

load_fits : (words : List (List ℕ)) (options : List Setting) → AllFit (for_load words options)
load_fits [] options = none_fits
load_fits (s ∷ []) options = none_fits
load_fits (s ∷ n ∷ []) options =
    then_fits (λ (size : ℕ). option_and_then (λ (number : ℕ). option_map (load size number) (run_in options)) (number_of 0 most_number n))
    (number_of 1 most_size s)
    (λ size found.
    then_fits (λ (number : ℕ). option_map (load size number) (run_in options)) (number_of 0 most_number n)
    (λ number read. mapped_fits (load size number) (run_in options) (λ b. (number_fits 1 most_size size s found).1)))
load_fits (s ∷ n ∷ h ∷ others) options = none_fits

batch_fits : (words : List (List ℕ)) (options : List Setting) → AllFit (for_batch words options)
batch_fits [] options = none_fits
batch_fits (l ∷ []) options =
    then_fits (λ (b : ℕ). option_map (batch l b) (turn_in options)) (run_with (budget_in options) (list_order_in options))
    (λ b found. found_fits (batch l b) (turn_in options)
    (λ t told.
    let budget : IsWithin 1 most_budget b =
    option_fits usual_budget 1 most_budget b (omega arith, omega arith) (option_in (codes "budget") options)
    (of_budget (budget_in options) (list_order_in options) b found) in
    let turn : IsWithin 1 most_turn t = option_fits usual_turn 1 most_turn t (omega arith, omega arith) (option_in (codes "turn") options) told in
    record { some_items = budget.0; few_items = budget.1; some_events = turn.0; few_events = turn.1 }))
batch_fits (l ∷ h ∷ others) options = none_fits

verify_fits : (words : List (List ℕ)) (options : List Setting) → AllFit (for_verify words options)
verify_fits [] options = none_fits
verify_fits (g ∷ []) options = none_fits
verify_fits (g ∷ i ∷ []) options = none_fits
verify_fits (g ∷ i ∷ f ∷ []) options = mapped_fits (λ s. verify s i f) (source_in g options) (λ s. tt)
verify_fits (g ∷ i ∷ f ∷ h ∷ others) options = none_fits

asked_fits : (r : Row) (words : List (List ℕ)) (options : List Setting) → AllFit (asked r words options)
asked_fits rows.Check words options = grammar_fits check words options (λ g. tt)
asked_fits rows.Show words options = grammar_fits show words options (λ g. tt)
asked_fits rows.Core words options = grammar_fits core words options (λ g. tt)
asked_fits rows.Forest words options = forest_fits words options
asked_fits rows.Trees words options = trees_fit words options
asked_fits rows.Query words options = query_fits words options
asked_fits rows.Load words options = load_fits words options
asked_fits rows.Batch words options = batch_fits words options
asked_fits rows.Verify words options = verify_fits words options
asked_fits rows.Analyse words options = grammar_fits analyse words options (λ g. tt)

named_fits : (name : List ℕ) (p : Parts) → AllFit (request_with name p)
named_fits name p r e =
    then_fits (λ (q : Row). row (names_of q) (asked q) p) (row_of name)
    (λ q found. chosen_fits (are_among (names_of q) p.options) (asked q p.positional p.options) (asked_fits q p.positional p.options))
    r (sym (table name p) ∙ e)

command_fits : (words : List (List ℕ)) → AllFit (request_of words)
command_fits [] = none_fits
command_fits (name ∷ words) = then_fits (request_with name) (parts_of words) (λ p found. named_fits name p)

pub size_fits : (words : List (List ℕ)) (size number budget : ℕ) → IsCommand words (load size number budget) → size ≤ most_size
size_fits words size number budget command = command_fits words (load size number budget) command

pub numbers_fit : BatchNumbersAreSome
numbers_fit words l budget turn command = command_fits words (batch l budget turn) command
