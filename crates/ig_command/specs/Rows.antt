-- The rows of the table of commands, each as a command of `clap`.
use Rattle.std.specs.Prelude.{◌≡◌, ◌||◌, ◌&&◌, ℕ, Bool, true, false, not, if◌then◌else◌, List, [], ◌∷◌, ◌++◌, drop, length, map, Option, Some, None, is_some, option_map, option_and_then, codes}
use Rattle.std.specs.List.{list_all, list_any, after_first}
use Rattle.clap.specs.Words.{App, Rule, new_app, new_rule, first_value, found_of}
use Rattle.clap.specs.declared.parser.matches.ArgMatches.{ArgMatches}
use Rattle.ig_text.specs.Words.{is_word}
use Rattle.ig_command.specs.Words.{Parts, Setting, is_equals, is_long, is_value}
use Rattle.ig_command.specs.Commands.{Listing, Question, Request, are_among, for_batch, for_forest, for_grammar, for_load, for_query, for_trees, for_verify, listed, listing_with, most_budget, most_count, most_depth, most_number, most_size, most_turn, number_if, number_of, number_or, notation_with, option_in, order_with, question_with, run_with, source, Source, usual_budget, usual_count, usual_turn}
use Rattle.ig_command.specs.Commands.{check, show, core, forest, trees, query, load, batch, verify, analyse}
use Rattle.ig_command.specs.declared.command.Notation.{Notation}
use Rattle.ig_command.specs.declared.rows.Row.{Row}
use Rattle.ig_command.specs.declared.rows.Row.TheVariants as rows
use Rattle.ig_queue.specs.declared.order.Order.{Order}

-- the row of the command of this name
abbrev pub row_of : List ℕ → Option Row
row_of name =
    if is_word name (codes "check") then Some rows.Check
    else (if is_word name (codes "show") then Some rows.Show
    else (if is_word name (codes "core") then Some rows.Core
    else (if is_word name (codes "forest") then Some rows.Forest
    else (if is_word name (codes "trees") then Some rows.Trees
    else (if is_word name (codes "query") then Some rows.Query
    else (if is_word name (codes "load") then Some rows.Load
    else (if is_word name (codes "batch") then Some rows.Batch
    else (if is_word name (codes "verify") then Some rows.Verify
    else (if is_word name (codes "analyse") then Some rows.Analyse else None)))))))))

-- the ids of its positional words, in order
abbrev pub places_of : Row → List (List ℕ)
places_of rows.Check = codes "G" ∷ []
places_of rows.Show = codes "G" ∷ []
places_of rows.Core = codes "G" ∷ []
places_of rows.Forest = codes "G" ∷ codes "I" ∷ []
places_of rows.Trees = codes "G" ∷ codes "I" ∷ []
places_of rows.Query = codes "G" ∷ codes "I" ∷ []
places_of rows.Load = codes "SIZE" ∷ codes "NUMBER" ∷ []
places_of rows.Batch = codes "F" ∷ []
places_of rows.Verify = codes "G" ∷ codes "I" ∷ codes "F" ∷ []
places_of rows.Analyse = codes "G" ∷ []

-- the names of its options
abbrev pub names_of : Row → List (List ℕ)
names_of rows.Check = codes "notation" ∷ []
names_of rows.Show = codes "notation" ∷ []
names_of rows.Core = codes "notation" ∷ []
names_of rows.Forest = codes "notation" ∷ codes "budget" ∷ codes "order" ∷ []
names_of rows.Trees = codes "notation" ∷ codes "budget" ∷ codes "order" ∷ codes "depth" ∷ codes "count" ∷ codes "after" ∷ []
names_of rows.Query = codes "notation" ∷ codes "budget" ∷ codes "order" ∷ codes "what" ∷ codes "name" ∷ []
names_of rows.Load = codes "budget" ∷ codes "order" ∷ []
names_of rows.Batch = codes "budget" ∷ codes "order" ∷ codes "turn" ∷ []
names_of rows.Verify = codes "notation" ∷ []
names_of rows.Analyse = codes "notation" ∷ []

-- what its parts ask for
abbrev pub asked : Row → List (List ℕ) → List Setting → Option Request
asked rows.Check = for_grammar check
asked rows.Show = for_grammar show
asked rows.Core = for_grammar core
asked rows.Forest = for_forest
asked rows.Trees = for_trees
asked rows.Query = for_query
asked rows.Load = for_load
asked rows.Batch = for_batch
asked rows.Verify = for_verify
asked rows.Analyse = for_grammar analyse

-- a positional word that has to stand, and an option, as arguments of `clap`
abbrev pub place : List ℕ → Rule
place id = record (new_rule id) { required = true }

abbrev pub option : List ℕ → Rule
option name = record (new_rule name) { long = Some name }

-- a command of `clap` with these arguments, and no flags of its own
abbrev pub app_with : List Rule → App
app_with arguments =
    let a = new_app (codes "iguana") in
    record a { top = record a.top { rules = arguments; no_binary_name = true; disable_help_flag = true } }

abbrev pub app_for : Row → App
app_for r = app_with (map place (places_of r) ++ map option (names_of r))

-- the value that is found by an id, for each id
abbrev pub Finds : Type 0
Finds = List ℕ → Option (List ℕ)

abbrev pub notation_found : Finds → Option Notation
notation_found find = notation_with (find (codes "notation"))

-- the grammar's file, in this notation
abbrev pub source_of : Option Notation → Option (List ℕ) → Option Source
source_of written file = option_and_then (λ g. option_map (source g) written) file

abbrev pub source_found : Finds → Option Source
source_found find = source_of (notation_found find) (find (codes "G"))

-- what the parts ask for, by the values that were found
abbrev pub for_one : (Source → Request) → Finds → Option Request
for_one ask find = option_map ask (source_found find)

abbrev pub with_both : {A : Type 0} → (A → List ℕ → Option Request) → Option A → Option (List ℕ) → Option Request
with_both ask first second = option_and_then (λ a. option_and_then (ask a) second) first

abbrev pub with_three : (Source → List ℕ → List ℕ → Option Request) → Option Source → Option (List ℕ) → Option (List ℕ) → Option Request
with_three ask first second third = option_and_then (λ a. option_and_then (λ b. option_and_then (ask a b) third) second) first

abbrev pub budget_found : Finds → Option ℕ
budget_found find = number_or usual_budget 1 most_budget (find (codes "budget"))

abbrev pub order_found : Finds → Option Order
order_found find = order_with (find (codes "order"))

abbrev pub run_found : Finds → Option ℕ
run_found find = run_with (budget_found find) (order_found find)

abbrev pub list_order_found : Finds → Option Order
list_order_found find = option_and_then listed (order_found find)

abbrev pub turn_found : Finds → Option ℕ
turn_found find = number_or usual_turn 1 most_turn (find (codes "turn"))

abbrev pub count_found : Finds → Option ℕ
count_found find = number_or usual_count 1 most_count (find (codes "count"))

abbrev pub listing_found : Finds → Option Listing
listing_found find =
    listing_with (number_if 0 most_depth (find (codes "depth"))) (count_found find) (Some (find (codes "after")))

abbrev pub question_found : Finds → Option Question
question_found find = question_with (find (codes "name")) (find (codes "what"))

abbrev pub found_request : Row → Finds → Option Request
found_request rows.Check find = for_one check find
found_request rows.Show find = for_one show find
found_request rows.Core find = for_one core find
found_request rows.Forest find =
    with_both (λ g i. option_map (forest g i) (run_found find)) (source_found find) (find (codes "I"))
found_request rows.Trees find =
    with_both (λ g i. option_and_then (λ budget. option_map (trees g i budget) (listing_found find)) (run_found find))
    (source_found find) (find (codes "I"))
found_request rows.Query find =
    with_both (λ g i. option_and_then (λ budget. option_map (query g i budget) (question_found find)) (run_found find))
    (source_found find) (find (codes "I"))
found_request rows.Load find =
    with_both (λ size number. option_and_then (λ s. option_and_then (λ n. option_map (load s n) (run_found find))
    (number_of 0 most_number number)) (number_of 1 most_size size)) (find (codes "SIZE")) (find (codes "NUMBER"))
found_request rows.Batch find =
    option_and_then (λ list. option_and_then (λ budget. option_map (batch list budget) (turn_found find))
    (run_with (budget_found find) (list_order_found find))) (find (codes "F"))
found_request rows.Verify find =
    with_three (λ g i f. Some (verify g i f)) (source_found find) (find (codes "I")) (find (codes "F"))
found_request rows.Analyse find = for_one analyse find

-- the order in which the row's command runs, where it does
abbrev pub order_for : Row → Finds → Option Order
order_for rows.Forest find = order_found find
order_for rows.Trees find = order_found find
order_for rows.Query find = order_found find
order_for rows.Load find = order_found find
order_for rows.Batch find = list_order_found find
order_for r find = None

abbrev pub is_empty : List ℕ → Bool
is_empty [] = true
is_empty (c ∷ cs) = false

-- a word that `clap` reads as the definition of commands does: a value, or `--` and more, where what is behind an `=` is a value
abbrev pub may_stand : List ℕ → Bool
may_stand word =
    is_value word || (is_long word
    && (if list_any is_equals (drop 2 word) then is_value (after_first is_equals (drop 2 word)) else not (is_empty (drop 2 word))))

-- the values that were found are those of the parts
pub record HasParts (places names : List (List ℕ)) (find : Finds) (parts : Parts) : Type 0 where
  pub among : are_among names parts.options ≡ true
  pub files : map find places ≡ map Some parts.positional
  pub options : (name : List ℕ) → list_any (is_word name) names ≡ true → option_in name parts.options ≡ Some (find name)

-- the parts have an option that the row lacks, or too few or too many positional words, or an option twice
abbrev pub IsRefused : List (List ℕ) → List (List ℕ) → Parts → Type 0
IsRefused places names parts =
    are_among names parts.options ≡ true → length parts.positional ≡ length places →
    list_all (λ name. is_some (option_in name parts.options)) names ≡ false

-- the matches, or none, are those of the parts
abbrev pub Answers : Row → Option Parts → Option ArgMatches → Type 0
Answers r parts None = (p : Parts) → parts ≡ Some p → IsRefused (places_of r) (names_of r) p
Answers r parts (Some m) = (p : Parts) × (parts ≡ Some p) × HasParts (places_of r) (names_of r) (first_value (found_of m)) p
