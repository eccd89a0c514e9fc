-- Which words are a command.
use Rattle.std.specs.Prelude.{◌≡◌, ℕ, ◌&&◌, nat_le, Bool, if◌then◌else◌, List, [], ◌∷◌, Option, Some, None, option_map, option_and_then, codes}
use Rattle.std.specs.List.{list_all, list_any}
use Rattle.std.specs.Option.{option_copied}
use Rattle.ig_text.specs.Words.{is_word, is_digit}
use Rattle.ig_expr.specs.Reading.{spelled}
use Rattle.ig_command.specs.Words.{Setting, Parts, parts_of}
use Rattle.ig_command.specs.declared.command.Command.{Command}
use Rattle.ig_command.specs.declared.command.Command.TheVariants as stored
use Rattle.ig_command.specs.declared.command.Listing.{Listing as StoredListing}
use Rattle.ig_command.specs.declared.command.Question.{Question as StoredQuestion}
use Rattle.ig_command.specs.declared.command.Question.TheVariants as asks
use Rattle.ig_command.specs.declared.command.Notation.{Notation}
use Rattle.ig_command.specs.declared.command.Notation.TheVariants as notation
use Rattle.ig_command.specs.declared.command.Source.{Source as StoredSource}
use Rattle.ig_command.specs.declared.command.WorkList.{WorkList}
use Rattle.ig_command.specs.declared.command.WorkList.TheVariants as lists
use Rattle.ig_queue.specs.declared.order.Order.{Order}
use Rattle.ig_queue.specs.declared.order.Order.TheVariants as orders

-- the file of a grammar, by its name, and the notation of its text
pub record Source : Type 0 where
  pub name : List ℕ
  pub written : Notation

abbrev pub source : List ℕ → Notation → Source
source file n = record { name = file; written = n }

-- which trees are listed: those up to a height, or all; so many at most; those behind a cursor, or from the first on
pub record Listing : Type 0 where
  pub depth : Option ℕ
  pub count : ℕ
  pub after : Option (List ℕ)

-- what is asked of a forest
pub data Question : Type 0 where
  -- whether there are two trees, and where they differ
  ambiguous : Question
  -- whether there is a higher tree than each
  cyclic : Question
  -- the spans of the declaration of this name, or of the start symbol
  spans : (name : Option (List ℕ)) → Question
  -- how far the input was read
  report : Question

-- what a command asks for, with the names of its files
pub data Request : Type 0 where
  -- that the grammar is checked
  check : (grammar : Source) → Request
  -- the canonical text of the grammar
  show : (grammar : Source) → Request
  -- the text of its core grammar
  core : (grammar : Source) → Request
  -- the forest of the grammar and the input, where no more items than the budget are reachable
  forest : (grammar : Source) (input : List ℕ) (budget : ℕ) → Request
  -- its trees
  trees : (grammar : Source) (input : List ℕ) (budget : ℕ) (listing : Listing) → Request
  -- an answer from it
  query : (grammar : Source) (input : List ℕ) (budget : ℕ) (question : Question) → Request
  -- the numbers of the forest of a grammar and an input that are made
  load : (size number budget : ℕ) → Request
  -- what comes of each job of a list, which take turns of so many events, where no more items than the budget are reachable in it
  batch : (list : List ℕ) (budget turn : ℕ) → Request
  -- that a forest of the grammar and the input is checked, which its text tells
  verify : (grammar : Source) (input text : List ℕ) → Request
  -- the facts of the grammar's nonterminals
  analyse : (grammar : Source) → Request

-- the names of the files that a command's words name, the grammar's first
abbrev pub files_of : Request → List (List ℕ)
files_of (check grammar) = grammar.name ∷ []
files_of (show grammar) = grammar.name ∷ []
files_of (core grammar) = grammar.name ∷ []
files_of (forest grammar input budget) = grammar.name ∷ input ∷ []
files_of (trees grammar input budget listing) = grammar.name ∷ input ∷ []
files_of (query grammar input budget question) = grammar.name ∷ input ∷ []
files_of (load size number budget) = []
files_of (batch list budget turn) = list ∷ []
files_of (verify grammar input text) = grammar.name ∷ input ∷ text ∷ []
files_of (analyse grammar) = grammar.name ∷ []

-- the file of the grammar, where the words name one
abbrev pub grammar_file : Request → Option Source
grammar_file (check grammar) = Some grammar
grammar_file (show grammar) = Some grammar
grammar_file (core grammar) = Some grammar
grammar_file (forest grammar input budget) = Some grammar
grammar_file (trees grammar input budget listing) = Some grammar
grammar_file (query grammar input budget question) = Some grammar
grammar_file (load size number budget) = None
grammar_file (batch list budget turn) = None
grammar_file (verify grammar input text) = Some grammar
grammar_file (analyse grammar) = Some grammar

-- the name of the input, where the words name one
abbrev pub input_file : Request → Option (List ℕ)
input_file (check grammar) = None
input_file (show grammar) = None
input_file (core grammar) = None
input_file (forest grammar input budget) = Some input
input_file (trees grammar input budget listing) = Some input
input_file (query grammar input budget question) = Some input
input_file (load size number budget) = None
input_file (batch list budget turn) = None
input_file (verify grammar input text) = Some input
input_file (analyse grammar) = None

-- the limits of numbers, and the numbers that are meant where an option doesn't stand
abbrev pub usual_budget : ℕ
usual_budget = 1000000

abbrev pub most_budget : ℕ
most_budget = 4000000

abbrev pub most_depth : ℕ
most_depth = 1000000

abbrev pub usual_count : ℕ
usual_count = 20

abbrev pub most_count : ℕ
most_count = 100000

abbrev pub most_size : ℕ
most_size = 4000

abbrev pub usual_turn : ℕ
usual_turn = 1000

abbrev pub most_turn : ℕ
most_turn = 1000000

abbrev pub most_number : ℕ
most_number = 18446744073709551615

-- the number that digits spell, from the least to the most
abbrev pub number_of : ℕ → ℕ → List ℕ → Option ℕ
number_of least most digits =
    if list_all is_digit digits && (nat_le least (spelled 0 digits) && nat_le (spelled 0 digits) most) then Some (spelled 0 digits)
    else None

-- the values of the options of this name
abbrev pub values_of : List ℕ → List Setting → List (List ℕ)
values_of name [] = []
values_of name (option ∷ options) =
    if is_word option.name name then option.value ∷ values_of name options else values_of name options

-- the value of an option that stands once at most
abbrev pub once : List (List ℕ) → Option (Option (List ℕ))
once [] = Some None
once (value ∷ []) = Some (Some value)
once (value ∷ next ∷ others) = None

abbrev pub option_in : List ℕ → List Setting → Option (Option (List ℕ))
option_in name options = once (values_of name options)

-- the number of an option; the usual one where it doesn't stand
abbrev pub number_or : ℕ → ℕ → ℕ → Option (List ℕ) → Option ℕ
number_or usual least most None = Some usual
number_or usual least most (Some digits) = number_of least most digits

-- the number of an option that has no usual one
abbrev pub number_if : ℕ → ℕ → Option (List ℕ) → Option (Option ℕ)
number_if least most None = Some None
number_if least most (Some digits) = option_map Some (number_of least most digits)

abbrev pub budget_in : List Setting → Option ℕ
budget_in options = option_and_then (number_or usual_budget 1 most_budget) (option_in (codes "budget") options)

abbrev pub depth_in : List Setting → Option (Option ℕ)
depth_in options = option_and_then (number_if 0 most_depth) (option_in (codes "depth") options)

abbrev pub count_in : List Setting → Option ℕ
count_in options = option_and_then (number_or usual_count 1 most_count) (option_in (codes "count") options)

abbrev pub turn_in : List Setting → Option ℕ
turn_in options = option_and_then (number_or usual_turn 1 most_turn) (option_in (codes "turn") options)

abbrev pub listing_with : Option (Option ℕ) → Option ℕ → Option (Option (List ℕ)) → Option Listing
listing_with depth count after =
    option_and_then (λ d. option_and_then (λ n. option_map (λ a. record { depth = d; count = n; after = a }) after) count) depth

abbrev pub listing_in : List Setting → Option Listing
listing_in options = listing_with (depth_in options) (count_in options) (option_in (codes "after") options)

-- the question that `--what` names; only that for spans looks at `--name`
abbrev pub question_with : Option (List ℕ) → Option (List ℕ) → Option Question
question_with name None = Some ambiguous
question_with name (Some what) =
    if is_word what (codes "ambiguous") then Some ambiguous
    else (if is_word what (codes "cyclic") then Some cyclic
    else (if is_word what (codes "spans") then Some (spans name)
    else (if is_word what (codes "report") then Some report else None)))

abbrev pub question_in : List Setting → Option Question
question_in options =
    option_and_then (λ name. option_and_then (question_with name) (option_in (codes "what") options)) (option_in (codes "name") options)

-- the notation that `--notation` names; the own one where it doesn't stand
abbrev pub notation_with : Option (List ℕ) → Option Notation
notation_with None = Some notation.Own
notation_with (Some word) =
    if is_word word (codes "own") then Some notation.Own
    else (if is_word word (codes "w3c") then Some notation.W3c else None)

abbrev pub notation_in : List Setting → Option Notation
notation_in options = option_and_then notation_with (option_in (codes "notation") options)

-- the order that `--order` names; oldest first where it doesn't stand
abbrev pub order_with : Option (List ℕ) → Option Order
order_with None = Some orders.Fifo
order_with (Some word) =
    if is_word word (codes "fifo") then Some orders.Fifo
    else (if is_word word (codes "lifo") then Some orders.Lifo
    else (if is_word word (codes "lowest") then Some orders.Lowest
    else (if is_word word (codes "plain") then Some orders.Plain else None)))

abbrev pub order_in : List Setting → Option Order
order_in options = option_and_then order_with (option_in (codes "order") options)

-- the budget of a run, where its order is one
abbrev pub run_with : Option ℕ → Option Order → Option ℕ
run_with budget order = option_and_then (λ n. option_map (λ o. n) order) budget

abbrev pub run_in : List Setting → Option ℕ
run_in options = run_with (budget_in options) (order_in options)

-- an order that keeps a work list
abbrev pub listed : Order → Option Order
listed orders.Fifo = Some orders.Fifo
listed orders.Lifo = Some orders.Lifo
listed orders.Lowest = Some orders.Lowest
listed orders.Plain = None

abbrev pub list_order_in : List Setting → Option Order
list_order_in options = option_and_then listed (order_in options)

-- the grammar in the file of this name
abbrev pub source_in : List ℕ → List Setting → Option Source
source_in file options = option_map (source file) (notation_in options)

-- the requests of a command's positional words and options
abbrev pub for_grammar : (Source → Request) → List (List ℕ) → List Setting → Option Request
for_grammar ask (grammar ∷ []) options = option_map ask (source_in grammar options)
for_grammar ask words options = None

abbrev pub for_forest : List (List ℕ) → List Setting → Option Request
for_forest (grammar ∷ input ∷ []) options =
    option_and_then (λ g. option_map (forest g input) (run_in options)) (source_in grammar options)
for_forest words options = None

abbrev pub for_trees : List (List ℕ) → List Setting → Option Request
for_trees (grammar ∷ input ∷ []) options =
    option_and_then (λ g. option_and_then (λ budget. option_map (trees g input budget) (listing_in options)) (run_in options))
    (source_in grammar options)
for_trees words options = None

abbrev pub for_query : List (List ℕ) → List Setting → Option Request
for_query (grammar ∷ input ∷ []) options =
    option_and_then (λ g. option_and_then (λ budget. option_map (query g input budget) (question_in options)) (run_in options))
    (source_in grammar options)
for_query words options = None

abbrev pub for_load : List (List ℕ) → List Setting → Option Request
for_load (size ∷ number ∷ []) options =
    option_and_then (λ s. option_and_then (λ n. option_map (load s n) (run_in options))
    (number_of 0 most_number number)) (number_of 1 most_size size)
for_load words options = None

abbrev pub for_batch : List (List ℕ) → List Setting → Option Request
for_batch (list ∷ []) options =
    option_and_then (λ budget. option_map (batch list budget) (turn_in options))
    (run_with (budget_in options) (list_order_in options))
for_batch words options = None

abbrev pub for_verify : List (List ℕ) → List Setting → Option Request
for_verify (grammar ∷ input ∷ text ∷ []) options =
    option_map (λ g. verify g input text) (source_in grammar options)
for_verify words options = None

-- each option has one of the names
abbrev pub are_among : List (List ℕ) → List Setting → Bool
are_among names options = list_all (λ option. list_any (is_word option.name) names) options

-- a row of the table of commands: the options that may stand, and what the parts ask for
abbrev pub row : List (List ℕ) → (List (List ℕ) → List Setting → Option Request) → Parts → Option Request
row names ask parts = if are_among names parts.options then ask parts.positional parts.options else None

-- the table of commands
abbrev pub request_with : List ℕ → Parts → Option Request
request_with name =
    if is_word name (codes "check") then row (codes "notation" ∷ []) (for_grammar check)
    else (if is_word name (codes "show") then row (codes "notation" ∷ []) (for_grammar show)
    else (if is_word name (codes "core") then row (codes "notation" ∷ []) (for_grammar core)
    else (if is_word name (codes "forest") then row (codes "notation" ∷ codes "budget" ∷ codes "order" ∷ []) for_forest
    else (if is_word name (codes "trees")
    then row (codes "notation" ∷ codes "budget" ∷ codes "order" ∷ codes "depth" ∷ codes "count" ∷ codes "after" ∷ []) for_trees
    else (if is_word name (codes "query")
    then row (codes "notation" ∷ codes "budget" ∷ codes "order" ∷ codes "what" ∷ codes "name" ∷ []) for_query
    else (if is_word name (codes "load") then row (codes "budget" ∷ codes "order" ∷ []) for_load
    else (if is_word name (codes "batch") then row (codes "budget" ∷ codes "order" ∷ codes "turn" ∷ []) for_batch
    else (if is_word name (codes "verify") then row (codes "notation" ∷ []) for_verify
    else (if is_word name (codes "analyse") then row (codes "notation" ∷ []) (for_grammar analyse)
    else (λ parts. None))))))))))

-- the request of the words: first the name of a command, then positional words and options in any order; none exactly where
-- they are no command
abbrev pub request_of : List (List ℕ) → Option Request
request_of [] = None
request_of (name ∷ words) = option_and_then (request_with name) (parts_of words)

-- the words are the command
abbrev pub IsCommand : List (List ℕ) → Request → Type 0
IsCommand words request = request_of words ≡ Some request

abbrev pub stored_listing : StoredListing → Listing
stored_listing l = record { depth = l.depth; count = l.count; after = option_copied l.after }

abbrev pub stored_question : StoredQuestion → Question
stored_question asks.Ambiguous = ambiguous
stored_question asks.Cyclic = cyclic
stored_question (asks.Spans name) = spans (option_copied name)
stored_question asks.Report = report

abbrev pub stored_source : StoredSource → Source
stored_source s = source s.name.now s.notation

-- what a stored command asks for
abbrev pub stored_request : Command → Request
stored_request (stored.Check grammar) = check (stored_source grammar)
stored_request (stored.Show grammar) = show (stored_source grammar)
stored_request (stored.Core grammar) = core (stored_source grammar)
stored_request (stored.Forest grammar input budget order) = forest (stored_source grammar) input.now budget
stored_request (stored.Trees grammar input budget order listing) = trees (stored_source grammar) input.now budget (stored_listing listing)
stored_request (stored.Query grammar input budget order question) = query (stored_source grammar) input.now budget (stored_question question)
stored_request (stored.Load size number budget order) = load size number budget
stored_request (stored.Batch list budget order turn) = batch list.now budget turn
stored_request (stored.Verify grammar input text) = verify (stored_source grammar) input.now text.now
stored_request (stored.Analyse grammar) = analyse (stored_source grammar)

-- the words are this command, or none
abbrev pub Reads : List (List ℕ) → Option Command → Type 0
Reads words None = (request : Request) → IsCommand words request → ⊥
Reads words (Some command) = IsCommand words (stored_request command)

-- the order of a stored work list
abbrev pub order_of_list : WorkList → Order
order_of_list lists.Fifo = orders.Fifo
order_of_list lists.Lifo = orders.Lifo
order_of_list lists.Lowest = orders.Lowest

-- the order in which a stored command runs, where it does
abbrev pub stored_order : Command → Option Order
stored_order (stored.Forest grammar input budget order) = Some order
stored_order (stored.Trees grammar input budget order listing) = Some order
stored_order (stored.Query grammar input budget order question) = Some order
stored_order (stored.Load size number budget order) = Some order
stored_order (stored.Batch list budget order turn) = Some (order_of_list order)
stored_order command = None

-- the order that the words name
abbrev pub order_of : List (List ℕ) → Option Order
order_of [] = None
order_of (name ∷ words) = option_and_then (λ parts. order_in parts.options) (parts_of words)

-- the command runs in the order that the words name, where it does
abbrev pub Orders : List (List ℕ) → Option Command → Type 0
Orders words None = Unit {0}
Orders words (Some command) = (order : Order) → stored_order command ≡ Some order → order_of words ≡ Some order
