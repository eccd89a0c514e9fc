-- What a row asks for, by the values that were found and by the parts of the words.
use Rattle.std.proofs.Common.{◌≡◌, ◌∙◌, ℕ, Bool, true, false, List, [], ◌∷◌, length, map, refl, sym, ap, ap₂, subst, Option, Some, None}
use Rattle.std.proofs.lemmas.Bool.{and_from, or_left}
use Rattle.std.specs.Prelude.{if◌then◌else◌, ◌&&◌, ◌||◌, not, IfSome, option_map, option_and_then, is_some, codes, drop}
use Rattle.std.specs.List.{list_all, list_any, after_first, before_first}
use Rattle.ig_text.specs.Words.{is_word}
use Rattle.ig_text.proofs.Booleans.{first_true, rest_true}
use Rattle.ig_text.proofs.Options.{mapped}
use Rattle.ig_command.specs.Words.{Parts, Setting, is_apart, is_equals, is_joined, is_long, is_value, no_parts, parts_of, with_positional, with_setting, word_before}
use Rattle.ig_command.specs.Commands.{Listing, Request, are_among, listing_with, number_if, number_of, number_or, option_in, question_with, request_of, request_with, row, most_budget, most_count, most_depth, most_number, most_size, usual_budget, usual_count, Source, source, source_in, notation_with, notation_in, order_with, order_in, order_of, run_with, run_in, listed, list_order_in, turn_in, usual_turn, most_turn, stored_order, Orders}
use Rattle.ig_command.specs.Commands.{check, show, core, forest, trees, query, load, batch, verify, analyse, for_batch, for_forest, for_grammar, for_load, for_query, for_trees, for_verify}
use Rattle.ig_command.specs.Commands.{Reads, budget_in, count_in, listing_in, question_in, stored_request}
use Rattle.ig_command.specs.Rows.{Answers, Finds, HasParts, IsRefused, asked, budget_found, listing_found, question_found, with_both, with_three, notation_found, order_found, list_order_found, turn_found, order_for, run_found, source_of, for_one, found_request, is_empty, may_stand, names_of, places_of, row_of}
use Rattle.clap.specs.Words.{first_value, found_of}
use Rattle.clap.specs.declared.parser.matches.ArgMatches.{ArgMatches}
use Rattle.ig_command.specs.declared.command.Command.{Command}
use Rattle.ig_command.specs.declared.command.Notation.{Notation}
use Rattle.ig_queue.specs.declared.order.Order.{Order}
use Rattle.ig_queue.specs.declared.order.Order.TheVariants as which
use Rattle.ig_command.specs.declared.rows.Row.{Row}
use Rattle.ig_command.specs.declared.rows.Row.TheVariants as rows

-- the table, by its rows
by_row : (name : List ℕ) (p : Parts) (a b c d e f g x v w : Bool) → is_word name (codes "check") ≡ a → is_word name (codes "show") ≡ b →
    is_word name (codes "core") ≡ c → is_word name (codes "forest") ≡ d → is_word name (codes "trees") ≡ e → is_word name (codes "query") ≡ f →
    is_word name (codes "load") ≡ g → is_word name (codes "batch") ≡ x → is_word name (codes "verify") ≡ v → is_word name (codes "analyse") ≡ w →
    request_with name p ≡ option_and_then (λ r. row (names_of r) (asked r) p) (row_of name)
by_row name p true b c d e f g x v w h i j k l m n u o q = rw h refl
by_row name p false true c d e f g x v w h i j k l m n u o q = rw (h, i) refl
by_row name p false false true d e f g x v w h i j k l m n u o q = rw (h, i, j) refl
by_row name p false false false true e f g x v w h i j k l m n u o q = rw (h, i, j, k) refl
by_row name p false false false false true f g x v w h i j k l m n u o q = rw (h, i, j, k, l) refl
by_row name p false false false false false true g x v w h i j k l m n u o q = rw (h, i, j, k, l, m) refl
by_row name p false false false false false false true x v w h i j k l m n u o q = rw (h, i, j, k, l, m, n) refl
by_row name p false false false false false false false true v w h i j k l m n u o q = rw (h, i, j, k, l, m, n, u) refl
by_row name p false false false false false false false false true w h i j k l m n u o q = rw (h, i, j, k, l, m, n, u, o) refl
by_row name p false false false false false false false false false true h i j k l m n u o q = rw (h, i, j, k, l, m, n, u, o, q) refl
by_row name p false false false false false false false false false false h i j k l m n u o q = rw (h, i, j, k, l, m, n, u, o, q) refl

pub table : (name : List ℕ) (p : Parts) → request_with name p ≡ option_and_then (λ r. row (names_of r) (asked r) p) (row_of name)
table name p = by_row name p _ _ _ _ _ _ _ _ _ _ refl refl refl refl refl refl refl refl refl refl

-- one positional word, and two
one_word : (x : Option (List ℕ)) (ys : List (List ℕ)) → x ∷ [] ≡ map Some ys → (y : List ℕ) × (x ≡ Some y) × (ys ≡ y ∷ [])
one_word x [] e = absurd (cc)
one_word x (y ∷ []) e = (y, (cc), refl)
one_word x (y ∷ z ∷ zs) e = absurd (cc)

two_words : (w x : Option (List ℕ)) (ys : List (List ℕ)) → w ∷ x ∷ [] ≡ map Some ys →
    (y : List ℕ) × (z : List ℕ) × (w ≡ Some y) × (x ≡ Some z) × (ys ≡ y ∷ z ∷ [])
two_words w x [] e = absurd (cc)
two_words w x (y ∷ []) e = absurd (cc)
two_words w x (y ∷ z ∷ []) e = (y, z, (cc), (cc), refl)
two_words w x (y ∷ z ∷ v ∷ vs) e = absurd (cc)

three_words : (v w x : Option (List ℕ)) (ys : List (List ℕ)) → v ∷ w ∷ x ∷ [] ≡ map Some ys →
    (a : List ℕ) × (b : List ℕ) × (c : List ℕ) × (v ≡ Some a) × (w ≡ Some b) × (x ≡ Some c) × (ys ≡ a ∷ b ∷ c ∷ [])
three_words v w x [] e = absurd (cc)
three_words v w x (a ∷ []) e = absurd (cc)
three_words v w x (a ∷ b ∷ []) e = absurd (cc)
three_words v w x (a ∷ b ∷ c ∷ []) e = (a, b, c, (cc), (cc), (cc), refl)
three_words v w x (a ∷ b ∷ c ∷ d ∷ ds) e = absurd (cc)

notation_same : (find : Finds) (options : List Setting) → option_in (codes "notation") options ≡ Some (find (codes "notation")) →
    notation_found find ≡ notation_in options
notation_same find options e = sym (ap (option_and_then notation_with) e)

one_file : (ask : Source → Request) (find : Finds) (words : List (List ℕ)) (options : List Setting) → find (codes "G") ∷ [] ≡ map Some words →
    notation_found find ≡ notation_in options → for_one ask find ≡ for_grammar ask words options
one_file ask find words options e n =
    let w = one_word (find (codes "G")) words e in
    ap₂ (λ k o. option_map ask (source_of k o)) n w.1 ∙ sym (ap (λ xs. for_grammar ask xs options) w.2)

-- with two positional words
two_files : {A : Type 0} (x y : Option (List ℕ)) (words : List (List ℕ)) → x ∷ y ∷ [] ≡ map Some words →
    (first : Option (List ℕ) → Option A) (ask : A → List ℕ → Option Request) (by_words : List (List ℕ) → Option Request) →
    ((g i : List ℕ) → with_both ask (first (Some g)) (Some i) ≡ by_words (g ∷ i ∷ [])) → with_both ask (first x) y ≡ by_words words
two_files x y words e first ask by_words same =
    let w = two_words x y words e in
    ap₂ (λ u v. with_both ask (first u) v) w.2 w.3 ∙ same w.0 w.1 ∙ sym (ap by_words w.4)

-- with three
three_files : (x y z : Option (List ℕ)) (n : Option Notation) (words : List (List ℕ)) (options : List Setting) → x ∷ y ∷ z ∷ [] ≡ map Some words →
    n ≡ notation_in options → with_three (λ g i f. Some (verify g i f)) (source_of n x) y z ≡ for_verify words options
three_files x y z n words options e same =
    let w = three_words x y z words e in
    ap (λ k. with_three (λ g i f. Some (verify g i f)) (source_of k x) y z) same ∙
    ap (λ o. with_three (λ g i f. Some (verify g i f)) (source_of (notation_in options) o) y z) w.3 ∙
    ap (λ o. with_three (λ g i f. Some (verify g i f)) (source_of (notation_in options) (Some w.0)) o z) w.4 ∙
    ap (λ o. with_three (λ g i f. Some (verify g i f)) (source_of (notation_in options) (Some w.0)) (Some w.1) o) w.5 ∙
    mapped_so (λ g. verify g w.1 w.2) (source_in w.0 options) ∙ sym (ap (λ xs. for_verify xs options) w.6)
  where
    mapped_so : (f : Source → Request) (o : Option Source) → option_and_then (λ g. Some (f g)) o ≡ option_map f o
    mapped_so f None = refl
    mapped_so f (Some g) = refl

budget_same : (find : Finds) (options : List Setting) → option_in (codes "budget") options ≡ Some (find (codes "budget")) →
    budget_found find ≡ budget_in options
budget_same find options e = sym (ap (option_and_then (number_or usual_budget 1 most_budget)) e)

order_same : (find : Finds) (options : List Setting) → option_in (codes "order") options ≡ Some (find (codes "order")) →
    order_found find ≡ order_in options
order_same find options e = sym (ap (option_and_then order_with) e)

run_same : (find : Finds) (options : List Setting) → option_in (codes "budget") options ≡ Some (find (codes "budget")) →
    option_in (codes "order") options ≡ Some (find (codes "order")) → run_found find ≡ run_in options
run_same find options b o = ap₂ run_with (budget_same find options b) (order_same find options o)

list_order_same : (find : Finds) (options : List Setting) → option_in (codes "order") options ≡ Some (find (codes "order")) →
    list_order_found find ≡ list_order_in options
list_order_same find options e = ap (option_and_then listed) (order_same find options e)

turn_same : (find : Finds) (options : List Setting) → option_in (codes "turn") options ≡ Some (find (codes "turn")) →
    turn_found find ≡ turn_in options
turn_same find options e = sym (ap (option_and_then (number_or usual_turn 1 most_turn)) e)

-- with the name of a list
one_list : (find : Finds) (words : List (List ℕ)) (options : List Setting) → find (codes "F") ∷ [] ≡ map Some words →
    run_with (budget_found find) (list_order_found find) ≡ run_with (budget_in options) (list_order_in options) → turn_found find ≡ turn_in options →
    found_request rows.Batch find ≡ for_batch words options
one_list find words options e run turn =
    let w = one_word (find (codes "F")) words e in
    ap₂ (λ b t. option_and_then (λ l. option_and_then (λ budget. option_map (batch l budget) t) b) (find (codes "F"))) run turn ∙
    ap (option_and_then (λ l. option_and_then (λ budget. option_map (batch l budget) (turn_in options))
    (run_with (budget_in options) (list_order_in options)))) w.1 ∙ sym (ap (λ xs. for_batch xs options) w.2)

listing_same : (find : Finds) (options : List Setting) → option_in (codes "depth") options ≡ Some (find (codes "depth")) →
    option_in (codes "count") options ≡ Some (find (codes "count")) → option_in (codes "after") options ≡ Some (find (codes "after")) →
    listing_found find ≡ listing_in options
listing_same find options d n a =
    sym (ap (λ z. listing_with z (count_in options) (option_in (codes "after") options)) (ap (option_and_then (number_if 0 most_depth)) d) ∙
    ap (λ z. listing_with (number_if 0 most_depth (find (codes "depth"))) z (option_in (codes "after") options))
    (ap (option_and_then (number_or usual_count 1 most_count)) n) ∙
    ap (listing_with (number_if 0 most_depth (find (codes "depth"))) (number_or usual_count 1 most_count (find (codes "count")))) a)

question_same : (find : Finds) (options : List Setting) → option_in (codes "what") options ≡ Some (find (codes "what")) →
    option_in (codes "name") options ≡ Some (find (codes "name")) → question_found find ≡ question_in options
question_same find options w n =
    sym (ap (option_and_then (λ name. option_and_then (question_with name) (option_in (codes "what") options))) n ∙
    ap (option_and_then (question_with (find (codes "name")))) w)

found_asked : (r : Row) (find : Finds) (p : Parts) → HasParts (places_of r) (names_of r) find p →
    found_request r find ≡ asked r p.positional p.options
found_asked rows.Check find p has =
    one_file check find p.positional p.options has.files (notation_same find p.options (has.options (codes "notation") refl))
found_asked rows.Show find p has =
    one_file show find p.positional p.options has.files (notation_same find p.options (has.options (codes "notation") refl))
found_asked rows.Core find p has =
    one_file core find p.positional p.options has.files (notation_same find p.options (has.options (codes "notation") refl))
found_asked rows.Forest find p has =
    two_files (find (codes "G")) (find (codes "I")) p.positional has.files (source_of (notation_found find))
    (λ g i. option_map (forest g i) (run_found find))
    (λ words. for_forest words p.options)
    (λ g i. ap₂ (λ n b. option_and_then (λ s. option_map (forest s i) b) (option_map (source g) n))
    (notation_same find p.options (has.options (codes "notation") refl))
    (run_same find p.options (has.options (codes "budget") refl) (has.options (codes "order") refl)))
found_asked rows.Trees find p has =
    two_files (find (codes "G")) (find (codes "I")) p.positional has.files (source_of (notation_found find))
    (λ g i. option_and_then (λ budget. option_map (trees g i budget) (listing_found find)) (run_found find))
    (λ words. for_trees words p.options)
    (λ g i. ap (λ n. option_and_then (λ s. option_and_then (λ budget. option_map (trees s i budget) (listing_found find)) (run_found find))
    (option_map (source g) n)) (notation_same find p.options (has.options (codes "notation") refl)) ∙
    ap₂ (λ l b. option_and_then (λ s. option_and_then (λ budget. option_map (trees s i budget) l) b) (source_in g p.options))
    (listing_same find p.options (has.options (codes "depth") refl) (has.options (codes "count") refl) (has.options (codes "after") refl))
    (run_same find p.options (has.options (codes "budget") refl) (has.options (codes "order") refl)))
found_asked rows.Query find p has =
    two_files (find (codes "G")) (find (codes "I")) p.positional has.files (source_of (notation_found find))
    (λ g i. option_and_then (λ budget. option_map (query g i budget) (question_found find)) (run_found find))
    (λ words. for_query words p.options)
    (λ g i. ap (λ n. option_and_then (λ s. option_and_then (λ budget. option_map (query s i budget) (question_found find)) (run_found find))
    (option_map (source g) n)) (notation_same find p.options (has.options (codes "notation") refl)) ∙
    ap₂ (λ q b. option_and_then (λ s. option_and_then (λ budget. option_map (query s i budget) q) b) (source_in g p.options))
    (question_same find p.options (has.options (codes "what") refl) (has.options (codes "name") refl))
    (run_same find p.options (has.options (codes "budget") refl) (has.options (codes "order") refl)))
found_asked rows.Load find p has =
    two_files (find (codes "SIZE")) (find (codes "NUMBER")) p.positional has.files (λ o. o)
    (λ size number. option_and_then (λ s. option_and_then (λ n. option_map (load s n) (run_found find))
    (number_of 0 most_number number)) (number_of 1 most_size size))
    (λ words. for_load words p.options)
    (λ size number. ap (λ b. option_and_then (λ s. option_and_then (λ n. option_map (load s n) b)
    (number_of 0 most_number number)) (number_of 1 most_size size)) (run_same find p.options (has.options (codes "budget") refl) (has.options (codes "order") refl)))
found_asked rows.Batch find p has =
    one_list find p.positional p.options has.files
    (ap₂ run_with (budget_same find p.options (has.options (codes "budget") refl))
    (list_order_same find p.options (has.options (codes "order") refl)))
    (turn_same find p.options (has.options (codes "turn") refl))
found_asked rows.Verify find p has =
    three_files (find (codes "G")) (find (codes "I")) (find (codes "F")) (notation_found find) p.positional p.options has.files
    (notation_same find p.options (has.options (codes "notation") refl))
found_asked rows.Analyse find p has =
    one_file analyse find p.positional p.options has.files (notation_same find p.options (has.options (codes "notation") refl))

row_asked : (r : Row) (find : Finds) (p : Parts) → HasParts (places_of r) (names_of r) find p →
    found_request r find ≡ row (names_of r) (asked r) p
row_asked r find p has =
    found_asked r find p has ∙ sym (ap (λ b. if b then asked r p.positional p.options else None) has.among)

-- an option that stands twice
abbrev pub no_request : Option Request
no_request = None

pub never : {A : Type 0} (o : Option A) → option_and_then (λ x. no_request) o ≡ None
never None = refl
never (Some x) = refl

abbrev Value : Type 0
Value = Option (Option (List ℕ))

pub none_each : {A : Type 0} (f : A → Option Request) (o : Option A) → ((x : A) → f x ≡ None) → option_and_then f o ≡ None
none_each f None h = refl
none_each f (Some x) h = h x

-- the notation stands twice, or what is asked of the grammar's file in it comes to nothing
in_it : (g : List ℕ) (ask : Source → Option Request) (n : Value) (rest : Bool) → (is_some n && rest) ≡ false →
    (rest ≡ false → (s : Source) → ask s ≡ None) →
    option_and_then ask (option_map (source g) (option_and_then notation_with n)) ≡ None
in_it g ask None rest e h = refl
in_it g ask (Some n) rest e h = none_each ask (option_map (source g) (notation_with n)) (h e)

grammar_twice : (g : List ℕ) (ask : Source → Request) (n : Value) → (is_some n && true) ≡ false →
    option_map ask (option_map (source g) (option_and_then notation_with n)) ≡ None
grammar_twice g ask None e = refl
grammar_twice g ask (Some n) e = absurd (cc)

-- a run of which the budget or the order stands twice has no budget
abbrev budget_of : Value → Option ℕ
budget_of b = option_and_then (number_or usual_budget 1 most_budget) b

abbrev ordered : Value → Value → Option ℕ
ordered b o = run_with (budget_of b) (option_and_then order_with o)

unordered : (b : Option ℕ) → run_with b None ≡ None
unordered None = refl
unordered (Some n) = refl

forest_twice : (g : Source) (i : List ℕ) (b o : Value) → (is_some b && (is_some o && true)) ≡ false →
    option_map (forest g i) (ordered b o) ≡ None
forest_twice g i None o e = refl
forest_twice g i (Some b) None e = ap (option_map (forest g i)) (unordered (number_or usual_budget 1 most_budget b))
forest_twice g i (Some b) (Some o) e = absurd (cc)

no_listing : (g : Source) (i : List ℕ) (b : Option ℕ) (l : Option Listing) → l ≡ None →
    option_and_then (λ budget. option_map (trees g i budget) l) b ≡ None
no_listing g i b l e = ap (λ z. option_and_then (λ budget. option_map (trees g i budget) z) b) e ∙ never b

no_count : (d : Option (Option ℕ)) (a : Value) → listing_with d None a ≡ None
no_count None a = refl
no_count (Some d) a = refl

no_after : (d : Option (Option ℕ)) (n : Option ℕ) → listing_with d n None ≡ None
no_after None n = refl
no_after (Some d) None = refl
no_after (Some d) (Some n) = refl

trees_twice : (g : Source) (i : List ℕ) (b o d n a : Value) →
    (is_some b && (is_some o && (is_some d && (is_some n && (is_some a && true))))) ≡ false →
    option_and_then (λ budget. option_map (trees g i budget) (listing_with (option_and_then (number_if 0 most_depth) d)
    (option_and_then (number_or usual_count 1 most_count) n) a)) (ordered b o) ≡ None
trees_twice g i None o d n a e = refl
trees_twice g i (Some b) None d n a e =
    ap (option_and_then (λ budget. option_map (trees g i budget) (listing_with (option_and_then (number_if 0 most_depth) d)
    (option_and_then (number_or usual_count 1 most_count) n) a))) (unordered (number_or usual_budget 1 most_budget b))
trees_twice g i (Some b) (Some o) None n a e = never (ordered (Some b) (Some o))
trees_twice g i (Some b) (Some o) (Some d) None a e =
    no_listing g i (ordered (Some b) (Some o)) _ (no_count (number_if 0 most_depth d) a)
trees_twice g i (Some b) (Some o) (Some d) (Some n) None e =
    no_listing g i (ordered (Some b) (Some o)) _ (no_after (number_if 0 most_depth d) (number_or usual_count 1 most_count n))
trees_twice g i (Some b) (Some o) (Some d) (Some n) (Some a) e = absurd (cc)

query_twice : (g : Source) (i : List ℕ) (b o w n : Value) → (is_some b && (is_some o && (is_some w && (is_some n && true)))) ≡ false →
    option_and_then (λ budget. option_map (query g i budget) (option_and_then (λ name. option_and_then (question_with name) w) n))
    (ordered b o) ≡ None
query_twice g i None o w n e = refl
query_twice g i (Some b) None w n e =
    ap (option_and_then (λ budget. option_map (query g i budget) (option_and_then (λ name. option_and_then (question_with name) w) n)))
    (unordered (number_or usual_budget 1 most_budget b))
query_twice g i (Some b) (Some o) None None e = never (ordered (Some b) (Some o))
query_twice g i (Some b) (Some o) None (Some n) e = never (ordered (Some b) (Some o))
query_twice g i (Some b) (Some o) (Some w) None e = never (ordered (Some b) (Some o))
query_twice g i (Some b) (Some o) (Some w) (Some n) e = absurd (cc)

load_twice : (x y : Option ℕ) (b o : Value) → (is_some b && (is_some o && true)) ≡ false →
    option_and_then (λ s. option_and_then (λ n. option_map (load s n) (ordered b o)) y) x ≡ None
load_twice None y b o e = refl
load_twice (Some s) None b o e = refl
load_twice (Some s) (Some n) None o e = refl
load_twice (Some s) (Some n) (Some b) None e = ap (option_map (load s n)) (unordered (number_or usual_budget 1 most_budget b))
load_twice x y (Some b) (Some o) e = absurd (cc)

batch_twice : (l : List ℕ) (b o t : Value) → (is_some b && (is_some o && (is_some t && true))) ≡ false →
    option_and_then (λ budget. option_map (batch l budget) (option_and_then (number_or usual_turn 1 most_turn) t))
    (run_with (budget_of b) (option_and_then listed (option_and_then order_with o))) ≡ None
batch_twice l None o t e = refl
batch_twice l (Some b) None t e =
    ap (option_and_then (λ budget. option_map (batch l budget) (option_and_then (number_or usual_turn 1 most_turn) t)))
    (unordered (number_or usual_budget 1 most_budget b))
batch_twice l (Some b) (Some o) None e = never (run_with (budget_of (Some b)) (option_and_then listed (order_with o)))
batch_twice l (Some b) (Some o) (Some t) e = absurd (cc)

abbrev Twice : Row → List Setting → Type 0
Twice r options = list_all (λ name. is_some (option_in name options)) (names_of r) ≡ false

refused_asks : (r : Row) (words : List (List ℕ)) (options : List Setting) → (length words ≡ length (places_of r) → Twice r options) →
    asked r words options ≡ None
refused_asks rows.Check [] options h = refl
refused_asks rows.Check (g ∷ []) options h = grammar_twice g check (option_in (codes "notation") options) (h refl)
refused_asks rows.Check (g ∷ i ∷ ws) options h = refl
refused_asks rows.Show [] options h = refl
refused_asks rows.Show (g ∷ []) options h = grammar_twice g show (option_in (codes "notation") options) (h refl)
refused_asks rows.Show (g ∷ i ∷ ws) options h = refl
refused_asks rows.Core [] options h = refl
refused_asks rows.Core (g ∷ []) options h = grammar_twice g core (option_in (codes "notation") options) (h refl)
refused_asks rows.Core (g ∷ i ∷ ws) options h = refl
refused_asks rows.Forest [] options h = refl
refused_asks rows.Forest (g ∷ []) options h = refl
refused_asks rows.Forest (g ∷ i ∷ []) options h =
    in_it g (λ s. option_map (forest s i) (run_in options)) (option_in (codes "notation") options)
    (is_some (option_in (codes "budget") options) && (is_some (option_in (codes "order") options) && true)) (h refl)
    (λ e s. forest_twice s i (option_in (codes "budget") options) (option_in (codes "order") options) e)
refused_asks rows.Forest (g ∷ i ∷ w ∷ ws) options h = refl
refused_asks rows.Trees [] options h = refl
refused_asks rows.Trees (g ∷ []) options h = refl
refused_asks rows.Trees (g ∷ i ∷ []) options h =
    in_it g (λ s. option_and_then (λ budget. option_map (trees s i budget) (listing_in options)) (run_in options))
    (option_in (codes "notation") options)
    (is_some (option_in (codes "budget") options) && (is_some (option_in (codes "order") options) &&
    (is_some (option_in (codes "depth") options) && (is_some (option_in (codes "count") options) &&
    (is_some (option_in (codes "after") options) && true))))) (h refl)
    (λ e s. trees_twice s i (option_in (codes "budget") options) (option_in (codes "order") options) (option_in (codes "depth") options)
    (option_in (codes "count") options) (option_in (codes "after") options) e)
refused_asks rows.Trees (g ∷ i ∷ w ∷ ws) options h = refl
refused_asks rows.Query [] options h = refl
refused_asks rows.Query (g ∷ []) options h = refl
refused_asks rows.Query (g ∷ i ∷ []) options h =
    in_it g (λ s. option_and_then (λ budget. option_map (query s i budget) (question_in options)) (run_in options))
    (option_in (codes "notation") options)
    (is_some (option_in (codes "budget") options) && (is_some (option_in (codes "order") options) &&
    (is_some (option_in (codes "what") options) && (is_some (option_in (codes "name") options) && true)))) (h refl)
    (λ e s. query_twice s i (option_in (codes "budget") options) (option_in (codes "order") options) (option_in (codes "what") options)
    (option_in (codes "name") options) e)
refused_asks rows.Query (g ∷ i ∷ w ∷ ws) options h = refl
refused_asks rows.Load [] options h = refl
refused_asks rows.Load (size ∷ []) options h = refl
refused_asks rows.Load (size ∷ number ∷ []) options h =
    load_twice (number_of 1 most_size size) (number_of 0 most_number number) (option_in (codes "budget") options)
    (option_in (codes "order") options) (h refl)
refused_asks rows.Load (size ∷ number ∷ w ∷ ws) options h = refl
refused_asks rows.Batch [] options h = refl
refused_asks rows.Batch (l ∷ []) options h =
    batch_twice l (option_in (codes "budget") options) (option_in (codes "order") options) (option_in (codes "turn") options) (h refl)
refused_asks rows.Batch (l ∷ w ∷ ws) options h = refl
refused_asks rows.Verify [] options h = refl
refused_asks rows.Verify (g ∷ []) options h = refl
refused_asks rows.Verify (g ∷ i ∷ []) options h = refl
refused_asks rows.Verify (g ∷ i ∷ f ∷ []) options h =
    grammar_twice g (λ s. verify s i f) (option_in (codes "notation") options) (h refl)
refused_asks rows.Verify (g ∷ i ∷ f ∷ w ∷ ws) options h = refl
refused_asks rows.Analyse [] options h = refl
refused_asks rows.Analyse (g ∷ []) options h = grammar_twice g analyse (option_in (codes "notation") options) (h refl)
refused_asks rows.Analyse (g ∷ i ∷ ws) options h = refl

row_refused : (r : Row) (p : Parts) → IsRefused (places_of r) (names_of r) p → row (names_of r) (asked r) p ≡ None
row_refused r p h = by_test (are_among (names_of r) p.options) refl
  where
    by_test : (b : Bool) → are_among (names_of r) p.options ≡ b → (if b then asked r p.positional p.options else None) ≡ None
    by_test false e = refl
    by_test true e = refused_asks r p.positional p.options (h e)

-- words that are parts of a row may stand
joined_stands : (v l h s n : Bool) → (l && h) ≡ true → s ≡ true → (v || (l && (if h then s else n))) ≡ true
joined_stands true l h s n e f = refl
joined_stands false true true s n e f = f
joined_stands false true false s n e f = absurd (cc)
joined_stands false false h s n e f = absurd (cc)

apart_stands : (v l h s n : Bool) → (l && not h) ≡ true → n ≡ true → (v || (l && (if h then s else n))) ≡ true
apart_stands true l h s n e f = refl
apart_stands false true false s n e f = f
apart_stands false true true s n e f = absurd (cc)
apart_stands false false h s n e f = absurd (cc)

module _ (names : List (List ℕ)) (named : list_any (is_word []) names ≡ false) where
  abbrev AreNamed : Parts → Type 0
  AreNamed p = are_among names p.options ≡ true

  has_name : (d : List ℕ) → list_any (is_word d) names ≡ true → not (is_empty d) ≡ true
  has_name [] e = absurd (cc)
  has_name (c ∷ cs) e = refl

  before : (w : List ℕ) (o : Option Parts) (p : Parts) → word_before w o ≡ Some p → AreNamed p →
      (may_stand w ≡ true) × (q : Parts) × (o ≡ Some q) × AreNamed q
  before w o p e among = by_tests (is_value w) (is_joined w) (is_value (after_first is_equals (drop 2 w))) refl refl refl e
    where
      by_tests : (v j a : Bool) → is_value w ≡ v → is_joined w ≡ j → is_value (after_first is_equals (drop 2 w)) ≡ a →
          (if v then option_map (with_positional w) o
          else (if j then (if a then option_map (with_setting (before_first is_equals (drop 2 w)) (after_first is_equals (drop 2 w))) o else None)
          else None)) ≡ Some p → (may_stand w ≡ true) × (q : Parts) × (o ≡ Some q) × AreNamed q
      by_tests true j a h i k e =
          let q = mapped (with_positional w) o p e in
          (or_left (is_value w) _ h, q.0, q.1, subst AreNamed q.2 among)
      by_tests false true true h i k e =
          let q = mapped (with_setting (before_first is_equals (drop 2 w)) (after_first is_equals (drop 2 w))) o p e in (
            joined_stands (is_value w) (is_long w) (list_any is_equals (drop 2 w)) (is_value (after_first is_equals (drop 2 w)))
                (not (is_empty (drop 2 w))) i k,
            q.0,
            q.1,
            rest_true (list_any (is_word (before_first is_equals (drop 2 w))) names) (are_among names q.0.options) (subst AreNamed q.2 among),
          )
      by_tests false true false h i k e = absurd (cc)
      by_tests false false a h i k e = absurd (cc)

  parts_stand : (ws : List (List ℕ)) (p : Parts) → parts_of ws ≡ Some p → AreNamed p → list_all may_stand ws ≡ true
  parts_stand [] p e among = refl
  parts_stand (w ∷ []) p e among = and_from (may_stand w) true (before w (Some no_parts) p e among).0 refl
  parts_stand (w ∷ next ∷ ws) p e among =
      by_tests (is_apart w) (is_value next) refl refl e (λ q h i. parts_stand ws q h i) (λ q h i. parts_stand (next ∷ ws) q h i)
    where
      by_tests : (b v : Bool) → is_apart w ≡ b → is_value next ≡ v →
          (if b then (if v then option_map (with_setting (drop 2 w) next) (parts_of ws) else None) else word_before w (parts_of (next ∷ ws))) ≡ Some p →
          ((q : Parts) → parts_of ws ≡ Some q → AreNamed q → list_all may_stand ws ≡ true) →
          ((q : Parts) → parts_of (next ∷ ws) ≡ Some q → AreNamed q → list_all may_stand (next ∷ ws) ≡ true) →
          list_all may_stand (w ∷ next ∷ ws) ≡ true
      by_tests true true h i e more further =
          let q = mapped (with_setting (drop 2 w) next) (parts_of ws) p e in
          let both : (list_any (is_word (drop 2 w)) names && are_among names q.0.options) ≡ true = subst AreNamed q.2 among in
          and_from (may_stand w) (list_all may_stand (next ∷ ws))
          (apart_stands (is_value w) (is_long w) (list_any is_equals (drop 2 w)) (is_value (after_first is_equals (drop 2 w)))
          (not (is_empty (drop 2 w))) h
          (has_name (drop 2 w) (first_true (list_any (is_word (drop 2 w)) names) (are_among names q.0.options) both)))
          (and_from (may_stand next) (list_all may_stand ws) (or_left (is_value next) _ i)
          (more q.0 q.1 (rest_true (list_any (is_word (drop 2 w)) names) (are_among names q.0.options) both)))
      by_tests true false h i e more further = absurd (cc)
      by_tests false v h i e more further =
          let q = before w (parts_of (next ∷ ws)) p e among in
          and_from (may_stand w) (list_all may_stand (next ∷ ws)) q.0 (further q.1 q.2 q.3)

all_named : (r : Row) → list_any (is_word []) (names_of r) ≡ false
all_named rows.Check = refl
all_named rows.Show = refl
all_named rows.Core = refl
all_named rows.Forest = refl
all_named rows.Trees = refl
all_named rows.Query = refl
all_named rows.Load = refl
all_named rows.Batch = refl
all_named rows.Verify = refl
all_named rows.Analyse = refl

row_unread : (r : Row) (ws : List (List ℕ)) (p : Parts) → parts_of ws ≡ Some p → list_all may_stand ws ≡ false →
    row (names_of r) (asked r) p ≡ None
row_unread r ws p e unread = by_test (are_among (names_of r) p.options) refl
  where
    by_test : (b : Bool) → are_among (names_of r) p.options ≡ b → (if b then asked r p.positional p.options else None) ≡ None
    by_test false h = refl
    by_test true h = let yes : list_all may_stand ws ≡ true = parts_stand (names_of r) (all_named r) ws p e h in absurd (cc)

-- the request of the words
none_of : (f : Parts → Option Request) (o : Option Parts) → ((p : Parts) → o ≡ Some p → f p ≡ None) → option_and_then f o ≡ None
none_of f None h = refl
none_of f (Some p) h = h p refl

by_its_row : (name : List ℕ) (r : Row) (p : Parts) → row_of name ≡ Some r → request_with name p ≡ row (names_of r) (asked r) p
by_its_row name r p e = table name p ∙ ap (option_and_then (λ z. row (names_of z) (asked z) p)) e

pub no_row : (name : List ℕ) (ws : List (List ℕ)) → row_of name ≡ None → request_of (name ∷ ws) ≡ None
no_row name ws e =
    none_of (request_with name) (parts_of ws) (λ p h. table name p ∙ ap (option_and_then (λ z. row (names_of z) (asked z) p)) e)

pub not_standing : (name : List ℕ) (ws : List (List ℕ)) (r : Row) → row_of name ≡ Some r → list_all may_stand ws ≡ false →
    request_of (name ∷ ws) ≡ None
not_standing name ws r e unread = none_of (request_with name) (parts_of ws) (λ p h. by_its_row name r p e ∙ row_unread r ws p h unread)

pub not_matched : (name : List ℕ) (ws : List (List ℕ)) (r : Row) → row_of name ≡ Some r → Answers r (parts_of ws) None →
    request_of (name ∷ ws) ≡ None
not_matched name ws r e refused = none_of (request_with name) (parts_of ws) (λ p h. by_its_row name r p e ∙ row_refused r p (refused p h))

pub matched : (name : List ℕ) (ws : List (List ℕ)) (r : Row) (m : ArgMatches) → row_of name ≡ Some r → Answers r (parts_of ws) (Some m) →
    found_request r (first_value (found_of m)) ≡ request_of (name ∷ ws)
matched name ws r m e has =
    row_asked r (first_value (found_of m)) has.0 has.2 ∙ sym (by_its_row name r has.0 e) ∙ sym (ap (option_and_then (request_with name)) has.1)

read_from : (words : List (List ℕ)) (o : Option Command) → option_map stored_request o ≡ request_of words → Reads words o
read_from words None e = λ request h. cc
read_from words (Some command) e = sym e

pub reads : (words : List (List ℕ)) (name : List ℕ) (ws : List (List ℕ)) (o : Option Command) → words ≡ name ∷ ws →
    option_map stored_request o ≡ request_of (name ∷ ws) → Reads words o
reads words name ws o same e = read_from words o (e ∙ sym (ap request_of same))

-- the order of a row's command is the one that the words name
order_by : (find : Finds) (name : List ℕ) (ws : List (List ℕ)) (p : Parts) (order : Order) → parts_of ws ≡ Some p →
    option_in (codes "order") p.options ≡ Some (find (codes "order")) → order_found find ≡ Some order → order_of (name ∷ ws) ≡ Some order
order_by find name ws p order e at is =
    ap (option_and_then (λ (q : Parts). order_in q.options)) e ∙ sym (order_same find p.options at) ∙ is

-- an order that keeps a work list is the one that was named
itself : (o : Option Order) (order : Order) → option_and_then listed o ≡ Some order → o ≡ Some order
itself None order e = absurd (cc)
itself (Some which.Fifo) order e = e
itself (Some which.Lifo) order e = e
itself (Some which.Lowest) order e = e
itself (Some which.Plain) order e = absurd (cc)

order_named : (r : Row) (find : Finds) (name : List ℕ) (ws : List (List ℕ)) (p : Parts) (order : Order) → parts_of ws ≡ Some p →
    HasParts (places_of r) (names_of r) find p → order_for r find ≡ Some order → order_of (name ∷ ws) ≡ Some order
order_named rows.Check find name ws p order e has is = absurd (cc)
order_named rows.Show find name ws p order e has is = absurd (cc)
order_named rows.Core find name ws p order e has is = absurd (cc)
order_named rows.Forest find name ws p order e has is = order_by find name ws p order e (has.options (codes "order") refl) is
order_named rows.Trees find name ws p order e has is = order_by find name ws p order e (has.options (codes "order") refl) is
order_named rows.Query find name ws p order e has is = order_by find name ws p order e (has.options (codes "order") refl) is
order_named rows.Load find name ws p order e has is = order_by find name ws p order e (has.options (codes "order") refl) is
order_named rows.Batch find name ws p order e has is =
    order_by find name ws p order e (has.options (codes "order") refl) (itself (order_found find) order is)
order_named rows.Verify find name ws p order e has is = absurd (cc)
order_named rows.Analyse find name ws p order e has is = absurd (cc)

pub orders : (words : List (List ℕ)) (name : List ℕ) (ws : List (List ℕ)) (r : Row) (m : ArgMatches) (o : Option Command) →
    words ≡ name ∷ ws → Answers r (parts_of ws) (Some m) →
    IfSome o (λ c. stored_order c ≡ order_for r (first_value (found_of m))) → Orders words o
orders words name ws r m None same has is = tt
orders words name ws r m (Some c) same has is =
    λ order e. ap order_of same ∙ order_named r (first_value (found_of m)) name ws has.0 order has.1 has.2 (sym is ∙ e)
