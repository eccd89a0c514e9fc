-- Words that differ in the order alone ask for the same.
use Rattle.std.proofs.Common.{◌≡◌, ◌∙◌, ℕ, Bool, true, false, List, [], ◌∷◌, refl, sym, ap, ap₂, Option, Some, None}
use Rattle.std.specs.Prelude.{if◌then◌else◌, option_map, option_and_then, codes}
use Rattle.std.specs.Cmp.Lexicographic.{bytes_decides}
use Rattle.std.proofs.lemmas.Option.{same_Some}
use Rattle.ig_text.specs.Words.{is_word}
use Rattle.ig_command.specs.Words.{Setting}
use Rattle.ig_command.specs.Commands.{Request, Source, check, show, core, forest, trees, query, load, batch, verify, analyse}
use Rattle.ig_command.specs.Commands.{are_among, budget_in, count_in, depth_in, listing_in, listing_with, notation_with, number_if, number_of, number_or, once, option_in, order_in, list_order_in, turn_in, question_in, question_with, row, run_with, source, source_in, values_of}
use Rattle.ig_command.specs.Commands.{most_budget, most_count, most_depth, most_number, most_size, most_turn, usual_budget, usual_count, usual_turn, for_grammar}
use Rattle.ig_command.specs.Laws.{OrdersAskTheSame, unordered}
use Rattle.ig_command.specs.Rows.{asked, names_of, row_of}
use Rattle.ig_command.specs.declared.rows.Row.{Row}
use Rattle.ig_command.specs.declared.rows.Row.TheVariants as rows
use Rattle.ig_command.proofs.Requests.{never, none_each, table}
use Rattle.ig_queue.specs.declared.order.Order.{Order}

-- the values of another name
values_same : (name : List ℕ) → is_word (codes "order") name ≡ false → (options : List Setting) →
    values_of name options ≡ values_of name (unordered options)
values_same name other [] = refl
values_same name other (o ∷ os) = by_test (is_word o.name (codes "order")) refl (values_same name other os)
  where
    by_test : (b : Bool) → is_word o.name (codes "order") ≡ b → values_of name os ≡ values_of name (unordered os) →
        values_of name (o ∷ os) ≡ values_of name (unordered (o ∷ os))
    by_test true e more =
        let unnamed : is_word o.name name ≡ false = ap (λ z. is_word z name) ((bytes_decides o.name (codes "order")).0 e) ∙ other in
        ap (λ b. if b then o.value ∷ values_of name os else values_of name os) unnamed ∙ more ∙
        sym (ap (λ b. values_of name (if b then unordered os else o ∷ unordered os)) e)
    by_test false e more =
        ap (λ vs. if is_word o.name name then o.value ∷ vs else vs) more ∙
        sym (ap (λ b. values_of name (if b then unordered os else o ∷ unordered os)) e)

-- what has a request in some order has it by the budget alone
by_budget : (ask : Option ℕ → Option Request) → ask None ≡ None → (b : Option ℕ) (o : Option Order) (r : Request) →
    ask (run_with b o) ≡ Some r → ask b ≡ Some r
by_budget ask none None o r e = e
by_budget ask none (Some n) None r e = absurd (cc)
by_budget ask none (Some n) (Some o) r e = e

one_request : (o p : Option Request) (r s : Request) → o ≡ p → o ≡ Some r → p ≡ Some s → r ≡ s
one_request o p r s same e f = same_Some r s (sym e ∙ same ∙ f)

chosen : (b : Bool) (o : Option Request) (r : Request) → (if b then o else None) ≡ Some r → o ≡ Some r
chosen true o r e = e
chosen false o r e = absurd (cc)

module _ (a b : List Setting) (same : unordered a ≡ unordered b) where
  option_same : (name : List ℕ) → is_word (codes "order") name ≡ false → option_in name a ≡ option_in name b
  option_same name other = ap once (values_same name other a ∙ ap (values_of name) same ∙ sym (values_same name other b))

  source_same : (file : List ℕ) → source_in file a ≡ source_in file b
  source_same file = ap (λ z. option_map (source file) (option_and_then notation_with z)) (option_same (codes "notation") refl)

  budget_same : budget_in a ≡ budget_in b
  budget_same = ap (option_and_then (number_or usual_budget 1 most_budget)) (option_same (codes "budget") refl)

  turn_same : turn_in a ≡ turn_in b
  turn_same = ap (option_and_then (number_or usual_turn 1 most_turn)) (option_same (codes "turn") refl)

  listing_same : listing_in a ≡ listing_in b
  listing_same =
      ap (λ z. listing_with (option_and_then (number_if 0 most_depth) z) (count_in a) (option_in (codes "after") a))
      (option_same (codes "depth") refl) ∙
      ap (λ z. listing_with (depth_in b) (option_and_then (number_or usual_count 1 most_count) z) (option_in (codes "after") a))
      (option_same (codes "count") refl) ∙
      ap (listing_with (depth_in b) (count_in b)) (option_same (codes "after") refl)

  question_same : question_in a ≡ question_in b
  question_same =
      ap₂ (λ w n. option_and_then (λ name. option_and_then (question_with name) w) n) (option_same (codes "what") refl)
      (option_same (codes "name") refl)

  grammar_same : (ask : Source → Request) (words : List (List ℕ)) → for_grammar ask words a ≡ for_grammar ask words b
  grammar_same ask [] = refl
  grammar_same ask (g ∷ []) = ap (option_map ask) (source_same g)
  grammar_same ask (g ∷ h ∷ ws) = refl

  module _ (r s : Request) where
    in_orders : (o p : Option Order) (ask other : Option ℕ → Option Request) → ask None ≡ None → other None ≡ None →
        ask (budget_in a) ≡ other (budget_in b) → ask (run_with (budget_in a) o) ≡ Some r → other (run_with (budget_in b) p) ≡ Some s → r ≡ s
    in_orders o p ask other none nothing equal e f =
        one_request (ask (budget_in a)) (other (budget_in b)) r s equal (by_budget ask none (budget_in a) o r e)
        (by_budget other nothing (budget_in b) p s f)

    in_turn : (ask other : Option ℕ → Option Request) → ask None ≡ None → other None ≡ None → ask (budget_in a) ≡ other (budget_in b) →
        ask (run_with (budget_in a) (order_in a)) ≡ Some r → other (run_with (budget_in b) (order_in b)) ≡ Some s → r ≡ s
    in_turn ask other none nothing equal e f = in_orders (order_in a) (order_in b) ask other none nothing equal e f

    asked_same : (z : Row) (words : List (List ℕ)) → asked z words a ≡ Some r → asked z words b ≡ Some s → r ≡ s
    asked_same rows.Check words e f = one_request _ _ r s (grammar_same check words) e f
    asked_same rows.Show words e f = one_request _ _ r s (grammar_same show words) e f
    asked_same rows.Core words e f = one_request _ _ r s (grammar_same core words) e f
    asked_same rows.Forest [] e f = absurd (cc)
    asked_same rows.Forest (g ∷ []) e f = absurd (cc)
    asked_same rows.Forest (g ∷ i ∷ []) e f =
        in_turn (λ n. option_and_then (λ x. option_map (forest x i) n) (source_in g a))
        (λ n. option_and_then (λ x. option_map (forest x i) n) (source_in g b))
        (never (source_in g a)) (never (source_in g b))
        (ap₂ (λ z n. option_and_then (λ x. option_map (forest x i) n) z) (source_same g) budget_same) e f
    asked_same rows.Forest (g ∷ i ∷ w ∷ ws) e f = absurd (cc)
    asked_same rows.Trees [] e f = absurd (cc)
    asked_same rows.Trees (g ∷ []) e f = absurd (cc)
    asked_same rows.Trees (g ∷ i ∷ []) e f =
        in_turn (λ n. option_and_then (λ x. option_and_then (λ k. option_map (trees x i k) (listing_in a)) n) (source_in g a))
        (λ n. option_and_then (λ x. option_and_then (λ k. option_map (trees x i k) (listing_in b)) n) (source_in g b))
        (never (source_in g a)) (never (source_in g b))
        (ap₂ (λ z n. option_and_then (λ x. option_and_then (λ k. option_map (trees x i k) (listing_in a)) n) z) (source_same g) budget_same ∙
        ap (λ l. option_and_then (λ x. option_and_then (λ k. option_map (trees x i k) l) (budget_in b)) (source_in g b)) listing_same) e f
    asked_same rows.Trees (g ∷ i ∷ w ∷ ws) e f = absurd (cc)
    asked_same rows.Query [] e f = absurd (cc)
    asked_same rows.Query (g ∷ []) e f = absurd (cc)
    asked_same rows.Query (g ∷ i ∷ []) e f =
        in_turn (λ n. option_and_then (λ x. option_and_then (λ k. option_map (query x i k) (question_in a)) n) (source_in g a))
        (λ n. option_and_then (λ x. option_and_then (λ k. option_map (query x i k) (question_in b)) n) (source_in g b))
        (never (source_in g a)) (never (source_in g b))
        (ap₂ (λ z n. option_and_then (λ x. option_and_then (λ k. option_map (query x i k) (question_in a)) n) z) (source_same g) budget_same ∙
        ap (λ w. option_and_then (λ x. option_and_then (λ k. option_map (query x i k) w) (budget_in b)) (source_in g b)) question_same) e f
    asked_same rows.Query (g ∷ i ∷ w ∷ ws) e f = absurd (cc)
    asked_same rows.Load [] e f = absurd (cc)
    asked_same rows.Load (size ∷ []) e f = absurd (cc)
    asked_same rows.Load (size ∷ number ∷ []) e f =
        in_turn (of_load size number) (of_load size number) (no_load size number) (no_load size number)
        (ap (of_load size number) budget_same) e f
      where
        of_load : List ℕ → List ℕ → Option ℕ → Option Request
        of_load size number n =
            option_and_then (λ x. option_and_then (λ k. option_map (load x k) n) (number_of 0 most_number number))
            (number_of 1 most_size size)

        no_load : (size number : List ℕ) → of_load size number None ≡ None
        no_load size number =
            none_each (λ x. option_and_then (λ k. option_map (load x k) None) (number_of 0 most_number number))
            (number_of 1 most_size size) (λ x. never (number_of 0 most_number number))
    asked_same rows.Load (size ∷ number ∷ w ∷ ws) e f = absurd (cc)
    asked_same rows.Batch [] e f = absurd (cc)
    asked_same rows.Batch (l ∷ []) e f =
        in_orders (list_order_in a) (list_order_in b) (λ n. option_and_then (λ k. option_map (batch l k) (turn_in a)) n)
        (λ n. option_and_then (λ k. option_map (batch l k) (turn_in b)) n) refl refl
        (ap₂ (λ t n. option_and_then (λ k. option_map (batch l k) t) n) turn_same budget_same) e f
    asked_same rows.Batch (l ∷ w ∷ ws) e f = absurd (cc)
    asked_same rows.Verify [] e f = absurd (cc)
    asked_same rows.Verify (g ∷ []) e f = absurd (cc)
    asked_same rows.Verify (g ∷ i ∷ []) e f = absurd (cc)
    asked_same rows.Verify (g ∷ i ∷ t ∷ []) e f = one_request _ _ r s (ap (option_map (λ x. verify x i t)) (source_same g)) e f
    asked_same rows.Verify (g ∷ i ∷ t ∷ w ∷ ws) e f = absurd (cc)
    asked_same rows.Analyse words e f = one_request _ _ r s (grammar_same analyse words) e f

pub ask_the_same : OrdersAskTheSame
ask_the_same name p q r s words options e f = by_row (row_of name) (sym (table name p) ∙ e) (sym (table name q) ∙ f)
  where
    by_row : (o : Option Row) → option_and_then (λ z. row (names_of z) (asked z) p) o ≡ Some r →
        option_and_then (λ z. row (names_of z) (asked z) q) o ≡ Some s → r ≡ s
    by_row None e f = absurd (cc)
    by_row (Some z) e f =
        asked_same p.options q.options options r s z p.positional
        (chosen (are_among (names_of z) p.options) (asked z p.positional p.options) r e)
        (ap (λ w. asked z w q.options) words ∙ chosen (are_among (names_of z) q.options) (asked z q.positional q.options) s f)
