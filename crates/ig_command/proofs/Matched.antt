-- What `clap` makes of the words for a row.
use Rattle.std.proofs.Common.{◌≡◌, ◌≢◌, ◌∙◌, ◌+◌, ◌<◌, Bool, true, false, List, [], ◌∷◌, ◌++◌, length, map, refl, sym, ap, subst, Option, Some, None, arith}
use Rattle.std.proofs.lemmas.Bool.{and_right}
use Rattle.std.specs.Prelude.{if◌then◌else◌, ◌||◌, ◌&&◌, is_some, slice_get, option_and_then, cond, find, codes}
use Rattle.std.specs.List.{list_all, list_any}
use Rattle.std.specs.Str.{bytes_eq}
use Rattle.clap.specs.Words.{fault_of, first_of, first_value, found_of, is_simple_and_free, matches_of, rows_of}
use Rattle.clap.specs.Faults.{built_fault, entered_fault, level_fault}
use Rattle.clap.specs.Kinds.{Kinds}
use Rattle.clap.specs.Lexer.{usize_max}
use Rattle.clap.specs.Simple.{Shape, built, entered, names_of as sub_names}
use Rattle.clap.specs.Walk.{Row as Found, Text, nothing_held, rows_after, walk}
use Rattle.clap.specs.declared.parser.matches.ArgMatches.{ArgMatches}
use Rattle.clap.proofs.WalkLemmas.{first_value-rows}
use Rattle.ig_command.specs.Words.{Parts, parts_of}
use Rattle.ig_command.specs.Commands.{option_in}
use Rattle.ig_command.specs.Rows.{Answers, app_for, may_stand, names_of, places_of}
use Rattle.ig_command.specs.declared.rows.Row.{Row}
use Rattle.ig_command.specs.declared.rows.Row.TheVariants as rows
use Rattle.ig_command.proofs.UseRows.{row_of_use}
use Rattle.ig_command.proofs.Turns.{resting, shape_of_rules}
use Rattle.ig_command.proofs.Walks.{Agrees, Uses, by_words, ending, rows_of_uses, taken, refused, nothing, rests}
use Rattle.ig_command.proofs.Rules.{all_differ, all_quiet, all_stay, in_range, place_at, same_by_test}
use Rattle.ig_command.proofs.Meets.{Meets, R, U, all_own, all_stand, by_index, by_long, find_in, here, meets, name_by_id, place_by_id, refuses, took}

abbrev label : Text
label = codes "iguana"

pub is_simple_row : (r : Row) → is_simple_and_free (app_for r) ≡ true
is_simple_row rows.Check = refl
is_simple_row rows.Show = refl
is_simple_row rows.Core = refl
is_simple_row rows.Forest = refl
is_simple_row rows.Trees = refl
is_simple_row rows.Query = refl
is_simple_row rows.Load = refl
is_simple_row rows.Batch = refl
is_simple_row rows.Verify = refl
is_simple_row rows.Analyse = refl

ids_differ : (r : Row) → all_differ (places_of r ++ names_of r) ≡ true
ids_differ rows.Check = refl
ids_differ rows.Show = refl
ids_differ rows.Core = refl
ids_differ rows.Forest = refl
ids_differ rows.Trees = refl
ids_differ rows.Query = refl
ids_differ rows.Load = refl
ids_differ rows.Batch = refl
ids_differ rows.Verify = refl
ids_differ rows.Analyse = refl

are_few : (r : Row) → 1 + length (places_of r) < usize_max
are_few rows.Check = omega arith
are_few rows.Show = omega arith
are_few rows.Core = omega arith
are_few rows.Forest = omega arith
are_few rows.Trees = omega arith
are_few rows.Query = omega arith
are_few rows.Load = omega arith
are_few rows.Batch = omega arith
are_few rows.Verify = omega arith
are_few rows.Analyse = omega arith

abbrev rules_for : Row → Shape
rules_for r = shape_of_rules label (R label (places_of r) (names_of r) (ids_differ r) (are_few r))

built_row : (r : Row) → built (app_for r) ≡ record { top = rules_for r; subs = [] }
built_row rows.Check = refl
built_row rows.Show = refl
built_row rows.Core = refl
built_row rows.Forest = refl
built_row rows.Trees = refl
built_row rows.Query = refl
built_row rows.Load = refl
built_row rows.Batch = refl
built_row rows.Verify = refl
built_row rows.Analyse = refl

-- no subcommand is entered
alone : (s : Shape) (ws : List Text) →
    built_fault (record { top = s; subs = [] }) nothing_held ws ≡ level_fault s [] nothing_held ws false []
alone s ws = by_stop (walk s.rules [] nothing_held ws).stopped
  where
    by_stop : (stop : Option (Text × List Text)) →
        level_fault s [] nothing_held ws (is_some (entered (record { top = s; subs = [] }) stop)) (entered_fault (record { top = s; subs = [] }) stop) ≡
        level_fault s [] nothing_held ws false []
    by_stop None = refl
    by_stop (Some p) = refl

module _ (r : Row) where
  abbrev ids : List Text
  ids = places_of r

  abbrev names : List Text
  names = names_of r

  abbrev differ : all_differ (ids ++ names) ≡ true
  differ = ids_differ r

  abbrev few : 1 + length ids < usize_max
  few = are_few r

  abbrev uses : List Text → Option Uses
  uses ws = U label ids names differ few ws [] None 1

  walked_row : (ws : List Text) → list_all may_stand ws ≡ true →
      Agrees (level_fault (rules_for r) [] nothing_held ws false []) (rows_after (R label ids names differ few) [] ws) (uses ws)
  unfolding ending
  walked_row ws e =
      by_words label (R label ids names differ few) names (place_at 1 ids) (by_index label ids names differ few) (by_long label ids names differ few)
      (place_by_id label ids names differ few) (name_by_id label ids names differ few) (all_stay 1 ids names) (all_quiet 1 ids names) (in_range 1 ids few)
      ws (all_own ws (all_stand ws e)) [] None 1 (resting [] None 1) (rests [] None [] 1 (nothing []))

  agrees : (ws : List Text) → list_all may_stand ws ≡ true →
      Agrees (fault_of (app_for r) ws) (matches_of (app_for r) ws) (uses ws)
  agrees ws e =
      subst (λ f. Agrees f (matches_of (app_for r) ws) (uses ws))
      (sym (ap (λ a. built_fault a nothing_held ws) (built_row r) ∙ alone (rules_for r) ws))
      (subst (λ q. Agrees (level_fault (rules_for r) [] nothing_held ws false []) q (uses ws))
      (sym (ap (λ a. rows_after a.top.rules (sub_names a) ws) (built_row r)))
      (walked_row ws e))

  meets_row : (ws : List Text) → list_all may_stand ws ≡ true → Meets label ids names differ few [] ids (uses ws) (parts_of ws)
  meets_row ws e =
      meets label ids names differ few ws (all_stand ws e) [] None 1 ids (here 1 ids (λ x h. refl)) (λ n h. absurd (cc))

first_use : (x : Text) (u : Uses) → first_of x (rows_of_uses u) ≡ find_in x u
first_use x [] = refl
first_use x (p ∷ u) = by_test (bytes_eq p.0 x) (first_use x u)
  where
    by_test : (b : Bool) → first_of x (rows_of_uses u) ≡ find_in x u →
        option_and_then (λ q. slice_get q.values 0) (cond b (Some (row_of_use p.0 p.1)) (find (λ q. bytes_eq q.id x) (rows_of_uses u))) ≡
        (if b then Some p.1 else find_in x u)
    by_test true more = refl
    by_test false more = more

not_all : (f : Text → Option (Option Text)) (names : List Text) (m : Text) → list_any (bytes_eq m) names ≡ true → f m ≡ None →
    list_all (λ n. is_some (f n)) names ≡ false
not_all f [] m e g = absurd (cc)
not_all f (n ∷ ns) m e g = by_test (bytes_eq m n) refl e (λ h. not_all f ns m h g)
  where
    by_test : (b : Bool) → bytes_eq m n ≡ b → (b || list_any (bytes_eq m) ns) ≡ true →
        (list_any (bytes_eq m) ns ≡ true → list_all (λ n. is_some (f n)) ns ≡ false) →
        (is_some (f n) && list_all (λ n. is_some (f n)) ns) ≡ false
    by_test true h i more =
        ap (λ z. is_some z && list_all (λ n. is_some (f n)) ns) (subst (λ z. f z ≡ None) (same_by_test m n h) g)
    by_test false h i more = and_right (is_some (f n)) _ (more i)

with_matches : (r : Row) (m : ArgMatches) (faults : Kinds) (found : List Found) (t : Option Uses) (o : Option Parts) → Agrees faults found t →
    Meets label (places_of r) (names_of r) (ids_differ r) (are_few r) [] (places_of r) t o → faults ≡ [] → rows_of (found_of m) ≡ found →
    Answers r o (Some m)
with_matches r m faults found _ _ (taken u e f) (took _ p T) g h =
    let same : (x : Text) → first_value (found_of m) x ≡ find_in x u =
    λ x. first_value-rows (found_of m) x ∙ ap (first_of x) (h ∙ f) ∙ first_use x u in (
      p,
      refl,
      record {
        among = T.among;
        files = ap (λ g. map g (places_of r)) (λ i x. same x i) ∙ T.files;
        options = λ n k. T.options n k ∙ ap Some (sym (same n));
      },
    )
with_matches r m faults found _ o (refused k ks e) meets g h = absurd (cc)

without_matches : (r : Row) (faults : Kinds) (found : List Found) (t : Option Uses) (o : Option Parts) → Agrees faults found t →
    Meets label (places_of r) (names_of r) (ids_differ r) (are_few r) [] (places_of r) t o → faults ≢ [] → Answers r o None
without_matches r faults found _ o (taken u e f) meets g = absurd (g e)
without_matches r faults found _ _ (refused k ks e) (refuses o why) g =
    λ p h among len. let d = why p h among len in not_all (λ n. option_in n p.options) (names_of r) d.0 d.1 d.2

pub answers_found : (r : Row) (m : ArgMatches) (ws : List Text) → list_all may_stand ws ≡ true →
    fault_of (app_for r) ws ≡ [] → rows_of (found_of m) ≡ matches_of (app_for r) ws → Answers r (parts_of ws) (Some m)
answers_found r m ws e none found = with_matches r m _ _ _ _ (agrees r ws e) (meets_row r ws e) none found

pub answers_none : (r : Row) (ws : List Text) → list_all may_stand ws ≡ true →
    fault_of (app_for r) ws ≢ [] → Answers r (parts_of ws) None
answers_none r ws e some = without_matches r _ _ _ _ (agrees r ws e) (meets_row r ws e) some
