-- The arguments of a command that is built, looked for by place, by name and by id.
use Rattle.std.proofs.Common.{◌≡◌, ◌∙◌, ℕ, ◌+◌, ◌<◌, Bool, true, false, List, [], ◌∷◌, ◌++◌, length, map, refl, sym, ap, ap₂, subst, Option, Some, None, arith}
use Rattle.std.specs.Prelude.{if◌then◌else◌, ◌||◌, ◌&&◌, ◌==◌, not, option_map, cond, find, fold}
use Rattle.std.specs.List.{list_any}
use Rattle.std.specs.Option.{option_map_or}
use Rattle.std.specs.Str.{bytes_eq}
use Rattle.std.proofs.lemmas.Slice.Eq.{bytes_eq-Decides}
use Rattle.std.proofs.lemmas.Bool.{or_right, or_left}
use Rattle.ig_text.proofs.Numbers.{same_number}
use Rattle.ig_text.proofs.Booleans.{rest_true}
use Rattle.clap.specs.Facts.{explicit_source}
use Rattle.clap.specs.Faults.{defaults_fault}
use Rattle.clap.specs.Lexer.{usize_max}
use Rattle.clap.specs.Kinds.{Kinds, or_else}
use Rattle.clap.specs.Takes.{is_given}
use Rattle.clap.specs.Walk.{Row, Rule, Text, arg_by_id, arg_by_index, arg_by_long, has_row, with_default}
use Rattle.ig_command.proofs.UseRows.{place_rule, option_rule, row_of_use}
use Rattle.ig_command.proofs.Walks.{Uses, occurs, rows_of_uses}

-- the arguments for places, the first with the number i, and those for names
abbrev pub places_from : ℕ → List Text → List Rule
places_from i [] = []
places_from i (id ∷ ids) = place_rule id i ∷ places_from (i + 1) ids

abbrev pub place_at : ℕ → List Text → ℕ → Option Text
place_at i [] k = None
place_at i (id ∷ ids) k = if i == k then Some id else place_at (i + 1) ids k

abbrev pub all_differ : List Text → Bool
all_differ [] = true
all_differ (x ∷ xs) = not (list_any (bytes_eq x) xs) && all_differ xs

-- equal texts
pub same_by_test : (a b : Text) → bytes_eq a b ≡ true → a ≡ b
same_by_test a b e = (bytes_eq-Decides a b).0 e

pub test_by_same : (a b : Text) → a ≡ b → bytes_eq a b ≡ true
test_by_same a b e = (bytes_eq-Decides a b).1 e

pub swap : (a b : Text) → bytes_eq a b ≡ bytes_eq b a
swap a b = both (bytes_eq a b) (bytes_eq b a) refl refl
  where
    both : (p q : Bool) → bytes_eq a b ≡ p → bytes_eq b a ≡ q → p ≡ q
    both true true e f = refl
    both false false e f = refl
    both true false e f = sym (test_by_same b a (sym (same_by_test a b e))) ∙ f
    both false true e f = sym e ∙ test_by_same a b (sym (same_by_test b a f))

pub first_false : (b c : Bool) → (b || c) ≡ false → b ≡ false
first_false true c e = e
first_false false c e = refl

pub first_out : (b c : Bool) → (not b && c) ≡ true → b ≡ false
first_out true c e = sym e
first_out false c e = refl

-- what is among texts differs from what isn't
pub others : (x t : Text) (xs : List Text) → list_any (bytes_eq x) xs ≡ false → list_any (bytes_eq t) xs ≡ true → bytes_eq x t ≡ false
others x t xs lacks holds = by_test (bytes_eq x t) refl
  where
    by_test : (b : Bool) → bytes_eq x t ≡ b → b ≡ false
    by_test false e = refl
    by_test true e = sym (subst (λ z. list_any (bytes_eq z) xs ≡ true) (sym (same_by_test x t e)) holds) ∙ lacks

pub in_behind : (t : Text) (xs ys : List Text) → list_any (bytes_eq t) ys ≡ true → list_any (bytes_eq t) (xs ++ ys) ≡ true
in_behind t [] ys e = e
in_behind t (x ∷ xs) ys e = or_right (bytes_eq t x) (list_any (bytes_eq t) (xs ++ ys)) (in_behind t xs ys e)

pub in_front : (t : Text) (xs ys : List Text) → list_any (bytes_eq t) xs ≡ true → list_any (bytes_eq t) (xs ++ ys) ≡ true
in_front t [] ys e = absurd (cc)
in_front t (x ∷ xs) ys e = by_test (bytes_eq t x) e (in_front t xs ys)
  where
    by_test : (b : Bool) → (b || list_any (bytes_eq t) xs) ≡ true → (list_any (bytes_eq t) xs ≡ true → list_any (bytes_eq t) (xs ++ ys) ≡ true) →
        (b || list_any (bytes_eq t) (xs ++ ys)) ≡ true
    by_test true e more = refl
    by_test false e more = more e

pub not_in_front : (t : Text) (xs ys : List Text) → list_any (bytes_eq t) (xs ++ ys) ≡ false → list_any (bytes_eq t) xs ≡ false
not_in_front t [] ys e = refl
not_in_front t (x ∷ xs) ys e = by_test (bytes_eq t x) e (not_in_front t xs ys)
  where
    by_test : (b : Bool) → (b || list_any (bytes_eq t) (xs ++ ys)) ≡ false → (list_any (bytes_eq t) (xs ++ ys) ≡ false → list_any (bytes_eq t) xs ≡ false) →
        (b || list_any (bytes_eq t) xs) ≡ false
    by_test true e more = e
    by_test false e more = more e

-- by place
no_number : (names : List Text) (k : ℕ) → arg_by_index (map option_rule names) k ≡ None
no_number [] k = refl
no_number (n ∷ ns) k = no_number ns k

pub by_number : (i : ℕ) (ps names : List Text) (k : ℕ) →
    arg_by_index (places_from i ps ++ map option_rule names) k ≡ option_map (λ id. place_rule id k) (place_at i ps k)
by_number i [] names k = no_number names k
by_number i (id ∷ ids) names k = by_test (i == k) refl (by_number (i + 1) ids names k)
  where
    by_test : (b : Bool) → (i == k) ≡ b →
        arg_by_index (places_from (i + 1) ids ++ map option_rule names) k ≡ option_map (λ x. place_rule x k) (place_at (i + 1) ids k) →
        cond b (Some (place_rule id i)) (arg_by_index (places_from (i + 1) ids ++ map option_rule names) k) ≡
        option_map (λ x. place_rule x k) (if b then Some id else place_at (i + 1) ids k)
    by_test true e more = ap (λ j. Some (place_rule id j)) (same_number i k e)
    by_test false e more = more

-- by name
of_names : (names : List Text) (t : Text) →
    arg_by_long (map option_rule names) t ≡ (if list_any (bytes_eq t) names then Some (option_rule t) else None)
of_names [] t = refl
of_names (n ∷ ns) t =
    by_test (bytes_eq n t) refl (of_names ns t) ∙ ap (λ b. if b || list_any (bytes_eq t) ns then Some (option_rule t) else None) (swap n t)
  where
    by_test : (b : Bool) → bytes_eq n t ≡ b →
        arg_by_long (map option_rule ns) t ≡ (if list_any (bytes_eq t) ns then Some (option_rule t) else None) →
        cond (b || false) (Some (option_rule n)) (arg_by_long (map option_rule ns) t) ≡
        (if b || list_any (bytes_eq t) ns then Some (option_rule t) else None)
    by_test true e more = ap (λ z. Some (option_rule z)) (same_by_test n t e)
    by_test false e more = more

pub by_name : (i : ℕ) (ps names : List Text) (t : Text) →
    arg_by_long (places_from i ps ++ map option_rule names) t ≡ (if list_any (bytes_eq t) names then Some (option_rule t) else None)
by_name i [] names t = of_names names t
by_name i (p ∷ ps) names t = by_name (i + 1) ps names t

-- by id
id_of_name : (names : List Text) (t : Text) → list_any (bytes_eq t) names ≡ true → arg_by_id (map option_rule names) t ≡ Some (option_rule t)
id_of_name [] t e = absurd (cc)
id_of_name (n ∷ ns) t e =
    by_test (bytes_eq n t) refl (ap (λ b. b || list_any (bytes_eq t) ns) (swap n t) ∙ e) (id_of_name ns t)
  where
    by_test : (b : Bool) → bytes_eq n t ≡ b → (b || list_any (bytes_eq t) ns) ≡ true →
        (list_any (bytes_eq t) ns ≡ true → arg_by_id (map option_rule ns) t ≡ Some (option_rule t)) →
        cond b (Some (option_rule n)) (arg_by_id (map option_rule ns) t) ≡ Some (option_rule t)
    by_test true e h more = ap (λ z. Some (option_rule z)) (same_by_test n t e)
    by_test false e h more = more h

pub id_behind : (i : ℕ) (ps names : List Text) (t : Text) → all_differ (ps ++ names) ≡ true → list_any (bytes_eq t) names ≡ true →
    arg_by_id (places_from i ps ++ map option_rule names) t ≡ Some (option_rule t)
id_behind i [] names t differ e = id_of_name names t e
id_behind i (p ∷ ps) names t differ e =
    ap (λ b. cond b (Some (place_rule p i)) (arg_by_id (places_from (i + 1) ps ++ map option_rule names) t))
    (others p t (ps ++ names) (first_out (list_any (bytes_eq p) (ps ++ names)) (all_differ (ps ++ names)) differ) (in_behind t ps names e)) ∙
    id_behind (i + 1) ps names t (rest_true (not (list_any (bytes_eq p) (ps ++ names))) (all_differ (ps ++ names)) differ) e

place_among : (i : ℕ) (ps : List Text) (k : ℕ) (id : Text) → place_at i ps k ≡ Some id → list_any (bytes_eq id) ps ≡ true
place_among i [] k id e = absurd (cc)
place_among i (p ∷ ps) k id e = by_test (i == k) e (place_among (i + 1) ps k id)
  where
    by_test : (b : Bool) → (if b then Some p else place_at (i + 1) ps k) ≡ Some id →
        (place_at (i + 1) ps k ≡ Some id → list_any (bytes_eq id) ps ≡ true) → (bytes_eq id p || list_any (bytes_eq id) ps) ≡ true
    by_test true h more = let same : id ≡ p = cc in or_left (bytes_eq id p) (list_any (bytes_eq id) ps) (test_by_same id p same)
    by_test false h more = or_right (bytes_eq id p) (list_any (bytes_eq id) ps) (more h)

pub id_of_place : (i : ℕ) (ps names : List Text) (k : ℕ) (id : Text) → all_differ (ps ++ names) ≡ true → place_at i ps k ≡ Some id →
    arg_by_id (places_from i ps ++ map option_rule names) id ≡ Some (place_rule id k)
id_of_place i [] names k id differ e = absurd (cc)
id_of_place i (p ∷ ps) names k id differ e =
    by_test (i == k) refl e
    (id_of_place (i + 1) ps names k id (rest_true (not (list_any (bytes_eq p) (ps ++ names))) (all_differ (ps ++ names)) differ))
  where
    by_test : (b : Bool) → (i == k) ≡ b → (if b then Some p else place_at (i + 1) ps k) ≡ Some id →
        (place_at (i + 1) ps k ≡ Some id → arg_by_id (places_from (i + 1) ps ++ map option_rule names) id ≡ Some (place_rule id k)) →
        cond (bytes_eq p id) (Some (place_rule p i)) (arg_by_id (places_from (i + 1) ps ++ map option_rule names) id) ≡ Some (place_rule id k)
    by_test true e h more =
        let same : p ≡ id = cc in
        ap (λ b. cond b (Some (place_rule p i)) (arg_by_id (places_from (i + 1) ps ++ map option_rule names) id)) (test_by_same p id same) ∙
        ap₂ (λ x j. Some (place_rule x j)) same (same_number i k e)
    by_test false e h more =
        ap (λ b. cond b (Some (place_rule p i)) (arg_by_id (places_from (i + 1) ps ++ map option_rule names) id))
        (others p id (ps ++ names) (first_out (list_any (bytes_eq p) (ps ++ names)) (all_differ (ps ++ names)) differ)
        (in_front id ps names (place_among (i + 1) ps k id h))) ∙ more h

pub in_range : (i : ℕ) (ps : List Text) → i + length ps < usize_max → (k : ℕ) (id : Text) → place_at i ps k ≡ Some id → k < usize_max
in_range i [] few k id e = absurd (cc)
in_range i (p ∷ ps) few k id e = by_test (i == k) refl e (in_range (i + 1) ps (omega (arith, few)) k id)
  where
    by_test : (b : Bool) → (i == k) ≡ b → (if b then Some p else place_at (i + 1) ps k) ≡ Some id →
        (place_at (i + 1) ps k ≡ Some id → k < usize_max) → k < usize_max
    by_test true h g more = let same : i ≡ k = same_number i k h in omega (arith, same, few)
    by_test false h g more = more g

-- no argument has a value where it isn't given
either : {A : Type 0} (b : Bool) (x : A) → (if b then x else x) ≡ x
either true x = refl
either false x = refl

names_stay : (names : List Text) (rows : List Row) → fold with_default rows (map option_rule names) ≡ rows
names_stay [] rows = refl
names_stay (n ∷ ns) rows = ap (λ z. fold with_default z (map option_rule ns)) (either (has_row n rows) rows) ∙ names_stay ns rows

pub all_stay : (i : ℕ) (ps names : List Text) (rows : List Row) → fold with_default rows (places_from i ps ++ map option_rule names) ≡ rows
all_stay i [] names rows = names_stay names rows
all_stay i (p ∷ ps) names rows =
    ap (λ z. fold with_default z (places_from (i + 1) ps ++ map option_rule names)) (either (has_row p rows) rows) ∙ all_stay (i + 1) ps names rows

quiet : (b : Bool) (x : Kinds) → (if b || true then [] else x) ≡ []
quiet true x = refl
quiet false x = refl

names_quiet : (names : List Text) (rows : List Row) → defaults_fault rows (map option_rule names) ≡ []
unfolding defaults_fault
names_quiet [] rows = refl
names_quiet (n ∷ ns) rows =
    ap (λ z. or_else z (defaults_fault (with_default rows (option_rule n)) (map option_rule ns))) (quiet (has_row n rows) _) ∙
    names_quiet ns (with_default rows (option_rule n))

pub all_quiet : (i : ℕ) (ps names : List Text) (rows : List Row) → defaults_fault rows (places_from i ps ++ map option_rule names) ≡ []
unfolding defaults_fault
all_quiet i [] names rows = names_quiet names rows
all_quiet i (p ∷ ps) names rows =
    ap (λ z. or_else z (defaults_fault (with_default rows (place_rule p i)) (places_from (i + 1) ps ++ map option_rule names)))
    (quiet (has_row p rows) _) ∙ all_quiet (i + 1) ps names (with_default rows (place_rule p i))

-- what is required and isn't given
given_use : (id : Text) (u : Uses) → is_given id (rows_of_uses u) ≡ occurs id u
given_use id [] = refl
given_use id (p ∷ u) = by_test (bytes_eq p.0 id) (given_use id u)
  where
    by_test : (b : Bool) → is_given id (rows_of_uses u) ≡ occurs id u →
        option_map_or (λ r. explicit_source r.source)
        (cond b (Some (row_of_use p.0 p.1)) (find (λ r. bytes_eq r.id id) (rows_of_uses u))) false ≡ (b || occurs id u)
    by_test true more = refl
    by_test false more = more

names_given : (names : List Text) (rows : List Row) → list_any (λ a. a.required && not (is_given a.id rows)) (map option_rule names) ≡ false
names_given [] rows = refl
names_given (n ∷ ns) rows = names_given ns rows

pub missing_places : (i : ℕ) (ps names : List Text) (u : Uses) →
    list_any (λ a. a.required && not (is_given a.id (rows_of_uses u))) (places_from i ps ++ map option_rule names) ≡
    list_any (λ id. not (occurs id u)) ps
missing_places i [] names u = names_given names (rows_of_uses u)
missing_places i (p ∷ ps) names u =
    ap₂ (λ b c. not b || c) (given_use p u) (missing_places (i + 1) ps names u)
