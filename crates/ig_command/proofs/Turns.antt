-- What one word does in a walk.
use Rattle.std.proofs.Common.{◌≡◌, ℕ, ◌+◌, ◌<◌, Bool, true, false, List, [], ◌∷◌, refl, ap₂, Option, Some, None, arith}
use Rattle.std.specs.Prelude.{if◌then◌else◌, ◌&&◌, ◌==◌, min}
use Rattle.std.specs.List.{list_any, before_first, after_first}
use Rattle.std.specs.Str.{bytes_eq}
use Rattle.clap.specs.Lexer.{usize_max, short_of}
use Rattle.clap.specs.Walk.{Row, Rule, Text, Held, Walk, arg_by_id, arg_by_index, arg_by_long, has_row, idle, option, is_pending, pushed, settled, settled_rows, used, walked}
use Rattle.clap.specs.Faults.{settle_fault, turn_fault, use_fault}
use Rattle.clap.specs.Kinds.{Kinds, or_else}
use Rattle.clap.specs.Simple.{Shape, new_shape}
use Rattle.clap.specs.declared.error.kind.ErrorKind.TheVariants as kind
use Rattle.ig_command.proofs.UseRows.{place_rule, option_rule}

abbrev pub shape_of_rules : Text → List Rule → Shape
shape_of_rules name rules = record (new_shape name) {
  rules = rules;
  no_binary_name = true;
  disable_help_flag = true;
  disable_help_subcommand = true;
  is_built = true;
}

-- between two words, where no option waits for its value
abbrev pub resting : List Row → Option (Text × List Text) → ℕ → Walk
resting rows pending k = record {
  held = record { rows = rows; pending = pending; skip = 0 };
  waiting = idle;
  position = k;
  is_trailing = false;
  stopped = None;
}

-- where the option of this name does
abbrev pub asking : List Row → Text → ℕ → Walk
asking rows name k = record {
  held = record { rows = rows; pending = Some (name, []); skip = 0 };
  waiting = option name;
  position = k;
  is_trailing = false;
  stopped = None;
}

-- a word that doesn't begin with `-` is no bundle
plain_word_is_no_flag : (c : ℕ) (cs : Text) → (c == 45) ≡ false → short_of (c ∷ cs) ≡ None
plain_word_is_no_flag c cs e = rw e refl

by_test : (b : Bool) (x : Kinds) → (if b && false then [] else x) ≡ x
by_test true x = refl
by_test false x = refl

one_more : (R : List Rule) (rows : List Row) (pending : Option (Text × List Text)) (id w : Text) (b : Bool) →
    pushed id w (if b && false then record { rows = rows; pending = pending; skip = 0 }
    else settled R (record { rows = rows; pending = pending; skip = 0 })) ≡
    record { rows = settled_rows R pending rows; pending = Some (id, w ∷ []); skip = 0 }
one_more R rows pending id w true = refl
one_more R rows pending id w false = refl

next_place : (k : ℕ) → k < usize_max → min (k + 1) usize_max ≡ k + 1
next_place k small = grind (arith, small)

pub same_bytes : (t : Text) → bytes_eq t t ≡ true
same_bytes [] = refl
same_bytes (c ∷ cs) = grind (arith, same_bytes cs)

-- a positional word, where a place is left
pub value_fault : (name : Text) (R : List Rule) (rows : List Row) (pending : Option (Text × List Text)) (k c : ℕ) (cs id : Text) →
    (c == 45) ≡ false → arg_by_index R k ≡ Some (place_rule id k) →
    turn_fault (shape_of_rules name R) [] (resting rows pending k) (c ∷ cs) ≡
    settle_fault R false (record { rows = rows; pending = pending; skip = 0 })
value_fault name R rows pending k c cs id e at = rw (e, plain_word_is_no_flag c cs e, at) (by_test (is_pending (place_rule id k) pending) _)

pub stray : (name : Text) (R : List Rule) (rows : List Row) (pending : Option (Text × List Text)) (k c : ℕ) (cs : Text) →
    (c == 45) ≡ false → arg_by_index R k ≡ None →
    turn_fault (shape_of_rules name R) [] (resting rows pending k) (c ∷ cs) ≡ kind.UnknownArgument ∷ []
stray name R rows pending k c cs e at = rw (e, plain_word_is_no_flag c cs e, at) refl

pub value_walked : (R : List Rule) (rows : List Row) (pending : Option (Text × List Text)) (k c : ℕ) (cs id : Text) →
    (c == 45) ≡ false → arg_by_index R k ≡ Some (place_rule id k) → k < usize_max →
    walked R [] (resting rows pending k) (c ∷ cs) ≡ resting (settled_rows R pending rows) (Some (id, (c ∷ cs) ∷ [])) (k + 1)
unfolding walked
value_walked R rows pending k c cs id e at small =
    rw (e, plain_word_is_no_flag c cs e, at)
    (ap₂ (λ h p. record { held = h; waiting = idle; position = p; is_trailing = false; stopped = None })
    (one_more R rows pending id (c ∷ cs) (is_pending (place_rule id k) pending)) (next_place k small))

-- `--NAME`
pub name_fault : (name : Text) (R : List Rule) (rows : List Row) (pending : Option (Text × List Text)) (k x : ℕ) (xs : Text) →
    list_any (λ y. y == 61) (x ∷ xs) ≡ false → arg_by_long R (before_first (λ y. y == 61) (x ∷ xs)) ≡ Some (option_rule (x ∷ xs)) →
    turn_fault (shape_of_rules name R) [] (resting rows pending k) (45 ∷ 45 ∷ x ∷ xs) ≡
    or_else (settle_fault R false (record { rows = rows; pending = pending; skip = 0 })) []
name_fault name R rows pending k x xs e at = rw (e, at) refl

abbrev pub is_equals : ℕ → Bool
is_equals y = y == 61

abbrev pub held_at : List Row → Option (Text × List Text) → Held
held_at rows pending = record { rows = rows; pending = pending; skip = 0 }

pub name_walked : (R : List Rule) (rows : List Row) (pending : Option (Text × List Text)) (k x : ℕ) (xs : Text) →
    list_any is_equals (x ∷ xs) ≡ false → arg_by_long R (before_first is_equals (x ∷ xs)) ≡ Some (option_rule (x ∷ xs)) →
    walked R [] (resting rows pending k) (45 ∷ 45 ∷ x ∷ xs) ≡ asking (settled_rows R pending rows) (x ∷ xs) k
unfolding walked
name_walked R rows pending k x xs e at = rw (e, at) refl

-- `--NAME=VALUE`
pub joined_fault : (name : Text) (R : List Rule) (rows : List Row) (pending : Option (Text × List Text)) (k x : ℕ) (xs : Text) →
    list_any is_equals (x ∷ xs) ≡ true →
    arg_by_long R (before_first is_equals (x ∷ xs)) ≡ Some (option_rule (before_first is_equals (x ∷ xs))) →
    turn_fault (shape_of_rules name R) [] (resting rows pending k) (45 ∷ 45 ∷ x ∷ xs) ≡
    or_else (or_else (settle_fault R false (held_at rows pending))
    (use_fault false (option_rule (before_first is_equals (x ∷ xs))) (after_first is_equals (x ∷ xs) ∷ []) (settled_rows R pending rows))) []
joined_fault name R rows pending k x xs e at = rw (e, at) refl

pub joined_walked : (R : List Rule) (rows : List Row) (pending : Option (Text × List Text)) (k x : ℕ) (xs : Text) →
    list_any is_equals (x ∷ xs) ≡ true →
    arg_by_long R (before_first is_equals (x ∷ xs)) ≡ Some (option_rule (before_first is_equals (x ∷ xs))) →
    walked R [] (resting rows pending k) (45 ∷ 45 ∷ x ∷ xs) ≡
    resting (used (option_rule (before_first is_equals (x ∷ xs))) (after_first is_equals (x ∷ xs) ∷ []) (settled_rows R pending rows)) None k
unfolding walked
joined_walked R rows pending k x xs e at = rw (e, at) refl

-- an option that isn't there
pub unknown : (name : Text) (R : List Rule) (rows : List Row) (pending : Option (Text × List Text)) (k x : ℕ) (xs : Text) →
    arg_by_long R (before_first is_equals (x ∷ xs)) ≡ None →
    turn_fault (shape_of_rules name R) [] (resting rows pending k) (45 ∷ 45 ∷ x ∷ xs) ≡ kind.UnknownArgument ∷ []
unknown name R rows pending k x xs at = rw at refl

-- the value of an option that waits for it
pub value_asked_fault : (name : Text) (R : List Rule) (rows : List Row) (asked : Text) (k c : ℕ) (cs : Text) → (c == 45) ≡ false →
    turn_fault (shape_of_rules name R) [] (asking rows asked k) (c ∷ cs) ≡ []
value_asked_fault name R rows asked k c cs e = rw (e, plain_word_is_no_flag c cs e) refl

pub value_asked_walked : (R : List Rule) (rows : List Row) (asked : Text) (k c : ℕ) (cs : Text) → (c == 45) ≡ false →
    arg_by_id R asked ≡ Some (option_rule asked) →
    walked R [] (asking rows asked k) (c ∷ cs) ≡ resting rows (Some (asked, (c ∷ cs) ∷ [])) k
unfolding walked
value_asked_walked R rows asked k c cs e at = rw (e, plain_word_is_no_flag c cs e, at, same_bytes asked) refl

-- an option where a value is wanted
pub asked_for_value : (name : Text) (R : List Rule) (rows : List Row) (asked : Text) (k x : ℕ) (xs other : Text) (h : Bool) →
    list_any is_equals (x ∷ xs) ≡ h → arg_by_id R asked ≡ Some (option_rule asked) →
    arg_by_long R (before_first is_equals (x ∷ xs)) ≡ Some (option_rule other) →
    turn_fault (shape_of_rules name R) [] (asking rows asked k) (45 ∷ 45 ∷ x ∷ xs) ≡ kind.InvalidValue ∷ []
asked_for_value name R rows asked k x xs other true e id at = rw (e, at, id) refl
asked_for_value name R rows asked k x xs other false e id at = rw (e, at, id) refl

pub asked_unknown : (name : Text) (R : List Rule) (rows : List Row) (asked : Text) (k x : ℕ) (xs : Text) →
    arg_by_long R (before_first is_equals (x ∷ xs)) ≡ None →
    turn_fault (shape_of_rules name R) [] (asking rows asked k) (45 ∷ 45 ∷ x ∷ xs) ≡ kind.UnknownArgument ∷ []
asked_unknown name R rows asked k x xs at = rw at refl

-- what is pending, when it is used
pub first_use : (R : List Rule) (rows : List Row) (a : Rule) (id value : Text) → arg_by_id R id ≡ Some a → a.id ≡ id →
    use_fault false a (value ∷ []) rows ≡ (if has_row id rows then kind.ArgumentConflict ∷ [] else []) →
    settle_fault R false (held_at rows (Some (id, value ∷ []))) ≡ (if has_row id rows then kind.ArgumentConflict ∷ [] else [])
first_use R rows a id value at same e = rw at e

pub option_use : (rows : List Row) (id value : Text) →
    use_fault false (option_rule id) (value ∷ []) rows ≡ (if has_row id rows then kind.ArgumentConflict ∷ [] else [])
option_use rows id value = by_row (has_row id rows)
  where
    by_row : (b : Bool) → or_else (if b && true then kind.ArgumentConflict ∷ [] else []) [] ≡
        (if b then kind.ArgumentConflict ∷ [] else [])
    by_row true = refl
    by_row false = refl

pub place_use : (rows : List Row) (id value : Text) (k : ℕ) →
    use_fault false (place_rule id k) (value ∷ []) rows ≡ (if has_row id rows then kind.ArgumentConflict ∷ [] else [])
place_use rows id value k = option_use rows id value
