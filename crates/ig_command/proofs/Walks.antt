-- The words of a simple command as `clap` reads them, by the uses of arguments that they make.
use Rattle.std.proofs.Common.{◌≡◌, ◌∙◌, ℕ, ◌+◌, ◌<◌, Bool, true, false, List, [], ◌∷◌, ◌++◌, length, map, refl, sym, ap, subst, Option, Some, None, arith}
use Rattle.std.specs.Prelude.{if◌then◌else◌, ◌||◌, ◌&&◌, ◌==◌, not, option_map, option_and_then, cond, fold, drop}
use Rattle.std.specs.List.{list_any, before_first, after_first, position_or_len}
use Rattle.std.proofs.lemmas.Grind.{common_steps}
use Rattle.std.specs.Str.{bytes_eq}
use Rattle.std.proofs.lemmas.List.{map-append}
use Rattle.clap.specs.Lexer.{usize_max}
use Rattle.clap.specs.Takes.{is_given}
use Rattle.clap.specs.Walk.{Held, Row, Rule, Text, Walk, arg_by_id, arg_by_index, arg_by_long, finished, has_row, settled, settled_rows, used, walked, with_default}
use Rattle.clap.specs.Faults.{check_fault, defaults_fault, settle_fault, turn_fault, use_fault, walk_fault}
use Rattle.clap.specs.Kinds.{Kinds, or_else}
use Rattle.clap.specs.Simple.{Shape}
use Rattle.clap.specs.declared.error.kind.ErrorKind.{ErrorKind}
use Rattle.clap.specs.declared.error.kind.ErrorKind.TheVariants as kind
use Rattle.ig_command.specs.Words.{is_value, is_joined}
use Rattle.ig_command.proofs.UseRows.{place_rule, option_rule, row_of_use, option_used, place_used}
use Rattle.ig_command.proofs.Turns.{shape_of_rules, resting, asking, held_at, is_equals, value_fault, stray, value_walked, name_fault, name_walked, joined_fault, joined_walked, unknown, value_asked_fault, value_asked_walked, asked_for_value, asked_unknown, option_use, place_use}

-- the ids that were used, with their values
abbrev pub Uses : Type 0
Uses = List (Text × Text)

abbrev pub rows_of_uses : Uses → List Row
rows_of_uses = map (λ p. row_of_use p.0 p.1)

abbrev pub occurs : Text → Uses → Bool
occurs id = list_any (λ p. bytes_eq p.0 id)

-- a word that passes the tests of our own: it doesn't begin with `-`, or begins with `--` and goes on
pub data IsOwn : Text → Type 0 where
  plain : (c : ℕ) (cs : Text) → (c == 45) ≡ false → IsOwn (c ∷ cs)
  long : (x : ℕ) (xs : Text) → IsOwn (45 ∷ 45 ∷ x ∷ xs)

pub data AreOwn : List Text → Type 0 where
  none : AreOwn []
  one : (w : Text) (ws : List Text) → IsOwn w → AreOwn ws → AreOwn (w ∷ ws)

-- what `clap` makes of the words, and the uses
pub data Agrees (faults : Kinds) (rows : List Row) : Option Uses → Type 0 where
  taken : (u : Uses) → faults ≡ [] → rows ≡ rows_of_uses u → Agrees faults rows (Some u)
  refused : (k : ErrorKind) (ks : Kinds) → faults ≡ k ∷ ks → Agrees faults rows None

same_rows : (id : Text) (u : Uses) → has_row id (rows_of_uses u) ≡ occurs id u
same_rows id [] = refl
same_rows id (p ∷ ps) = ap (λ b. bytes_eq p.0 id || b) (same_rows id ps)

more_rows : (u : Uses) (id value : Text) → rows_of_uses (u ++ (id, value) ∷ []) ≡ rows_of_uses u ++ row_of_use id value ∷ []
more_rows u id value = map-append (λ p. row_of_use p.0 p.1) u ((id, value) ∷ [])

no_place : (xs : Text) → list_any is_equals xs ≡ false → position_or_len is_equals xs ≡ length xs
no_place [] e = refl
no_place (x ∷ xs) e = by_test (is_equals x) e (no_place xs)
  where
    by_test : (b : Bool) → (b || list_any is_equals xs) ≡ false → (list_any is_equals xs ≡ false → position_or_len is_equals xs ≡ length xs) →
        cond (not b) (1 + position_or_len is_equals xs) 0 ≡ length (x ∷ xs)
    by_test true e more = absurd (cc)
    by_test false e more = let h : position_or_len is_equals xs ≡ length xs = more e in omega (arith, h)

pub all_before : (xs : Text) → list_any is_equals xs ≡ false → before_first is_equals xs ≡ xs
all_before xs e = let h : position_or_len is_equals xs ≡ length xs = no_place xs e in grind (arith, common_steps, h)

-- the argument is used with one value
pub record IsUse (a : Rule) (id : Text) : Type 0 where
  pub fault : (value : Text) (rows : List Row) →
      use_fault false a (value ∷ []) rows ≡ (if has_row id rows then kind.ArgumentConflict ∷ [] else [])
  pub adds : (value : Text) (rows : List Row) → has_row id rows ≡ false → used a (value ∷ []) rows ≡ rows ++ row_of_use id value ∷ []

option_is_use : (id : Text) → IsUse (option_rule id) id
option_is_use id = record { fault = λ value rows. option_use rows id value; adds = λ value rows e. option_used id value rows e }

place_is_use : (id : Text) (k : ℕ) → IsUse (place_rule id k) id
place_is_use id k = record { fault = λ value rows. place_use rows id value k; adds = λ value rows e. place_used id value k rows e }

module _ (label : Text) (R : List Rule) (names : List Text) (place : ℕ → Option Text)
    (by_index : (k : ℕ) → arg_by_index R k ≡ option_map (λ id. place_rule id k) (place k))
    (by_long : (t : Text) → arg_by_long R t ≡ (if list_any (bytes_eq t) names then Some (option_rule t) else None))
    (place_by_id : (k : ℕ) (id : Text) → place k ≡ Some id → arg_by_id R id ≡ Some (place_rule id k))
    (name_by_id : (t : Text) → list_any (bytes_eq t) names ≡ true → arg_by_id R t ≡ Some (option_rule t))
    (no_defaults : (rows : List Row) → fold with_default rows R ≡ rows)
    (no_default_fault : (rows : List Row) → defaults_fault rows R ≡ [])
    (in_range : (k : ℕ) (id : Text) → place k ≡ Some id → k < usize_max) where
  abbrev pub s : Shape
  s = shape_of_rules label R

  abbrev pub missing : List Row → Bool
  missing rows = list_any (λ a. a.required && not (is_given a.id rows)) R

  -- the uses that the words make, behind those that were made; one option may wait for its value
  abbrev pub uses_of : List Text → Uses → Option Text → ℕ → Option Uses
  uses_of [] u None k = if missing (rows_of_uses u) then None else Some u
  uses_of [] u (Some name) k = None
  uses_of (w ∷ ws) u (Some name) k =
      if is_value w then (if occurs name u then None else uses_of ws (u ++ (name, w) ∷ []) None k) else None
  uses_of (w ∷ ws) u None k =
      if is_value w then option_and_then (λ id. if occurs id u then None else uses_of ws (u ++ (id, w) ∷ []) None (k + 1)) (place k)
      else (if list_any (bytes_eq (before_first is_equals (drop 2 w))) names
      then (if is_joined w
      then (if occurs (before_first is_equals (drop 2 w)) u then None
      else uses_of ws (u ++ (before_first is_equals (drop 2 w), after_first is_equals (drop 2 w)) ∷ []) None k)
      else uses_of ws u (Some (drop 2 w)) k) else None)

  unfoldable pub ending : Held → Kinds
  ending h = or_else [] (or_else (settle_fault R false h)
      (or_else (defaults_fault (settled R h).rows R) (check_fault s (finished R h) false)))

  -- all faults from here on, and the rows at the end
  abbrev pub fault : Walk → List Text → Kinds
  fault W ws = or_else (walk_fault s [] W ws) (ending (fold (walked R []) W ws).held)

  abbrev pub rows_at_end : Walk → List Text → List Row
  rows_at_end W ws = finished R (fold (walked R []) W ws).held

  passing : (W V : Walk) (w : Text) (ws : List Text) (t : Option Uses) → turn_fault s [] W w ≡ [] → walked R [] W w ≡ V →
      Agrees (fault V ws) (rows_at_end V ws) t → Agrees (fault W (w ∷ ws)) (rows_at_end W (w ∷ ws)) t
  unfolding walk_fault
  passing W V w ws t turn next a =
      subst (λ f. Agrees f (rows_at_end W (w ∷ ws)) t)
      (ap (λ z. or_else (walk_fault s [] z ws) (ending (fold (walked R []) z ws).held)) (sym next) ∙
      ap (λ z. or_else (or_else z (walk_fault s [] (walked R [] W w) ws)) (ending (fold (walked R []) (walked R [] W w) ws).held)) (sym turn))
      (subst (λ r. Agrees (fault V ws) r t) (ap (λ z. rows_at_end z ws) (sym next)) a)

  failing : (W : Walk) (w : Text) (ws : List Text) (k : ErrorKind) (ks : Kinds) → turn_fault s [] W w ≡ k ∷ ks →
      Agrees (fault W (w ∷ ws)) (rows_at_end W (w ∷ ws)) None
  unfolding walk_fault
  failing W w ws k ks turn =
      refused k _ (ap (λ z. or_else (or_else z (walk_fault s [] (walked R [] W w) ws)) (ending (fold (walked R []) (walked R [] W w) ws).held)) turn)

  -- what is pending beside the rows of earlier uses
  pub data Due : Uses → Option (Text × List Text) → List Row → Type 0 where
    nothing : (u : Uses) → Due u None (rows_of_uses u)
    pending : (u : Uses) (id value : Text) (a : Rule) → arg_by_id R id ≡ Some a → IsUse a id → occurs id u ≡ false →
        Due (u ++ (id, value) ∷ []) (Some (id, value ∷ [])) (rows_of_uses u)

  settles : (id value : Text) (a : Rule) (rows : List Row) → arg_by_id R id ≡ Some a → IsUse a id →
      settle_fault R false (held_at rows (Some (id, value ∷ []))) ≡ (if has_row id rows then kind.ArgumentConflict ∷ [] else [])
  settles id value a rows e how = rw e (how.fault value rows)

  due_fault : (u : Uses) (p : Option (Text × List Text)) (rows : List Row) → Due u p rows → settle_fault R false (held_at rows p) ≡ []
  due_fault _ _ _ (nothing u) = refl
  due_fault _ _ _ (pending u id value a e how new) =
      settles id value a (rows_of_uses u) e how ∙ ap (λ b. if b then kind.ArgumentConflict ∷ [] else []) (same_rows id u ∙ new)

  due_rows : (u : Uses) (p : Option (Text × List Text)) (rows : List Row) → Due u p rows → settled_rows R p rows ≡ rows_of_uses u
  due_rows _ _ _ (nothing u) = refl
  due_rows _ _ _ (pending u id value a e how new) =
      rw e (how.adds value (rows_of_uses u) (same_rows id u ∙ new)) ∙ sym (more_rows u id value)

  long_of_name : (t : Text) (b : Bool) → list_any (bytes_eq t) names ≡ b → arg_by_long R t ≡ (if b then Some (option_rule t) else None)
  long_of_name t b e = by_long t ∙ ap (λ z. if z then Some (option_rule t) else None) e

  long_of_all : (t : Text) → list_any is_equals t ≡ false → list_any (bytes_eq (before_first is_equals t)) names ≡ true →
      arg_by_long R (before_first is_equals t) ≡ Some (option_rule t)
  long_of_all t e n = long_of_name (before_first is_equals t) true n ∙ ap (λ z. Some (option_rule z)) (all_before t e)

  -- a second use of what was used already
  doubled : (ws : List Text) → AreOwn ws → (rows : List Row) (p : Option (Text × List Text)) (k : ℕ) (x : ErrorKind) (xs : Kinds) →
      settle_fault R false (held_at rows p) ≡ x ∷ xs → Agrees (fault (resting rows p k) ws) (rows_at_end (resting rows p k) ws) None
  unfolding walk_fault ending
  doubled [] none rows p k x xs e = refused x _ (ap (λ z. or_else z (or_else (defaults_fault (settled_rows R p rows) R) (check_fault s (finished R (held_at rows p)) false))) e)
  doubled (_ ∷ ws) (one _ _ (plain c cs v) own) rows p k x xs e = by_place (place k) refl
    where
      by_place : (o : Option Text) → place k ≡ o → Agrees (fault (resting rows p k) ((c ∷ cs) ∷ ws)) (rows_at_end (resting rows p k) ((c ∷ cs) ∷ ws)) None
      by_place None h = failing _ _ ws _ _ (stray label R rows p k c cs v (by_index k ∙ ap (option_map (λ id. place_rule id k)) h))
      by_place (Some id) h = failing _ _ ws _ _ (value_fault label R rows p k c cs id v (by_index k ∙ ap (option_map (λ id. place_rule id k)) h) ∙ e)
  doubled (_ ∷ ws) (one _ _ (long y ys) own) rows p k x xs e =
      by_name (list_any is_equals (y ∷ ys)) (list_any (bytes_eq (before_first is_equals (y ∷ ys))) names) refl refl
    where
      by_name : (h n : Bool) → list_any is_equals (y ∷ ys) ≡ h → list_any (bytes_eq (before_first is_equals (y ∷ ys))) names ≡ n →
          Agrees (fault (resting rows p k) ((45 ∷ 45 ∷ y ∷ ys) ∷ ws)) (rows_at_end (resting rows p k) ((45 ∷ 45 ∷ y ∷ ys) ∷ ws)) None
      by_name h false eh en = failing _ _ ws _ _ (unknown label R rows p k y ys (long_of_name (before_first is_equals (y ∷ ys)) false en))
      by_name true true eh en =
          failing _ _ ws _ _ (joined_fault label R rows p k y ys eh (long_of_name (before_first is_equals (y ∷ ys)) true en) ∙
          ap (λ z. or_else (or_else z (use_fault false (option_rule (before_first is_equals (y ∷ ys))) (after_first is_equals (y ∷ ys) ∷ [])
          (settled_rows R p rows))) []) e)
      by_name false true eh en =
          failing _ _ ws _ _ (name_fault label R rows p k y ys eh (long_of_all (y ∷ ys) eh en) ∙ ap (λ z. or_else z []) e)

  -- where the walk stands between two words
  pub data At : Uses → Option Text → ℕ → Walk → Type 0 where
    rests : (u : Uses) (p : Option (Text × List Text)) (rows : List Row) (k : ℕ) → Due u p rows → At u None k (resting rows p k)
    asks : (u : Uses) (name : Text) (k : ℕ) → list_any (bytes_eq name) names ≡ true → At u (Some name) k (asking (rows_of_uses u) name k)

  moved : (f g : Kinds) (r q : List Row) (t : Option Uses) → f ≡ g → r ≡ q → Agrees g q t → Agrees f r t
  moved f g r q t e h a = subst (λ z. Agrees z r t) (sym e) (subst (λ z. Agrees g z t) (sym h) a)

  finish : (u : Uses) (b : Bool) → Agrees (if b then kind.MissingRequiredArgument ∷ [] else []) (rows_of_uses u) (if b then None else Some u)
  finish u true = refused kind.MissingRequiredArgument [] refl
  finish u false = taken u refl refl

  ended : (u : Uses) (p : Option (Text × List Text)) (rows : List Row) (k : ℕ) → Due u p rows →
      fault (resting rows p k) [] ≡ (if missing (rows_of_uses u) then kind.MissingRequiredArgument ∷ [] else [])
  unfolding walk_fault ending
  ended u p rows k due =
      ap (λ z. or_else z (or_else (defaults_fault (settled_rows R p rows) R) (check_fault s (finished R (held_at rows p)) false))) (due_fault u p rows due) ∙
      ap (λ z. or_else z (check_fault s (finished R (held_at rows p)) false)) (no_default_fault (settled_rows R p rows)) ∙
      ap (λ z. check_fault s z false) (no_defaults (settled_rows R p rows) ∙ due_rows u p rows due)

  unanswered : (u : Uses) (name : Text) (k : ℕ) → list_any (bytes_eq name) names ≡ true →
      fault (asking (rows_of_uses u) name k) [] ≡ kind.InvalidValue ∷ []
  unfolding walk_fault ending
  unanswered u name k e = rw (name_by_id name e) refl

  conflict : (id value : Text) (a : Rule) (u : Uses) → arg_by_id R id ≡ Some a → IsUse a id → occurs id u ≡ true →
      settle_fault R false (held_at (rows_of_uses u) (Some (id, value ∷ []))) ≡ kind.ArgumentConflict ∷ []
  conflict id value a u e how twice =
      settles id value a (rows_of_uses u) e how ∙ ap (λ b. if b then kind.ArgumentConflict ∷ [] else []) (same_rows id u ∙ twice)

  abbrev on_place : List Text → Uses → ℕ → Text → Text → Option Uses
  on_place ws u k w id = if occurs id u then None else uses_of ws (u ++ (id, w) ∷ []) None (k + 1)

  abbrev pub Goes : Walk → List Text → Option Uses → Type 0
  Goes W ws t = Agrees (fault W ws) (rows_at_end W ws) t

  at_place : (k : ℕ) (o : Option Text) → place k ≡ o → arg_by_index R k ≡ option_map (λ id. place_rule id k) o
  at_place k o h = by_index k ∙ ap (option_map (λ id. place_rule id k)) h

  place_word : (ws : List Text) → AreOwn ws → (u : Uses) (p : Option (Text × List Text)) (rows : List Row) (k : ℕ) → Due u p rows →
      (c : ℕ) (cs : Text) → (c == 45) ≡ false → (id : Text) → place k ≡ Some id →
      (occurs id u ≡ false →
      Goes (resting (rows_of_uses u) (Some (id, (c ∷ cs) ∷ [])) (k + 1)) ws (uses_of ws (u ++ (id, c ∷ cs) ∷ []) None (k + 1))) →
      (b : Bool) → occurs id u ≡ b →
      Goes (resting rows p k) ((c ∷ cs) ∷ ws) (if b then None else uses_of ws (u ++ (id, c ∷ cs) ∷ []) None (k + 1))
  place_word ws own u p rows k due c cs v id h more b e = by_use b e
    where
      turn : turn_fault s [] (resting rows p k) (c ∷ cs) ≡ []
      turn = value_fault label R rows p k c cs id v (at_place k (Some id) h) ∙ due_fault u p rows due

      next : walked R [] (resting rows p k) (c ∷ cs) ≡ resting (rows_of_uses u) (Some (id, (c ∷ cs) ∷ [])) (k + 1)
      next = value_walked R rows p k c cs id v (at_place k (Some id) h) (in_range k id h) ∙
          ap (λ r. resting r (Some (id, (c ∷ cs) ∷ [])) (k + 1)) (due_rows u p rows due)

      by_use : (b : Bool) → occurs id u ≡ b →
          Goes (resting rows p k) ((c ∷ cs) ∷ ws) (if b then None else uses_of ws (u ++ (id, c ∷ cs) ∷ []) None (k + 1))
      by_use true e =
          passing _ _ _ ws None turn next
          (doubled ws own (rows_of_uses u) (Some (id, (c ∷ cs) ∷ [])) (k + 1) kind.ArgumentConflict []
          (conflict id (c ∷ cs) (place_rule id k) u (place_by_id k id h) (place_is_use id k) e))
      by_use false e = passing _ _ _ ws _ turn next (more e)

  first_word : (ws : List Text) → AreOwn ws → (u : Uses) (p : Option (Text × List Text)) (rows : List Row) (k : ℕ) → Due u p rows →
      (c : ℕ) (cs : Text) → (c == 45) ≡ false →
      ((id : Text) → place k ≡ Some id → occurs id u ≡ false →
      Goes (resting (rows_of_uses u) (Some (id, (c ∷ cs) ∷ [])) (k + 1)) ws (uses_of ws (u ++ (id, c ∷ cs) ∷ []) None (k + 1))) →
      (o : Option Text) → place k ≡ o → Goes (resting rows p k) ((c ∷ cs) ∷ ws) (option_and_then (on_place ws u k (c ∷ cs)) o)
  first_word ws own u p rows k due c cs v more None h = failing _ _ ws _ _ (stray label R rows p k c cs v (at_place k None h))
  first_word ws own u p rows k due c cs v more (Some id) h =
      place_word ws own u p rows k due c cs v id h (more id h) (occurs id u) refl

  value_word : (ws : List Text) → AreOwn ws → (u : Uses) (name : Text) (k : ℕ) → list_any (bytes_eq name) names ≡ true →
      (c : ℕ) (cs : Text) → (c == 45) ≡ false →
      (occurs name u ≡ false →
      Goes (resting (rows_of_uses u) (Some (name, (c ∷ cs) ∷ [])) k) ws (uses_of ws (u ++ (name, c ∷ cs) ∷ []) None k)) →
      (b : Bool) → occurs name u ≡ b →
      Goes (asking (rows_of_uses u) name k) ((c ∷ cs) ∷ ws) (if b then None else uses_of ws (u ++ (name, c ∷ cs) ∷ []) None k)
  value_word ws own u name k known c cs v more true e =
      passing _ _ _ ws None (value_asked_fault label R (rows_of_uses u) name k c cs v)
      (value_asked_walked R (rows_of_uses u) name k c cs v (name_by_id name known))
      (doubled ws own (rows_of_uses u) (Some (name, (c ∷ cs) ∷ [])) k kind.ArgumentConflict []
      (conflict name (c ∷ cs) (option_rule name) u (name_by_id name known) (option_is_use name) e))
  value_word ws own u name k known c cs v more false e =
      passing _ _ _ ws _ (value_asked_fault label R (rows_of_uses u) name k c cs v)
      (value_asked_walked R (rows_of_uses u) name k c cs v (name_by_id name known)) (more e)

  option_word : (ws : List Text) → (u : Uses) (p : Option (Text × List Text)) (rows : List Row) (k : ℕ) → Due u p rows → (x : ℕ) (xs : Text) →
      (let b = before_first is_equals (x ∷ xs) in let a = after_first is_equals (x ∷ xs) in occurs b u ≡ false →
      Goes (resting (rows_of_uses (u ++ (b, a) ∷ [])) None k) ws (uses_of ws (u ++ (b, a) ∷ []) None k)) →
      (list_any (bytes_eq (x ∷ xs)) names ≡ true → Goes (asking (rows_of_uses u) (x ∷ xs) k) ws (uses_of ws u (Some (x ∷ xs)) k)) →
      (h n o : Bool) → list_any is_equals (x ∷ xs) ≡ h → list_any (bytes_eq (before_first is_equals (x ∷ xs))) names ≡ n →
      occurs (before_first is_equals (x ∷ xs)) u ≡ o →
      Goes (resting rows p k) ((45 ∷ 45 ∷ x ∷ xs) ∷ ws)
      (if n then (if h then (if o then None
      else uses_of ws (u ++ (before_first is_equals (x ∷ xs), after_first is_equals (x ∷ xs)) ∷ []) None k)
      else uses_of ws u (Some (x ∷ xs)) k) else None)
  option_word ws u p rows k due x xs joined apart h false o eh en eo =
      failing _ _ ws _ _ (unknown label R rows p k x xs (long_of_name (before_first is_equals (x ∷ xs)) false en))
  option_word ws u p rows k due x xs joined apart false true o eh en eo =
      passing _ _ _ ws _
      (name_fault label R rows p k x xs eh (long_of_all (x ∷ xs) eh en) ∙ ap (λ z. or_else z []) (due_fault u p rows due))
      (name_walked R rows p k x xs eh (long_of_all (x ∷ xs) eh en) ∙ ap (λ r. asking r (x ∷ xs) k) (due_rows u p rows due))
      (apart (subst (λ z. list_any (bytes_eq z) names ≡ true) (all_before (x ∷ xs) eh) en))
  option_word ws u p rows k due x xs joined apart true true o eh en eo = by_use o eo
    where
      turn : (o : Bool) → occurs (before_first is_equals (x ∷ xs)) u ≡ o → turn_fault s [] (resting rows p k) (45 ∷ 45 ∷ x ∷ xs) ≡
          or_else (if o then kind.ArgumentConflict ∷ [] else []) []
      turn o eo =
          joined_fault label R rows p k x xs eh (long_of_name (before_first is_equals (x ∷ xs)) true en) ∙
          ap (λ z. or_else (or_else z (use_fault false (option_rule (before_first is_equals (x ∷ xs))) (after_first is_equals (x ∷ xs) ∷ []) (settled_rows R p rows))) []) (due_fault u p rows due) ∙
          ap (λ z. or_else z [])
          (option_use (settled_rows R p rows) (before_first is_equals (x ∷ xs)) (after_first is_equals (x ∷ xs)) ∙
          ap (λ z. if z then kind.ArgumentConflict ∷ [] else [])
          (ap (has_row (before_first is_equals (x ∷ xs))) (due_rows u p rows due) ∙ same_rows (before_first is_equals (x ∷ xs)) u ∙ eo))

      by_use : (o : Bool) → occurs (before_first is_equals (x ∷ xs)) u ≡ o → Goes (resting rows p k) ((45 ∷ 45 ∷ x ∷ xs) ∷ ws)
          (if o then None else uses_of ws (u ++ (before_first is_equals (x ∷ xs), after_first is_equals (x ∷ xs)) ∷ []) None k)
      by_use true eo = failing _ _ ws _ _ (turn true eo)
      by_use false eo =
          passing _ _ _ ws _ (turn false eo)
          (joined_walked R rows p k x xs eh (long_of_name (before_first is_equals (x ∷ xs)) true en) ∙
          ap (λ r. resting r None k)
          (ap (used (option_rule (before_first is_equals (x ∷ xs))) (after_first is_equals (x ∷ xs) ∷ [])) (due_rows u p rows due) ∙
          option_used (before_first is_equals (x ∷ xs)) (after_first is_equals (x ∷ xs)) (rows_of_uses u) (same_rows (before_first is_equals (x ∷ xs)) u ∙ eo) ∙
          sym (more_rows u (before_first is_equals (x ∷ xs)) (after_first is_equals (x ∷ xs)))))
          (joined eo)

  -- the words make these uses, or `clap` refuses them
  pub by_words : (ws : List Text) → AreOwn ws → (u : Uses) (wait : Option Text) (k : ℕ) (W : Walk) → At u wait k W →
      Goes W ws (uses_of ws u wait k)
  by_words [] none _ _ _ _ (rests u p rows k due) =
      moved _ _ _ _ _ (ended u p rows k due) (no_defaults (settled_rows R p rows) ∙ due_rows u p rows due) (finish u (missing (rows_of_uses u)))
  by_words [] none _ _ _ _ (asks u name k e) = refused kind.InvalidValue [] (unanswered u name k e)
  by_words (_ ∷ ws) (one _ _ (plain c cs v) own) _ _ _ _ (rests u p rows k due) =
      subst (Goes (resting rows p k) ((c ∷ cs) ∷ ws)) (sym meant)
      (first_word ws own u p rows k due c cs v
      (λ id h new. by_words ws own _ None (k + 1) _
      (rests _ _ _ _ (pending u id (c ∷ cs) (place_rule id k) (place_by_id k id h) (place_is_use id k) new)))
      (place k) refl)
    where
      meant : uses_of ((c ∷ cs) ∷ ws) u None k ≡ option_and_then (on_place ws u k (c ∷ cs)) (place k)
      meant = rw v refl
  by_words (_ ∷ ws) (one _ _ (plain c cs v) own) _ _ _ _ (asks u name k e) =
      subst (Goes (asking (rows_of_uses u) name k) ((c ∷ cs) ∷ ws)) (sym meant)
      (value_word ws own u name k e c cs v
      (λ new. by_words ws own _ None k _
      (rests _ _ _ _ (pending u name (c ∷ cs) (option_rule name) (name_by_id name e) (option_is_use name) new)))
      (occurs name u) refl)
    where
      meant : uses_of ((c ∷ cs) ∷ ws) u (Some name) k ≡ (if occurs name u then None else uses_of ws (u ++ (name, c ∷ cs) ∷ []) None k)
      meant = rw v refl
  by_words (_ ∷ ws) (one _ _ (long x xs) own) _ _ _ _ (rests u p rows k due) =
      option_word ws u p rows k due x xs
      (λ new. by_words ws own _ None k _ (rests _ _ _ _ (nothing _)))
      (λ known. by_words ws own u (Some (x ∷ xs)) k _ (asks u (x ∷ xs) k known))
      (list_any is_equals (x ∷ xs)) (list_any (bytes_eq (before_first is_equals (x ∷ xs))) names) (occurs (before_first is_equals (x ∷ xs)) u)
      refl refl refl
  by_words (_ ∷ ws) (one _ _ (long x xs) own) _ _ _ _ (asks u name k e) =
      by_name (list_any (bytes_eq (before_first is_equals (x ∷ xs))) names) refl
    where
      by_name : (n : Bool) → list_any (bytes_eq (before_first is_equals (x ∷ xs))) names ≡ n →
          Goes (asking (rows_of_uses u) name k) ((45 ∷ 45 ∷ x ∷ xs) ∷ ws) None
      by_name false en = failing _ _ ws _ _ (asked_unknown label R (rows_of_uses u) name k x xs (long_of_name (before_first is_equals (x ∷ xs)) false en))
      by_name true en =
          failing _ _ ws _ _ (asked_for_value label R (rows_of_uses u) name k x xs (before_first is_equals (x ∷ xs)) (list_any is_equals (x ∷ xs)) refl
          (name_by_id name e) (long_of_name (before_first is_equals (x ∷ xs)) true en))
