-- The uses that words make, beside the parts of the words.
use Rattle.std.proofs.Common.{◌≡◌, ◌∙◌, ℕ, ◌+◌, ◌≤◌, ◌<◌, Bool, true, false, List, [], ◌∷◌, ◌++◌, length, map, refl, sym, ap, ap₂, subst, Option, Some, None, arith}
use Rattle.std.proofs.lemmas.Bool.{or_right, and_from, or_left}
use Rattle.std.specs.Prelude.{if◌then◌else◌, ◌||◌, ◌&&◌, ◌==◌, not, option_map, option_and_then, is_some}
use Rattle.std.specs.List.{list_any, list_all, before_first, after_first}
use Rattle.std.specs.Str.{bytes_eq}
use Rattle.ig_text.proofs.Booleans.{rest_true, first_true}
use Rattle.ig_text.proofs.Options.{mapped}
use Rattle.clap.specs.Lexer.{usize_max}
use Rattle.clap.specs.Walk.{Rule, Text, arg_by_id, arg_by_index, arg_by_long}
use Rattle.ig_text.proofs.Numbers.{itself_tested}
use Rattle.ig_command.specs.Words.{Parts, Setting, is_equals, is_value, no_parts, parts_of, option_before, with_positional, with_setting}
use Rattle.ig_command.specs.Commands.{are_among, values_of}
use Rattle.ig_command.specs.Rows.{is_empty, may_stand}
use Rattle.ig_command.proofs.Options.{once_behind}
use Rattle.ig_command.proofs.UseRows.{place_rule, option_rule}
use Rattle.ig_command.proofs.Turns.{same_bytes}
use Rattle.ig_command.proofs.Walks.{AreOwn, IsOwn, Uses, all_before, occurs, uses_of}
use Rattle.ig_command.proofs.Walks as walks
use Rattle.ig_command.proofs.Rules.{all_differ, all_quiet, all_stay, by_name, by_number, first_out, id_behind, id_of_place, in_behind, in_range, missing_places, not_in_front, others, place_at, places_from, same_by_test, swap}

-- the first value of an id among uses
abbrev pub find_in : Text → Uses → Option Text
find_in id [] = None
find_in id (p ∷ u) = if bytes_eq p.0 id then Some p.1 else find_in id u

occurs_kept : (x : Text) (u q : Uses) → occurs x u ≡ true → occurs x (u ++ q) ≡ true
occurs_kept x [] q e = absurd (cc)
occurs_kept x (p ∷ u) q e = by_test (bytes_eq p.0 x) e (occurs_kept x u q)
  where
    by_test : (b : Bool) → (b || occurs x u) ≡ true → (occurs x u ≡ true → occurs x (u ++ q) ≡ true) → (b || occurs x (u ++ q)) ≡ true
    by_test true h more = refl
    by_test false h more = more h

occurs_new : (id w : Text) (u : Uses) → occurs id (u ++ (id, w) ∷ []) ≡ true
occurs_new id w [] = or_left (bytes_eq id id) false (same_bytes id)
occurs_new id w (p ∷ u) = or_right (bytes_eq p.0 id) (occurs id (u ++ (id, w) ∷ [])) (occurs_new id w u)

occurs_none : (x id w : Text) (u : Uses) → occurs x u ≡ false → bytes_eq id x ≡ false → occurs x (u ++ (id, w) ∷ []) ≡ false
occurs_none x id w [] e f = ap (λ b. b || false) f
occurs_none x id w (p ∷ u) e f = by_test (bytes_eq p.0 x) e (λ h. occurs_none x id w u h f)
  where
    by_test : (b : Bool) → (b || occurs x u) ≡ false → (occurs x u ≡ false → occurs x (u ++ (id, w) ∷ []) ≡ false) →
        (b || occurs x (u ++ (id, w) ∷ [])) ≡ false
    by_test true h more = h
    by_test false h more = more h

found_kept : (x : Text) (u q : Uses) (w : Text) → find_in x u ≡ Some w → find_in x (u ++ q) ≡ Some w
found_kept x [] q w e = absurd (cc)
found_kept x (p ∷ u) q w e = by_test (bytes_eq p.0 x) e (found_kept x u q w)
  where
    by_test : (b : Bool) → (if b then Some p.1 else find_in x u) ≡ Some w → (find_in x u ≡ Some w → find_in x (u ++ q) ≡ Some w) →
        (if b then Some p.1 else find_in x (u ++ q)) ≡ Some w
    by_test true h more = h
    by_test false h more = more h

found_new : (id w : Text) (u : Uses) → occurs id u ≡ false → find_in id (u ++ (id, w) ∷ []) ≡ Some w
found_new id w [] e = ap (λ b. if b then Some w else None) (same_bytes id)
found_new id w (p ∷ u) e = by_test (bytes_eq p.0 id) e (found_new id w u)
  where
    by_test : (b : Bool) → (b || occurs id u) ≡ false → (occurs id u ≡ false → find_in id (u ++ (id, w) ∷ []) ≡ Some w) →
        (if b then Some p.1 else find_in id (u ++ (id, w) ∷ [])) ≡ Some w
    by_test true h more = absurd (cc)
    by_test false h more = more h

found_other : (x id w : Text) (u : Uses) → bytes_eq id x ≡ false → find_in x (u ++ (id, w) ∷ []) ≡ find_in x u
found_other x id w [] e = ap (λ b. if b then Some w else None) e
found_other x id w (p ∷ u) e = ap (λ z. if bytes_eq p.0 x then Some p.1 else z) (found_other x id w u e)

found_none : (x : Text) (u : Uses) → occurs x u ≡ false → find_in x u ≡ None
found_none x [] e = refl
found_none x (p ∷ u) e = by_test (bytes_eq p.0 x) e (found_none x u)
  where
    by_test : (b : Bool) → (b || occurs x u) ≡ false → (occurs x u ≡ false → find_in x u ≡ None) → (if b then Some p.1 else find_in x u) ≡ None
    by_test true h more = absurd (cc)
    by_test false h more = more h

found_some : (x : Text) (u : Uses) → occurs x u ≡ true → (w : Text) × (find_in x u ≡ Some w)
found_some x [] e = absurd (cc)
found_some x (p ∷ u) e = by_test (bytes_eq p.0 x) e (found_some x u)
  where
    by_test : (b : Bool) → (b || occurs x u) ≡ true → (occurs x u ≡ true → (w : Text) × (find_in x u ≡ Some w)) →
        (w : Text) × ((if b then Some p.1 else find_in x u) ≡ Some w)
    by_test true h more = (p.1, refl)
    by_test false h more = more h

-- the values of an option behind one more use of one
behind_option : (n w : Text) (u : Uses) (options : List Setting) → occurs n u ≡ false → (m : Text) →
    once_behind (find_in m u) (values_of m (record { name = n; value = w } ∷ options)) ≡ once_behind (find_in m (u ++ (n, w) ∷ [])) (values_of m options)
behind_option n w u options new m = by_test (bytes_eq n m) refl
  where
    by_test : (b : Bool) → bytes_eq n m ≡ b →
        once_behind (find_in m u) (if b then w ∷ values_of m options else values_of m options) ≡
        once_behind (find_in m (u ++ (n, w) ∷ [])) (values_of m options)
    by_test true e =
        let same : n ≡ m = same_by_test n m e in
        ap (λ z. once_behind z (w ∷ values_of m options)) (found_none m u (subst (λ z. occurs z u ≡ false) same new)) ∙
        sym (ap (λ z. once_behind z (values_of m options))
        (subst (λ z. find_in z (u ++ (n, w) ∷ []) ≡ Some w) same (found_new n w u new)))
    by_test false e = sym (ap (λ z. once_behind z (values_of m options)) (found_other m n w u e))

-- a word that stands
pub data Stands : Text → Type 0 where
  plain : (c : ℕ) (cs : Text) → (c == 45) ≡ false → Stands (c ∷ cs)
  apart : (x : ℕ) (xs : Text) → list_any is_equals (x ∷ xs) ≡ false → Stands (45 ∷ 45 ∷ x ∷ xs)
  joined : (x : ℕ) (xs : Text) → list_any is_equals (x ∷ xs) ≡ true → is_value (after_first is_equals (x ∷ xs)) ≡ true → Stands (45 ∷ 45 ∷ x ∷ xs)

pub data AllStand : List Text → Type 0 where
  none : AllStand []
  one : (w : Text) (ws : List Text) → Stands w → AllStand ws → AllStand (w ∷ ws)

own : (w : Text) → Stands w → IsOwn w
own _ (plain c cs v) = walks.plain c cs v
own _ (apart x xs e) = walks.long x xs
own _ (joined x xs e v) = walks.long x xs

pub all_own : (ws : List Text) → AllStand ws → AreOwn ws
all_own [] none = walks.none
all_own (_ ∷ _) (one w ws s all) = walks.one w ws (own w s) (all_own ws all)

behind_dashes : (ds : Text) → (if list_any is_equals ds then is_value (after_first is_equals ds) else not (is_empty ds)) ≡ true →
    Stands (45 ∷ 45 ∷ ds)
behind_dashes [] e = absurd (cc)
behind_dashes (x ∷ xs) e = by_test (list_any is_equals (x ∷ xs)) refl e
  where
    by_test : (b : Bool) → list_any is_equals (x ∷ xs) ≡ b →
        (if b then is_value (after_first is_equals (x ∷ xs)) else true) ≡ true → Stands (45 ∷ 45 ∷ x ∷ xs)
    by_test true h v = joined x xs h v
    by_test false h v = apart x xs h

dash : (c : ℕ) → (c == 45) ≡ true → c ≡ 45
dash c e = grind (arith, e)

pub stands : (w : Text) → may_stand w ≡ true → Stands w
stands [] e = absurd (cc)
stands (c ∷ []) e = by_test (c == 45) refl e
  where
    by_test : (b : Bool) → (c == 45) ≡ b → (not b || ((b && false) && false)) ≡ true → Stands (c ∷ [])
    by_test false h v = plain c [] h
    by_test true h v = absurd (cc)
stands (c ∷ d ∷ ds) e = by_tests (c == 45) (d == 45) refl refl e
  where
    by_tests : (b a : Bool) → (c == 45) ≡ b → (d == 45) ≡ a →
        (not b || ((b && (a && true)) && (if list_any is_equals ds then is_value (after_first is_equals ds) else not (is_empty ds)))) ≡ true →
        Stands (c ∷ d ∷ ds)
    by_tests false a h g v = plain c (d ∷ ds) h
    by_tests true false h g v = absurd (cc)
    by_tests true true h g v =
        subst (λ z. Stands (z ∷ d ∷ ds)) (sym (dash c h)) (subst (λ z. Stands (45 ∷ z ∷ ds)) (sym (dash d g)) (behind_dashes ds v))

pub all_stand : (ws : List Text) → list_all may_stand ws ≡ true → AllStand ws
all_stand [] e = none
all_stand (w ∷ ws) e =
    one w ws (stands w (first_true (may_stand w) (list_all may_stand ws) e)) (all_stand ws (rest_true (may_stand w) (list_all may_stand ws) e))

-- the parts by the first word; that may be the value of an option
abbrev pub parts_from : Option Text → List Text → Option Parts
parts_from None words = parts_of words
parts_from (Some name) [] = None
parts_from (Some name) (value ∷ words) = option_before name value (parts_of words)

parts_value : (c : ℕ) (cs : Text) (ws : List Text) → (c == 45) ≡ false →
    parts_of ((c ∷ cs) ∷ ws) ≡ option_map (with_positional (c ∷ cs)) (parts_of ws)
parts_value c cs [] v = rw v refl
parts_value c cs (w ∷ ws) v = rw v refl

parts_apart : (x : ℕ) (xs : Text) (ws : List Text) → list_any is_equals (x ∷ xs) ≡ false →
    parts_of ((45 ∷ 45 ∷ x ∷ xs) ∷ ws) ≡ parts_from (Some (x ∷ xs)) ws
parts_apart x xs [] e = rw e refl
parts_apart x xs (w ∷ ws) e = rw e refl

parts_joined : (x : ℕ) (xs : Text) (ws : List Text) → list_any is_equals (x ∷ xs) ≡ true →
    parts_of ((45 ∷ 45 ∷ x ∷ xs) ∷ ws) ≡ option_before (before_first is_equals (x ∷ xs)) (after_first is_equals (x ∷ xs)) (parts_of ws)
parts_joined x xs [] e = rw e refl
parts_joined x xs (w ∷ ws) e = rw e refl

abbrev pub first : List Text → Option Text
first [] = None
first (x ∷ xs) = Some x

-- of the places, the first with the number i, those before the number k have a value
pub data Filled (u : Uses) : ℕ → List Text → ℕ → List Text → Type 0 where
  here : (k : ℕ) (left : List Text) → ((x : Text) → list_any (bytes_eq x) left ≡ true → occurs x u ≡ false) → Filled u k left k left
  there : (i : ℕ) (id : Text) (ids : List Text) (k : ℕ) (left : List Text) → occurs id u ≡ true → Filled u (i + 1) ids k left →
      Filled u i (id ∷ ids) k left

filled_order : (u : Uses) (i : ℕ) (ps : List Text) (k : ℕ) (left : List Text) → Filled u i ps k left → i ≤ k
filled_order u _ _ _ _ (here k left new) = omega arith
filled_order u _ _ _ _ (there i id ids k left e f) = let h : i + 1 ≤ k = filled_order u (i + 1) ids k left f in omega (arith, h)

below : (i k : ℕ) → i + 1 ≤ k → (i == k) ≡ false
below i k e = grind arith

filled_place : (u : Uses) (i : ℕ) (ps : List Text) (k : ℕ) (left : List Text) → Filled u i ps k left → place_at i ps k ≡ first left
filled_place u _ _ _ _ (here k [] new) = refl
filled_place u _ _ _ _ (here k (id ∷ left) new) = ap (λ b. if b then Some id else place_at (k + 1) left k) (itself_tested k)
filled_place u _ _ _ _ (there i id ids k left e f) =
    ap (λ b. if b then Some id else place_at (i + 1) ids k) (below i k (filled_order u (i + 1) ids k left f)) ∙
    filled_place u (i + 1) ids k left f

filled_missing : (u : Uses) (i : ℕ) (ps : List Text) (k : ℕ) (left : List Text) → Filled u i ps k left →
    list_any (λ id. not (occurs id u)) ps ≡ is_some (first left)
filled_missing u _ _ _ _ (here k [] new) = refl
filled_missing u _ _ _ _ (here k (id ∷ left) new) =
    ap (λ b. not b || list_any (λ x. not (occurs x u)) left)
    (new id (or_left (bytes_eq id id) (list_any (bytes_eq id) left) (same_bytes id)))
filled_missing u _ _ _ _ (there i id ids k left e f) =
    ap (λ b. not b || list_any (λ x. not (occurs x u)) ids) e ∙ filled_missing u (i + 1) ids k left f

filled_differ : (u : Uses) (i : ℕ) (ps names : List Text) (k : ℕ) (left : List Text) → Filled u i ps k left → all_differ (ps ++ names) ≡ true →
    all_differ (left ++ names) ≡ true
filled_differ u _ _ names _ _ (here k left new) e = e
filled_differ u _ _ names _ _ (there i id ids k left _ f) e =
    filled_differ u (i + 1) ids names k left f (rest_true (not (list_any (bytes_eq id) (ids ++ names))) (all_differ (ids ++ names)) e)

filled_new : (u : Uses) (i : ℕ) (ps : List Text) (k : ℕ) (id : Text) (left : List Text) → Filled u i ps k (id ∷ left) → occurs id u ≡ false
filled_new u _ _ _ id left (here k _ new) = new id (or_left (bytes_eq id id) (list_any (bytes_eq id) left) (same_bytes id))
filled_new u _ _ _ id left (there i p ids k _ e f) = filled_new u (i + 1) ids k id left f

-- one more place has a value
filled_more : (u : Uses) (i : ℕ) (ps : List Text) (k : ℕ) (id w : Text) (left : List Text) → Filled u i ps k (id ∷ left) →
    list_any (bytes_eq id) left ≡ false → Filled (u ++ (id, w) ∷ []) i ps (k + 1) left
filled_more u _ _ _ id w left (here k _ new) lacks =
    there k id left (k + 1) left (occurs_new id w u)
    (here (k + 1) left (λ x h. occurs_none x id w u (new x (or_right (bytes_eq x id) (list_any (bytes_eq x) left) h)) (others id x left lacks h)))
filled_more u _ _ _ id w left (there i p ids k _ e f) lacks =
    there i p ids (k + 1) left (occurs_kept p u ((id, w) ∷ []) e) (filled_more u (i + 1) ids k id w left f lacks)

filled_still : (u : Uses) (i : ℕ) (ps : List Text) (k : ℕ) (n w : Text) (left : List Text) → Filled u i ps k left →
    ((x : Text) → list_any (bytes_eq x) left ≡ true → bytes_eq n x ≡ false) → Filled (u ++ (n, w) ∷ []) i ps k left
filled_still u _ _ _ n w _ (here k left new) lacks = here k left (λ x h. occurs_none x n w u (new x h) (lacks x h))
filled_still u _ _ _ n w _ (there i p ids k left e f) lacks =
    there i p ids k left (occurs_kept p u ((n, w) ∷ []) e) (filled_still u (i + 1) ids k n w left f lacks)

apart_lists : (xs ys : List Text) (x y : Text) → all_differ (xs ++ ys) ≡ true → list_any (bytes_eq x) xs ≡ true → list_any (bytes_eq y) ys ≡ true →
    bytes_eq y x ≡ false
apart_lists [] ys x y e f g = absurd (cc)
apart_lists (z ∷ zs) ys x y e f g =
    by_test (bytes_eq x z) refl f (λ h. apart_lists zs ys x y (rest_true (not (list_any (bytes_eq z) (zs ++ ys))) (all_differ (zs ++ ys)) e) h g)
  where
    by_test : (b : Bool) → bytes_eq x z ≡ b → (b || list_any (bytes_eq x) zs) ≡ true → (list_any (bytes_eq x) zs ≡ true → bytes_eq y x ≡ false) →
        bytes_eq y x ≡ false
    by_test true h k more =
        swap y x ∙ ap (λ t. bytes_eq t y) (same_by_test x z h) ∙
        others z y (zs ++ ys) (first_out (list_any (bytes_eq z) (zs ++ ys)) (all_differ (zs ++ ys)) e) (in_behind y zs ys g)
    by_test false h k more = more k

module _ (label : Text) (ps names : List Text) (differ : all_differ (ps ++ names) ≡ true) (few : 1 + length ps < usize_max) where
  abbrev pub R : List Rule
  R = places_from 1 ps ++ map option_rule names

  pub by_index : (k : ℕ) → arg_by_index R k ≡ option_map (λ id. place_rule id k) (place_at 1 ps k)
  by_index k = by_number 1 ps names k

  pub by_long : (t : Text) → arg_by_long R t ≡ (if list_any (bytes_eq t) names then Some (option_rule t) else None)
  by_long t = by_name 1 ps names t

  pub place_by_id : (k : ℕ) (id : Text) → place_at 1 ps k ≡ Some id → arg_by_id R id ≡ Some (place_rule id k)
  place_by_id k id e = id_of_place 1 ps names k id differ e

  pub name_by_id : (t : Text) → list_any (bytes_eq t) names ≡ true → arg_by_id R t ≡ Some (option_rule t)
  name_by_id t e = id_behind 1 ps names t differ e

  abbrev pub U : List Text → Uses → Option Text → ℕ → Option Uses
  U = uses_of label R names (place_at 1 ps) by_index by_long place_by_id name_by_id (all_stay 1 ps names) (all_quiet 1 ps names) (in_range 1 ps few)

  -- the uses have the values of the parts, behind those that were made
  pub record Took (u v : Uses) (left : List Text) (p : Parts) : Type 0 where
    pub grows : (x w : Text) → find_in x u ≡ Some w → find_in x v ≡ Some w
    pub among : are_among names p.options ≡ true
    pub files : map (λ x. find_in x v) left ≡ map Some p.positional
    pub options : (n : Text) → list_any (bytes_eq n) names ≡ true → once_behind (find_in n u) (values_of n p.options) ≡ Some (find_in n v)

  abbrev pub Fails : Uses → List Text → Parts → Type 0
  Fails u left p = are_among names p.options ≡ true → length p.positional ≡ length left →
      (m : Text) × (list_any (bytes_eq m) names ≡ true) × (once_behind (find_in m u) (values_of m p.options) ≡ None)

  pub data Meets (u : Uses) (left : List Text) : Option Uses → Option Parts → Type 0 where
    took : (v : Uses) (p : Parts) → Took u v left p → Meets u left (Some v) (Some p)
    refuses : (o : Option Parts) → ((p : Parts) → o ≡ Some p → Fails u left p) → Meets u left None o

  as_said : (u : Uses) (left : List Text) (t s : Option Uses) (o q : Option Parts) → t ≡ s → o ≡ q → Meets u left s q → Meets u left t o
  as_said u left t s o q e f m = subst (λ z. Meets u left z o) (sym e) (subst (λ z. Meets u left s z) (sym f) m)

  option_step : (n w : Text) (u : Uses) (left : List Text) (t : Option Uses) (o : Option Parts) → list_any (bytes_eq n) names ≡ true →
      occurs n u ≡ false → Meets (u ++ (n, w) ∷ []) left t o → Meets u left t (option_map (with_setting n w) o)
  option_step n w u left _ _ known new (took v p T) =
      took v (with_setting n w p) (record {
        grows = λ x z e. T.grows x z (found_kept x u ((n, w) ∷ []) z e);
        among = and_from (list_any (bytes_eq n) names) (are_among names p.options) known T.among;
        files = T.files;
        options = λ m h. behind_option n w u p.options new m ∙ T.options m h;
      })
  option_step n w u left _ _ known new (refuses o r) =
      refuses (option_map (with_setting n w) o) (λ p e.
      let q = mapped (with_setting n w) o p e in
      subst (Fails u left) (sym q.2) (λ among len.
      let d = r q.0 q.1 (rest_true (list_any (bytes_eq n) names) (are_among names q.0.options) among) len in
      (d.0, d.1, behind_option n w u q.0.options new d.0 ∙ d.2)))

  option_use : (n w : Text) (u : Uses) (left : List Text) (t : Option Uses) (o : Option Parts) → list_any (bytes_eq n) names ≡ true →
      (b : Bool) → occurs n u ≡ b → (occurs n u ≡ false → Meets (u ++ (n, w) ∷ []) left t o) →
      Meets u left (if b then None else t) (option_map (with_setting n w) o)
  option_use n w u left t o known false e more = option_step n w u left t o known e (more e)
  option_use n w u left t o known true e more =
      refuses (option_map (with_setting n w) o) (λ p h.
      let q = mapped (with_setting n w) o p h in
      subst (Fails u left) (sym q.2) (λ among len.
      let found = found_some n u e in (
        n,
        known,
        ap (λ b. once_behind (find_in n u) (if b then w ∷ values_of n q.0.options else values_of n q.0.options)) (same_bytes n) ∙
            ap (λ z. once_behind z (w ∷ values_of n q.0.options)) found.1,
      )))

  place_step : (id w : Text) (u : Uses) (left : List Text) (t : Option Uses) (o : Option Parts) → occurs id u ≡ false →
      ((n : Text) → list_any (bytes_eq n) names ≡ true → bytes_eq id n ≡ false) →
      Meets (u ++ (id, w) ∷ []) left t o → Meets u (id ∷ left) t (option_map (with_positional w) o)
  place_step id w u left _ _ new other (took v p T) =
      took v (with_positional w p) (record {
        grows = λ x z e. T.grows x z (found_kept x u ((id, w) ∷ []) z e);
        among = T.among;
        files = ap₂ (λ x xs. x ∷ xs) (T.grows id w (found_new id w u new)) T.files;
        options = λ m h. ap (λ z. once_behind z (values_of m p.options)) (sym (found_other m id w u (other m h))) ∙ T.options m h;
      })
  place_step id w u left _ _ new other (refuses o r) =
      refuses (option_map (with_positional w) o) (λ p e.
      let q = mapped (with_positional w) o p e in
      subst (Fails u (id ∷ left)) (sym q.2) (λ among len.
      let shorter : length q.0.positional ≡ length left = omega (arith, len) in
      let d = r q.0 q.1 among shorter in
      (d.0, d.1, ap (λ z. once_behind z (values_of d.0 q.0.options)) (sym (found_other d.0 id w u (other d.0 d.1))) ∙ d.2)))

  -- no place is left
  no_place_left : (w : Text) (u : Uses) (o : Option Parts) → Meets u [] None (option_map (with_positional w) o)
  no_place_left w u o =
      refuses (option_map (with_positional w) o) (λ p e.
      let q = mapped (with_positional w) o p e in
      subst (Fails u []) (sym q.2) (λ among len. absurd (omega (arith, len))))

  unknown_name : (n : Text) (u : Uses) (left : List Text) (o : Option Parts) (w : Text) → list_any (bytes_eq n) names ≡ false →
      Meets u left None (option_before n w o)
  unknown_name n u left o w lacks =
      refuses (option_before n w o) (λ p e. by_value (is_value w) p e)
    where
      by_value : (b : Bool) (p : Parts) → (if b then option_map (with_setting n w) o else None) ≡ Some p → Fails u left p
      by_value false p e = absurd (cc)
      by_value true p e =
          let q = mapped (with_setting n w) o p e in
          subst (Fails u left) (sym q.2) (λ among len. absurd (wrong (list_any (bytes_eq n) names) (are_among names q.0.options) lacks among))
        where
          wrong : (a b : Bool) → a ≡ false → (a && b) ≡ true → ⊥
          wrong true b f g = cc
          wrong false b f g = cc

  ends : (u : Uses) (left : List Text) (b : Bool) → b ≡ is_some (first left) → Meets u left (if b then None else Some u) (Some no_parts)
  ends u [] true e = absurd (cc)
  ends u [] false e =
      took u no_parts (record { grows = λ x w h. h; among = refl; files = refl; options = λ n h. alone (find_in n u) })
    where
      alone : (f : Option Text) → once_behind f [] ≡ Some f
      alone None = refl
      alone (Some w) = refl
  ends u (id ∷ left) false e = absurd (cc)
  ends u (id ∷ left) true e = refuses (Some no_parts) (λ p h.
      let same : no_parts ≡ p = cc in
      subst (Fails u (id ∷ left)) same (λ among len. absurd (omega (arith, len))))

  pub meets : (ws : List Text) → AllStand ws → (u : Uses) (wait : Option Text) (k : ℕ) (left : List Text) → Filled u 1 ps k left →
      ((n : Text) → wait ≡ Some n → list_any (bytes_eq n) names ≡ true) → Meets u left (U ws u wait k) (parts_from wait ws)
  meets [] none u None k left f known =
      ends u left _ (missing_places 1 ps names u ∙ filled_missing u 1 ps k left f)
  meets [] none u (Some n) k left f known = refuses None (λ p e. absurd (cc))
  meets (_ ∷ ws) (one _ _ (plain c cs v) rest) u (Some n) k left f known =
      as_said u left _ (if occurs n u then None else U ws (u ++ (n, c ∷ cs) ∷ []) None k) _ (option_map (with_setting n (c ∷ cs)) (parts_of ws))
      (rw v refl) (rw v refl)
      (option_use n (c ∷ cs) u left (U ws (u ++ (n, c ∷ cs) ∷ []) None k) (parts_of ws) (known n refl) (occurs n u) refl
      (λ new. meets ws rest (u ++ (n, c ∷ cs) ∷ []) None k left
      (filled_still u 1 ps k n (c ∷ cs) left f
      (λ x h. apart_lists left names x n (filled_differ u 1 ps names k left f differ) h (known n refl)))
      (λ m e. absurd (cc))))
  meets (_ ∷ ws) (one _ _ (apart x xs e) rest) u (Some n) k left f known = refuses None (λ p h. absurd (cc))
  meets (_ ∷ ws) (one _ _ (joined x xs e v) rest) u (Some n) k left f known = refuses None (λ p h. absurd (cc))
  meets (_ ∷ ws) (one _ _ (plain c cs v) rest) u None k [] f known =
      as_said u [] _ None _ (option_map (with_positional (c ∷ cs)) (parts_of ws))
      (placed ∙ ap (option_and_then (λ id. if occurs id u then None else U ws (u ++ (id, c ∷ cs) ∷ []) None (k + 1))) (filled_place u 1 ps k [] f))
      (parts_value c cs ws v) (no_place_left (c ∷ cs) u (parts_of ws))
    where
      placed : U ((c ∷ cs) ∷ ws) u None k ≡
          option_and_then (λ id. if occurs id u then None else U ws (u ++ (id, c ∷ cs) ∷ []) None (k + 1)) (place_at 1 ps k)
      placed = rw v refl
  meets (_ ∷ ws) (one _ _ (plain c cs v) rest) u None k (id ∷ left) f known =
      let differing : all_differ (id ∷ (left ++ names)) ≡ true = filled_differ u 1 ps names k (id ∷ left) f differ in
      let out : list_any (bytes_eq id) (left ++ names) ≡ false = first_out (list_any (bytes_eq id) (left ++ names)) (all_differ (left ++ names)) differing in
      let new : occurs id u ≡ false = filled_new u 1 ps k id left f in
      as_said u (id ∷ left) _ (U ws (u ++ (id, c ∷ cs) ∷ []) None (k + 1)) _ (option_map (with_positional (c ∷ cs)) (parts_of ws))
      (placed ∙ ap (option_and_then (λ x. if occurs x u then None else U ws (u ++ (x, c ∷ cs) ∷ []) None (k + 1))) (filled_place u 1 ps k (id ∷ left) f) ∙
      ap (λ b. if b then None else U ws (u ++ (id, c ∷ cs) ∷ []) None (k + 1)) new)
      (parts_value c cs ws v)
      (place_step id (c ∷ cs) u left _ (parts_of ws) new (λ n h. others id n (left ++ names) out (in_behind n left names h))
      (meets ws rest (u ++ (id, c ∷ cs) ∷ []) None (k + 1) left (filled_more u 1 ps k id (c ∷ cs) left f (not_in_front id left names out))
      (λ m e. absurd (cc))))
    where
      placed : U ((c ∷ cs) ∷ ws) u None k ≡
          option_and_then (λ x. if occurs x u then None else U ws (u ++ (x, c ∷ cs) ∷ []) None (k + 1)) (place_at 1 ps k)
      placed = rw v refl
  meets (_ ∷ ws) (one _ _ (apart x xs e) rest) u None k left f known =
      by_name (list_any (bytes_eq (x ∷ xs)) names) refl
      (λ h. meets ws rest u (Some (x ∷ xs)) k left f (λ n i. let same : x ∷ xs ≡ n = cc in subst (λ z. list_any (bytes_eq z) names ≡ true) same h))
    where
      asked : U ((45 ∷ 45 ∷ x ∷ xs) ∷ ws) u None k ≡ (if list_any (bytes_eq (x ∷ xs)) names then U ws u (Some (x ∷ xs)) k else None)
      asked =
          ap (λ z. if list_any (bytes_eq z) names then (if list_any is_equals (x ∷ xs)
          then (if occurs z u then None else U ws (u ++ (z, after_first is_equals (x ∷ xs)) ∷ []) None k)
          else U ws u (Some (x ∷ xs)) k) else None) (all_before (x ∷ xs) e) ∙ rw e refl

      by_name : (b : Bool) → list_any (bytes_eq (x ∷ xs)) names ≡ b →
          (list_any (bytes_eq (x ∷ xs)) names ≡ true → Meets u left (U ws u (Some (x ∷ xs)) k) (parts_from (Some (x ∷ xs)) ws)) →
          Meets u left (U ((45 ∷ 45 ∷ x ∷ xs) ∷ ws) u None k) (parts_of ((45 ∷ 45 ∷ x ∷ xs) ∷ ws))
      by_name true h more =
          as_said u left _ (U ws u (Some (x ∷ xs)) k) _ (parts_from (Some (x ∷ xs)) ws)
          (asked ∙ ap (λ b. if b then U ws u (Some (x ∷ xs)) k else None) h) (parts_apart x xs ws e) (more h)
      by_name false h more =
          as_said u left _ None _ (parts_from (Some (x ∷ xs)) ws)
          (asked ∙ ap (λ b. if b then U ws u (Some (x ∷ xs)) k else None) h) (parts_apart x xs ws e) (unasked ws)
        where
          unasked : (more : List Text) → Meets u left None (parts_from (Some (x ∷ xs)) more)
          unasked [] = refuses None (λ p i. absurd (cc))
          unasked (w ∷ more) = unknown_name (x ∷ xs) u left (parts_of more) w h
  meets (_ ∷ ws) (one _ _ (joined x xs e v) rest) u None k left f known =
      by_name (list_any (bytes_eq (before_first is_equals (x ∷ xs))) names) refl
      (λ h new. meets ws rest _ None k left
      (filled_still u 1 ps k (before_first is_equals (x ∷ xs)) (after_first is_equals (x ∷ xs)) left f
      (λ y i. apart_lists left names y (before_first is_equals (x ∷ xs)) (filled_differ u 1 ps names k left f differ) i h))
      (λ m i. absurd (cc)))
    where
      asked : U ((45 ∷ 45 ∷ x ∷ xs) ∷ ws) u None k ≡ (if list_any (bytes_eq (before_first is_equals (x ∷ xs))) names
          then (if occurs (before_first is_equals (x ∷ xs)) u then None
          else U ws (u ++ (before_first is_equals (x ∷ xs), after_first is_equals (x ∷ xs)) ∷ []) None k) else None)
      asked = rw e refl

      meant : parts_of ((45 ∷ 45 ∷ x ∷ xs) ∷ ws) ≡
          option_map (with_setting (before_first is_equals (x ∷ xs)) (after_first is_equals (x ∷ xs))) (parts_of ws)
      meant =
          parts_joined x xs ws e ∙
          ap (λ b. if b then option_map (with_setting (before_first is_equals (x ∷ xs)) (after_first is_equals (x ∷ xs))) (parts_of ws) else None) v

      by_name : (b : Bool) → list_any (bytes_eq (before_first is_equals (x ∷ xs))) names ≡ b →
          (list_any (bytes_eq (before_first is_equals (x ∷ xs))) names ≡ true → occurs (before_first is_equals (x ∷ xs)) u ≡ false →
          Meets (u ++ (before_first is_equals (x ∷ xs), after_first is_equals (x ∷ xs)) ∷ []) left
          (U ws (u ++ (before_first is_equals (x ∷ xs), after_first is_equals (x ∷ xs)) ∷ []) None k) (parts_of ws)) →
          Meets u left (U ((45 ∷ 45 ∷ x ∷ xs) ∷ ws) u None k) (parts_of ((45 ∷ 45 ∷ x ∷ xs) ∷ ws))
      by_name true h more =
          as_said u left _ _ _ _ (asked ∙ ap (λ b. if b then (if occurs (before_first is_equals (x ∷ xs)) u then None
          else U ws (u ++ (before_first is_equals (x ∷ xs), after_first is_equals (x ∷ xs)) ∷ []) None k) else None) h) meant
          (option_use (before_first is_equals (x ∷ xs)) (after_first is_equals (x ∷ xs)) u left _ (parts_of ws) h
          (occurs (before_first is_equals (x ∷ xs)) u) refl (more h))
      by_name false h more =
          as_said u left _ None _ _ (asked ∙ ap (λ b. if b then (if occurs (before_first is_equals (x ∷ xs)) u then None
          else U ws (u ++ (before_first is_equals (x ∷ xs), after_first is_equals (x ∷ xs)) ∷ []) None k) else None) h)
          (parts_joined x xs ws e)
          (unknown_name (before_first is_equals (x ∷ xs)) u left (parts_of ws) (after_first is_equals (x ∷ xs)) h)
