-- Environments, by the names that are looked up in them.
use Rattle.std.proofs.Common.{◌≡◌, ℕ, Bool, true, false, List, [], ◌∷◌, ◌++◌, refl, sym, ◌∙◌, ap}
use Rattle.std.proofs.Common.{cond, Option, Some, None}
use Rattle.std.proofs.lemmas.Bool.{or_parts, or_left, or_right, and_parts, and_from}
use Rattle.std.proofs.Math.Bool.{or-false, or_assoc, and-false}
use Rattle.std.specs.Prelude.{◌||◌, ◌&&◌, not, is_some, option_and_then}
use Rattle.std.specs.Cmp.Lexicographic.{bytes_decides}
use Rattle.std.specs.Option.{option_or}
use Rattle.ig_text.specs.Input.{Input}
use Rattle.ig_text.proofs.Positions.{beside-cons}
use Rattle.ig_text.proofs.Characters.{itself}
use Rattle.ig_text.proofs.Fallbacks.{or_none, or_cond, some_cond}
use Rattle.ig_ebnf_variables.proofs.Definitions.{has, find, Binds, Agree, Keeps}
use Rattle.ig_ebnf_variables.specs.Lists.{keep, params_for, params_of, arguments}
use Rattle.ig_expr.specs.Blocks.{outer, inside}
use Rattle.ig_expr.specs.Evaluation.{value_of, with_two}
use Rattle.ig_expr.specs.Expression.{Expression, Integer, Truth, Here, Variable, Not, Negative, Binary, Of, Same}
use Rattle.ig_expr.specs.Expression.{Spells, Outer, Inside, FreeBefore}
use Rattle.ig_expr.specs.Expression.{FreeAfter}
use Rattle.ig_expr.specs.Names.{look_up}
use Rattle.ig_expr.specs.Operations.{negation, opposite, operation}
use Rattle.ig_expr.specs.Reading.{applied, same, spells}
use Rattle.ig_expr.specs.declared.kind.Kind.{Kind}
use Rattle.ig_expr.specs.declared.value.Value.{Value}
use Rattle.ig_grammar.specs.Visible.{Visible, parameters}
use Rattle.ig_grammar.specs.declared.declaration.Param.{Param}
use Rattle.ig_meaning.specs.Environment.{Environment, HasValue, HaveValues, no_values, next_value, names, values}
use Rattle.ig_meaning.specs.Environment.{AreBound}
use Rattle.ig_meaning.specs.Environment.{no_parameters, next_parameter}
use Rattle.ig_pass.specs.Needs.{uses, any_uses, is_added}
use Rattle.ig_text.specs.Words.{is_word}

-- what stands beside the first place of a name, by the names in order
pub look_up_next : {A : Type 0} (n : List ℕ) (v : A) (ns : List (List ℕ)) (vs : List A) (x : List ℕ) →
    look_up (n ∷ ns) (v ∷ vs) x ≡ cond (is_word n x) (Some v) (look_up ns vs x)
look_up_next n v ns vs x =
    beside-cons (λ z. is_word z x) n ns v vs

pub find_cons : (n : List ℕ) (v : Value) (rest : Environment) (x : List ℕ) →
    find ((n, v) ∷ rest) x ≡ cond (is_word n x) (Some v) (find rest x)
find_cons n v rest x = look_up_next n v (names rest) (values rest) x

pub has_append : (v w : Visible) (n : List ℕ) → has (v ++ w) n ≡ (has v n || has w n)
has_append [] w n = refl
has_append (p ∷ v) w n = ap (λ z. is_word p.0 n || z) (has_append v w n) ∙
    sym (or_assoc (is_word p.0 n) (has v n) (has w n))

pub find_append : (env xs : Environment) (n : List ℕ) → find (env ++ xs) n ≡ option_or (find env n) (find xs n)
find_append [] xs n = refl
find_append ((m, v) ∷ env) xs n =
    find_cons m v (env ++ xs) n ∙ ap (cond (is_word m n) (Some v)) (find_append env xs n) ∙
    or_cond (is_word m n) v (find env n) (find xs n) ∙ ap (λ z. option_or z (find xs n)) (sym (find_cons m v env n))

pub keeps_append : (env env' xs : Environment) → Keeps env env' (env ++ xs) (env' ++ xs)
keeps_append env env' xs =
    record { at = λ n e. find_append env xs n ∙ ap (λ z. option_or z (find xs n)) e ∙ sym (find_append env' xs n) }

pub keeps_none : (env env' : Environment) → Keeps env env' env env'
keeps_none env env' = record { at = λ n e. e }

pub keeps_both : {env env' between left after out : Environment} → Keeps env env' between left →
    Keeps between left after out → Keeps env env' after out
keeps_both k l = record { at = λ n e. l.at n (k.at n e) }

some_else : {X : Type 0} (a b : Option X) → is_some (option_or a b) ≡ (is_some a || is_some b)
some_else None b = refl
some_else (Some x) b = refl

pub is_found : {X : Type 0} (o : Option X) → is_some o ≡ true → (x : X) × (o ≡ Some x)
is_found None e = absurd (cc)
is_found (Some x) e = (x, refl)

pub is_none : {X : Type 0} (o : Option X) → is_some o ≡ false → o ≡ None
is_none None e = refl
is_none (Some x) e = absurd (cc)

-- what an environment has more than another
pub record Adds (w : Visible) (env after : Environment) : Type 0 where
  pub at : (n : List ℕ) → is_some (find after n) ≡ (is_some (find env n) || has w n)
  pub others : (n : List ℕ) → has w n ≡ false → find after n ≡ find env n

pub adds_nothing : (env : Environment) → Adds [] env env
adds_nothing env = record { at = λ n. sym (or-false (is_some (find env n))); others = λ n e. refl }

pub adds_one : (env : Environment) (name : List ℕ) (v : Value) (k : Kind) →
    Adds ((name, k) ∷ []) env (env ++ (name, v) ∷ [])
adds_one env name v k = record {
  at = λ n.
      ap is_some (find_append env ((name, v) ∷ []) n) ∙ some_else (find env n) (find ((name, v) ∷ []) n) ∙
      ap (λ z. is_some (find env n) || z)
      (ap is_some (find_cons name v [] n) ∙ some_cond (is_word name n) v (find [] n));
  others = λ n e. find_append env ((name, v) ∷ []) n ∙
      ap (option_or (find env n))
      (find_cons name v [] n ∙ ap (λ z. cond z (Some v) None) (or_parts (is_word name n) false e).0) ∙
      or_none (find env n);
}

pub adds_both : {v w : Visible} {env between after : Environment} → Adds v env between → Adds w between after →
    Adds (v ++ w) env after
adds_both {v = v} {w = w} {env = env} a b = record {
  at = λ n.
      b.at n ∙ ap (λ z. z || has w n) (a.at n) ∙ or_assoc (is_some (find env n)) (has v n) (has w n) ∙
      ap (λ z. is_some (find env n) || z) (sym (has_append v w n));
  others = λ n e. let apart = or_parts (has v n) (has w n) (sym (has_append v w n) ∙ e) in b.others n apart.1 ∙
      a.others n apart.0;
}

pub binds_more : {v w : Visible} {env after : Environment} → Binds v env → Adds w env after → Binds (v ++ w) after
binds_more {v = v} {w = w} b a =
    record { at = λ n. a.at n ∙ ap (λ z. z || has w n) (b.at n) ∙ sym (has_append v w n) }

-- expressions
module _ (text : Input) where
  abbrev pub valued : Environment → ℕ → Expression → Option Value
  valued env i e = value_of text (names env) (values env) i e

  pub same_value : (e : Expression) (env env' : Environment) (i : ℕ) → Agree (λ n. uses n e) env env' →
      valued env i e ≡ valued env' i e
  same_value (Integer n) env env' i s = refl
  same_value (Truth b) env env' i s = refl
  same_value Here env env' i s = refl
  same_value (Variable x) env env' i s = s.at x (itself x)
  same_value (Not a) env env' i s = ap (option_and_then negation) (same_value a env env' i s)
  same_value (Negative a) env env' i s = ap (option_and_then opposite) (same_value a env env' i s)
  same_value (Binary op a b) env env' i s =
      λ z. with_two (operation op)
      (same_value a env env' i (record { at = λ n h. s.at n (or_left (uses n a) (uses n b) h) }) z)
      (same_value b env env' i (record { at = λ n h. s.at n (or_right (uses n a) (uses n b) h) }) z)
  same_value (Of f a) env env' i s = ap (option_and_then (applied text f)) (same_value a env env' i s)
  same_value (Same a b) env env' i s =
      λ z. with_two (same text)
      (same_value a env env' i (record { at = λ n h. s.at n (or_left (uses n a) (uses n b) h) }) z)
      (same_value b env env' i (record { at = λ n h. s.at n (or_right (uses n a) (uses n b) h) }) z)
  same_value (Spells a word) env env' i s = ap (option_and_then (spells text word)) (same_value a env env' i s)
  same_value (Outer a b) env env' i s =
      λ z. with_two (outer text i)
      (same_value a env env' i (record { at = λ n h. s.at n (or_left (uses n a) (uses n b) h) }) z)
      (same_value b env env' i (record { at = λ n h. s.at n (or_right (uses n a) (uses n b) h) }) z)
  same_value (Inside a b) env env' i s =
      λ z. with_two (inside text i)
      (same_value a env env' i (record { at = λ n h. s.at n (or_left (uses n a) (uses n b) h) }) z)
      (same_value b env env' i (record { at = λ n h. s.at n (or_right (uses n a) (uses n b) h) }) z)
  same_value (FreeBefore pattern) env env' i s = refl
  same_value (FreeAfter pattern) env env' i s = refl

  pub has_to : {env env' : Environment} (i : ℕ) (e : Expression) (v : Value) → Agree (λ n. uses n e) env env' →
      HasValue text env i e v → HasValue text env' i e v
  has_to {env = env} {env' = env'} i e v s h = sym (same_value e env env' i s) ∙ h

  pub have_to : {env env' : Environment} (i : ℕ) (es : List Expression) (vs : List Value) →
      Agree (λ n. any_uses n es) env env' →
      HaveValues text env i es vs → HaveValues text env' i es vs
  have_to i es vs s no_values = no_values
  have_to i es1 vs1 s (next_value e es v vs h hs) =
      next_value e es v vs (has_to i e v (record { at = λ n u. s.at n (or_left (uses n e) (any_uses n es) u) }) h)
      (have_to i es vs (record { at = λ n u. s.at n (or_right (uses n e) (any_uses n es) u) }) hs)

pub flipped : {wanted : List ℕ → Bool} {env env' : Environment} → Agree wanted env env' → Agree wanted env' env
flipped s = record { at = λ n u. sym (s.at n u) }

-- parameters
abbrev pub Holds : Visible → Environment → List Value → Type 0
Holds [] env [] = Unit {0}
Holds [] env (w ∷ ws) = ⊥
Holds (p ∷ ps) env [] = ⊥
Holds (p ∷ ps) env (w ∷ ws) = (find env p.0 ≡ Some w) × Holds ps env ws

abbrev pub zipped : Visible → List Value → Environment
zipped [] ws = []
zipped (p ∷ ps) [] = []
zipped (p ∷ ps) (w ∷ ws) = (p.0, w) ∷ zipped ps ws

pub given : (ps : Visible) (env : Environment) → ((n : List ℕ) → has ps n ≡ true → is_some (find env n) ≡ true) →
    (ws : List Value) × Holds ps env ws
given [] env h = ([], tt)
given (p ∷ ps) env h =
    let here = is_found (find env p.0) (h p.0 (or_left (is_word p.0 p.0) (has ps p.0) (itself p.0))) in
    let rest = given ps env (λ n e. h n (or_right (is_word p.0 n) (has ps n) e)) in
    (here.0 ∷ rest.0, (here.1, rest.1))

pub held : (ps : Visible) (env env' : Environment) (ws : List Value) → Holds ps env ws → Agree (has ps) env env' →
    Holds ps env' ws
held [] env env' [] h s = tt
held [] env env' (w ∷ ws) h s = absurd h
held (p ∷ ps) env env' [] h s = absurd h
held (p ∷ ps) env env' (w ∷ ws) h s = (
  sym (s.at p.0 (or_left (is_word p.0 p.0) (has ps p.0) (itself p.0))) ∙ h.0,
  held ps env env' ws h.1 (record { at = λ n e. s.at n (or_right (is_word p.0 n) (has ps n) e) }),
)

pub holding : (text : Input) (ps : Visible) (env : Environment) (i : ℕ) (ws : List Value) → Holds ps env ws →
    HaveValues text env i (arguments [] ps) ws
holding text [] env i [] h = no_values
holding text [] env i (w ∷ ws) h = absurd h
holding text (p ∷ ps) env i [] h = absurd h
holding text (p ∷ ps) env i (w ∷ ws) h =
    next_value (Variable p.0) (arguments [] ps) w ws h.0 (holding text ps env i ws h.1)

pub held_by : (text : Input) (ps : Visible) (env : Environment) (i : ℕ) (ws : List Value) →
    HaveValues text env i (arguments [] ps) ws → Holds ps env ws
held_by text [] env i [] no_values = tt
held_by text [] env i (w ∷ ws) hs = elim hs [ ]
held_by text (p ∷ ps) env i ws1 (next_value e es w ws h hs) = (h, held_by text ps env i ws hs)

pub bound_to : (ps : Visible) (env : Environment) (ws : List Value) → Holds ps env ws →
    AreBound (params_of ps) ws (zipped ps ws)
bound_to [] env [] h = no_parameters
bound_to [] env (w ∷ ws) h = absurd h
bound_to (p ∷ ps) env [] h = absurd h
bound_to (p ∷ ps) env (w ∷ ws) h =
    next_parameter (record { name = p.0; kind = p.1 }) (params_of ps) w ws _ (zipped ps ws) (bound_to ps env ws h.1)
    refl

pub bound_from : (ps : Visible) (ws : List Value) (env : Environment) → AreBound (params_of ps) ws env →
    env ≡ zipped ps ws
bound_from [] [] env no_parameters = refl
bound_from [] (w ∷ ws) env bound = elim bound [ ]
bound_from (p ∷ ps) ws1 env (next_parameter q qs w ws env1 others bound whole) = whole ∙
    ap (λ z. (p.0, w) ∷ z) (bound_from ps ws others bound)

found_first : (t : Bool) (p : List ℕ) (n : List ℕ) (w : Value) (env : Environment) (o : Option Value) →
    is_word p n ≡ t → find env p ≡ Some w →
    (t ≡ false → o ≡ find env n) → cond t (Some w) o ≡ find env n
found_first true p n w env o e h rest = sym h ∙ ap (find env) ((bytes_decides p n).0 e)
found_first false p n w env o e h rest = rest refl

pub zipped_found : (ps : Visible) (env : Environment) (ws : List Value) (n : List ℕ) → Holds ps env ws →
    has ps n ≡ true → find (zipped ps ws) n ≡ find env n
zipped_found [] env ws n h e = absurd (cc)
zipped_found (p ∷ ps) env [] n h e = absurd h
zipped_found (p ∷ ps) env (w ∷ ws) n h e =
    find_cons p.0 w (zipped ps ws) n ∙
    found_first (is_word p.0 n) p.0 n w env (find (zipped ps ws) n) refl h.0
    (λ f. zipped_found ps env ws n h.1 (sym (ap (λ z. z || has ps n) f) ∙ e))

pub zipped_unfound : (ps : Visible) (ws : List Value) (n : List ℕ) → has ps n ≡ false → find (zipped ps ws) n ≡ None
zipped_unfound [] ws n e = refl
zipped_unfound (p ∷ ps) [] n e = refl
zipped_unfound (p ∷ ps) (w ∷ ws) n e =
    find_cons p.0 w (zipped ps ws) n ∙ go (is_word p.0 n) refl (zipped_unfound ps ws n)
  where
    go : (t : Bool) → is_word p.0 n ≡ t → (has ps n ≡ false → find (zipped ps ws) n ≡ None) →
        cond t (Some w) (find (zipped ps ws) n) ≡ None
    go true f below = let bad : true ≡ false = sym (ap (λ z. z || has ps n) f) ∙ e in absurd (cc)
    go false f below = below (sym (ap (λ z. z || has ps n) f) ∙ e)

pub has_keep : (p : List ℕ → Bool) (v : Visible) (n : List ℕ) → has (keep p v) n ≡ (has v n && p n)
has_keep p [] n = refl
has_keep p (x ∷ v) n = go (p x.0) refl (is_word x.0 n) refl (has_keep p v n)
  where
    go : (t : Bool) → p x.0 ≡ t → (u : Bool) → is_word x.0 n ≡ u → has (keep p v) n ≡ (has v n && p n) →
        has (cond t (x ∷ keep p v) (keep p v)) n ≡ ((u || has v n) && p n)
    go true e true f below = ap (λ z. z || has (keep p v) n) f ∙ sym e ∙ ap p ((bytes_decides x.0 n).0 f)
    go true e false f below = ap (λ z. z || has (keep p v) n) f ∙ below
    go false e true f below =
        let none : p n ≡ false = sym (ap p ((bytes_decides x.0 n).0 f)) ∙ e in
        below ∙ ap (λ z. has v n && z) none ∙ and-false (has v n) ∙ sym none
    go false e false f below = below

either : (h a w : Bool) → ((h && (not a && w)) || (h && (a && w))) ≡ (h && w)
either true true w = refl
either true false w = or-false w
either false a w = refl

pub has_params : (v : Visible) (wanted : List ℕ → Bool) (n : List ℕ) →
    has (params_for v wanted) n ≡ (has v n && wanted n)
has_params v wanted n =
    has_append (keep (λ n. not (is_added n) && wanted n) v) (keep (λ n. is_added n && wanted n) v) n ∙
    (λ z. has_keep (λ n. not (is_added n) && wanted n) v n z || has_keep (λ n. is_added n && wanted n) v n z) ∙
    either (has v n) (is_added n) (wanted n)

-- the environment of an added declaration agrees with the one in which its list stands
pub record Entered (v : Visible) (wanted : List ℕ → Bool) (env : Environment) : Type 0 where
  pub ws : List Value
  pub holds : Holds (params_for v wanted) env ws

pub enter : (v : Visible) (wanted : List ℕ → Bool) (env : Environment) → Binds v env → Entered v wanted env
enter v wanted env binds =
    let g =
    given (params_for v wanted) env
    (λ n e. binds.at n ∙ (and_parts (has v n) (wanted n) (sym (has_params v wanted n) ∙ e)).0) in
    record { ws = g.0; holds = g.1 }

pub entered_agrees : (v : Visible) (wanted : List ℕ → Bool) (env : Environment) (ws : List Value) → Binds v env →
    Holds (params_for v wanted) env ws →
    Agree wanted env (zipped (params_for v wanted) ws)
entered_agrees v wanted env ws binds holds = record { at = λ n w. go n w (has v n) refl }
  where
    go : (n : List ℕ) → wanted n ≡ true → (t : Bool) → has v n ≡ t →
        find env n ≡ find (zipped (params_for v wanted) ws) n
    go n w true e =
        sym
        (zipped_found (params_for v wanted) env ws n holds
        (has_params v wanted n ∙ and_from (has v n) (wanted n) e w))
    go n w false e = is_none (find env n) (binds.at n ∙ e) ∙
        sym (zipped_unfound (params_for v wanted) ws n (has_params v wanted n ∙ ap (λ z. z && wanted n) e))

pub params_wanted : (v : Visible) (wanted : List ℕ → Bool) (env env' : Environment) → Agree wanted env env' →
    Agree (has (params_for v wanted)) env env'
params_wanted v wanted env env' s =
    record { at = λ n e. s.at n (and_parts (has v n) (wanted n) (sym (has_params v wanted n) ∙ e)).1 }

pub binds_parameters : (ps : List Param) (ws : List Value) (env : Environment) → AreBound ps ws env →
    Binds (parameters ps) env
binds_parameters [] [] env no_parameters = record { at = λ n. refl }
binds_parameters [] (w ∷ ws) env bound = elim bound [ ]
binds_parameters (p ∷ ps) ws1 env (next_parameter q qs w ws env1 others bound whole) =
    let below = binds_parameters ps ws others bound in
    record {
      at = λ n. ap (λ z. is_some (find z n)) whole ∙ ap is_some (find_cons p.name w others n) ∙
          some_cond (is_word p.name n) w (find others n) ∙
          ap (λ z. is_word p.name n || z) (below.at n);
    }
