-- Expressions of the source have the same values beside bounds.
use Rattle.std.proofs.Common.{◌≡◌, ℕ, suc, ◌+◌, ◌≤◌, Bool, true, false, List, [], ◌∷◌, ◌++◌, refl, sym, ◌∙◌, ap, subst, length, length-append, cond, Option, Some, append_assoc, arith}
use Rattle.std.specs.Prelude.{◌≢◌, option_and_then, pos, int_le}
use Rattle.std.proofs.lemmas.Bool.Decides.{nat_tests}
use Rattle.std.proofs.lemmas.List.{append-nil}
use Rattle.ig_expr.specs.Expression.{Expression, Integer, Truth, Here, Variable, Not, Negative, Binary, Of, Same, Spells, Outer, Inside, FreeBefore, FreeAfter}
use Rattle.ig_expr.specs.Names.{look_up}
use Rattle.ig_text.specs.Input.{Input}
use Rattle.ig_text.specs.Words.{is_word}
use Rattle.ig_text.proofs.Positions.{beside-cons}
use Rattle.ig_text.proofs.Characters.{differs}
use Rattle.ig_expr.specs.Evaluation.{value_of, with_two}
use Rattle.ig_expr.specs.Operations.{negation, opposite, operation}
use Rattle.ig_expr.specs.Reading.{applied, same, spells}
use Rattle.ig_expr.specs.Blocks.{outer, inside}
use Rattle.ig_expr.specs.declared.operator.Op.TheVariants.{GreaterEqual}
use Rattle.ig_expr.specs.declared.value.Value.{Value}
use Rattle.ig_expr.specs.declared.value.Value.TheVariants as value
use Rattle.ig_grammar.specs.Binding.{Binding}
use Rattle.ig_meaning.specs.Environment.{Environment, HasValue, HaveValues, no_values, next_value, names, values, with_value, replaced, AreBound, no_parameters, next_parameter}
use Rattle.ig_grammar.specs.declared.declaration.Param.{Param}
use Rattle.ig_levels.specs.Levels.{Pair, added_parameters, pair_arguments}
use Rattle.ig_pass.specs.Added.{left_name, right_name}
use Rattle.ig_levels.proofs.WithBounds.{Bounds, unbounded, bounded, bounds_of, bound_values, bound_pairs, IsSource, Inserted, here, behind, PairHas, OfSource, AllOfSource, BindingsOfSource, ParametersOfSource}

-- the value of the name in the environment
abbrev pub find : Environment → List ℕ → Option Value
find env x = look_up (names env) (values env) x

find_cons : (n : List ℕ) (v : Value) (rest : Environment) (x : List ℕ) → find ((n, v) ∷ rest) x ≡ cond (is_word n x) (Some v) (find rest x)
find_cons n v rest x =
    beside-cons (λ z. is_word z x) n (names rest) v (values rest)

find_next : (n : List ℕ) (v : Value) (rest : Environment) (x : List ℕ) → n ≢ x → find ((n, v) ∷ rest) x ≡ find rest x
find_next n v rest x other = find_cons n v rest x ∙ ap (λ b. cond b (Some v) (find rest x)) (differs n x other)

past_bounds : (b : Bounds) (rest : Environment) (x : List ℕ) → IsSource x → find (bound_pairs b ++ rest) x ≡ find rest x
past_bounds unbounded rest x s = refl
past_bounds (bounded l r) rest x s =
    find_next left_name (value.Int (pos l)) ((right_name, value.Int (pos r)) ∷ rest) x (λ e. s.not_left (sym e)) ∙
    find_next right_name (value.Int (pos r)) rest x (λ e. s.not_right (sym e))

both_found : (n : List ℕ) (v : Value) (rest env : Environment) (x : List ℕ) → find env x ≡ find rest x → find ((n, v) ∷ env) x ≡ find ((n, v) ∷ rest) x
both_found n v rest env x e = find_cons n v env x ∙ ap (cond (is_word n x) (Some v)) e ∙ sym (find_cons n v rest x)

pub same_found : {b : Bounds} {env env' : Environment} → Inserted b env env' → (x : List ℕ) → IsSource x → find env' x ≡ find env x
same_found {b = b} (here rest env e) x s = ap (λ z. find z x) e ∙ past_bounds b rest x s
same_found (behind name v rest env source ins) x s = both_found name v rest env x (same_found ins x s)

pub left_found : {b : Bounds} {env env' : Environment} → Inserted b env env' → (l r : ℕ) → b ≡ bounded l r →
    find env' left_name ≡ Some (value.Int (pos l))
left_found (here rest env e) l r same =
    ap (λ z. find z left_name) (e ∙ ap (λ z. bound_pairs z ++ rest) same) ∙
    find_cons left_name (value.Int (pos l)) ((right_name, value.Int (pos r)) ∷ rest) left_name
left_found (behind name v rest env source ins) l r same = find_next name v env left_name source.not_left ∙ left_found ins l r same

pub right_found : {b : Bounds} {env env' : Environment} → Inserted b env env' → (l r : ℕ) → b ≡ bounded l r →
    find env' right_name ≡ Some (value.Int (pos r))
right_found (here rest env e) l r same =
    ap (λ z. find z right_name) (e ∙ ap (λ z. bound_pairs z ++ rest) same) ∙
    find_cons left_name (value.Int (pos l)) ((right_name, value.Int (pos r)) ∷ rest) right_name ∙
    find_cons right_name (value.Int (pos r)) rest right_name
right_found (behind name v rest env source ins) l r same = find_next name v env right_name source.not_right ∙ right_found ins l r same

pub appended : {b : Bounds} {env env' : Environment} → Inserted b env env' → (xs : Environment) → Inserted b (env ++ xs) (env' ++ xs)
appended {b = b} (here rest env e) xs = here (rest ++ xs) (env ++ xs) (ap (λ z. z ++ xs) e ∙ append_assoc (bound_pairs b) rest xs)
appended (behind name v rest env source ins) xs = behind name v (rest ++ xs) (env ++ xs) source (appended ins xs)

past_new : (b : Bounds) (rest : Environment) (name : List ℕ) (v : Value) → IsSource name →
    with_value (bound_pairs b ++ rest) name v ≡ bound_pairs b ++ with_value rest name v
past_new unbounded rest name v s = refl
past_new (bounded l r) rest name v s =
    let p : is_word left_name name ≡ false = differs left_name name (λ e. s.not_left (sym e)) in
    let q : is_word right_name name ≡ false = differs right_name name (λ e. s.not_right (sym e)) in
    rw (p, q) refl

pub renewed : {b : Bounds} {env env' : Environment} → Inserted b env env' → (name : List ℕ) (v : Value) → IsSource name →
    Inserted b (with_value env name v) (with_value env' name v)
renewed {b = b} (here rest env e) name v s = here (with_value rest name v) (with_value env name v) (ap (λ z. with_value z name v) e ∙ past_new b rest name v s)
renewed {b = b} (behind n w rest env source ins) name v s = go (is_word n name) (renewed ins name v s)
  where
    go : (t : Bool) → Inserted b (with_value rest name v) (with_value env name v) →
        Inserted b (cond t ((name, v) ∷ rest) ((n, w) ∷ with_value rest name v)) (cond t ((name, v) ∷ env) ((n, w) ∷ with_value env name v))
    go true below = behind name v rest env s ins
    go false below = behind n w (with_value rest name v) (with_value env name v) source below

pub all_renewed : {b : Bounds} (bs : List Binding) (vs : List Value) (env env' : Environment) → Inserted b env env' → BindingsOfSource bs →
    Inserted b (replaced env bs vs) (replaced env' bs vs)
all_renewed [] vs env env' ins s = ins
all_renewed (b ∷ bs) [] env env' ins s = ins
all_renewed (b ∷ bs) (v ∷ vs) env env' ins s = all_renewed bs vs (with_value env b.name v) (with_value env' b.name v) (renewed ins b.name v s.0) s.2

module _ (text : Input) where
  abbrev valued : Environment → ℕ → Expression → Option Value
  valued env i e = value_of text (names env) (values env) i e

  pub same_value : (e : Expression) {b : Bounds} {env env' : Environment} → Inserted b env env' → (i : ℕ) → OfSource e → valued env' i e ≡ valued env i e
  same_value (Integer n) ins i s = refl
  same_value (Truth b) ins i s = refl
  same_value Here ins i s = refl
  same_value (Variable x) ins i s = same_found ins x s
  same_value (Not a) ins i s = ap (option_and_then negation) (same_value a ins i s)
  same_value (Negative a) ins i s = ap (option_and_then opposite) (same_value a ins i s)
  same_value (Binary op a b) ins i s = λ z. with_two (operation op) (same_value a ins i s.0 z) (same_value b ins i s.1 z)
  same_value (Of f a) ins i s = ap (option_and_then (applied text f)) (same_value a ins i s)
  same_value (Same a b) ins i s = λ z. with_two (same text) (same_value a ins i s.0 z) (same_value b ins i s.1 z)
  same_value (Spells a word) ins i s = ap (option_and_then (spells text word)) (same_value a ins i s)
  same_value (Outer a b) ins i s = λ z. with_two (outer text i) (same_value a ins i s.0 z) (same_value b ins i s.1 z)
  same_value (Inside a b) ins i s = λ z. with_two (inside text i) (same_value a ins i s.0 z) (same_value b ins i s.1 z)
  same_value (FreeBefore pattern) ins i s = refl
  same_value (FreeAfter pattern) ins i s = refl

  pub has_to : {b : Bounds} {env env' : Environment} → Inserted b env env' → (i : ℕ) (e : Expression) (v : Value) → OfSource e →
      HasValue text env i e v → HasValue text env' i e v
  has_to ins i e v s h = same_value e ins i s ∙ h

  pub has_from : {b : Bounds} {env env' : Environment} → Inserted b env env' → (i : ℕ) (e : Expression) (v : Value) → OfSource e →
      HasValue text env' i e v → HasValue text env i e v
  has_from ins i e v s h = sym (same_value e ins i s) ∙ h

  pub have_to : {b : Bounds} {env env' : Environment} → Inserted b env env' → (i : ℕ) (es : List Expression) (vs : List Value) → AllOfSource es →
      HaveValues text env i es vs → HaveValues text env' i es vs
  have_to ins i es vs s no_values = no_values
  have_to ins i es1 vs1 s (next_value e es v vs h hs) = next_value e es v vs (has_to ins i e v s.0 h) (have_to ins i es vs s.1 hs)

  pub have_from : {b : Bounds} {env env' : Environment} → Inserted b env env' → (i : ℕ) (es : List Expression) (vs : List Value) → AllOfSource es →
      HaveValues text env' i es vs → HaveValues text env i es vs
  have_from ins i es vs s no_values = no_values
  have_from ins i es1 vs1 s (next_value e es v vs h hs) = next_value e es v vs (has_from ins i e v s.0 h) (have_from ins i es vs s.1 hs)

  pair_to : (env : Environment) (i : ℕ) (pair : Pair) (l r : ℕ) (levelled : Bool) → PairHas text env i pair l r →
      HaveValues text env i (pair_arguments levelled pair) (bound_values (bounds_of levelled l r))
  pair_to env i pair l r true has =
      next_value pair.left (pair.right ∷ []) (value.Int (pos l)) (value.Int (pos r) ∷ []) has.left (next_value pair.right [] (value.Int (pos r)) [] has.right no_values)
  pair_to env i pair l r false has = no_values

  pub arguments_to : {env : Environment} {i : ℕ} {es : List Expression} {vs : List Value} → HaveValues text env i es vs →
      (pair : Pair) (l r : ℕ) (levelled : Bool) → PairHas text env i pair l r →
      HaveValues text env i (es ++ pair_arguments levelled pair) (vs ++ bound_values (bounds_of levelled l r))
  arguments_to {env = env} {i = i} no_values pair l r levelled has = pair_to env i pair l r levelled has
  arguments_to (next_value e es v vs h hs) pair l r levelled has =
      next_value e (es ++ pair_arguments levelled pair) v (vs ++ bound_values (bounds_of levelled l r)) h (arguments_to hs pair l r levelled has)

  same_int : (v : Value) (n : ℕ) (o : Option Value) → o ≡ Some v → o ≡ Some (value.Int (pos n)) → v ≡ value.Int (pos n)
  same_int v n o e f = let both : Some v ≡ Some (value.Int (pos n)) = sym e ∙ f in cc

  pair_from : (env : Environment) (i : ℕ) (pair : Pair) (l r : ℕ) (levelled : Bool) (ws : List Value) → PairHas text env i pair l r →
      HaveValues text env i (pair_arguments levelled pair) ws → ws ≡ bound_values (bounds_of levelled l r)
  pair_from env i pair l r true ws1 has (next_value e es v vs h (next_value f fs w ws k no_values)) =
      λ z. same_int v l (valued env i e) h has.left z ∷ same_int w r (valued env i f) k has.right z ∷ []
  pair_from env i pair l r false ws has no_values = refl

  pub record ArgumentsFrom (env : Environment) (i : ℕ) (es : List Expression) (added : List Value) (ws : List Value) : Type 0 where
    pub before : List Value
    pub have : HaveValues text env i es before
    pub whole : ws ≡ before ++ added

  pub arguments_from : (env : Environment) (i : ℕ) (es : List Expression) (pair : Pair) (l r : ℕ) (levelled : Bool) (ws : List Value) →
      PairHas text env i pair l r → HaveValues text env i (es ++ pair_arguments levelled pair) ws →
      ArgumentsFrom env i es (bound_values (bounds_of levelled l r)) ws
  arguments_from env i [] pair l r levelled ws has hs = record { before = []; have = no_values; whole = pair_from env i pair l r levelled ws has hs }
  arguments_from env i (e ∷ es) pair l r levelled ws1 has (next_value e1 es1 v vs h hs) =
      let below = arguments_from env i es pair l r levelled vs has hs in
      record { before = v ∷ below.before; have = next_value e es v below.before h below.have; whole = ap (λ z. v ∷ z) below.whole }

  -- a test of a level
  pub test_to : (env : Environment) (i level l : ℕ) (name : List ℕ) → find env name ≡ Some (value.Int (pos l)) → l ≤ level →
      HasValue text env i (Binary GreaterEqual (Integer (pos level)) (Variable name)) (value.Bool true)
  test_to env i level l name found within =
      ap (with_two (operation GreaterEqual) (Some (value.Int (pos level)))) found ∙
      (let is : int_le (pos l) (pos level) ≡ true = grind (arith, nat_tests) in ap (λ b. Some (value.Bool b)) is)

  pub test_from : (env : Environment) (i level l : ℕ) (name : List ℕ) → find env name ≡ Some (value.Int (pos l)) →
      HasValue text env i (Binary GreaterEqual (Integer (pos level)) (Variable name)) (value.Bool true) → l ≤ level
  test_from env i level l name found has =
      let both : Some (value.Bool (int_le (pos l) (pos level))) ≡ Some (value.Bool true) =
      sym (ap (with_two (operation GreaterEqual) (Some (value.Int (pos level)))) found) ∙ has in
      let is : int_le (pos l) (pos level) ≡ true = cc in
      grind (arith, nat_tests)

-- parameters
added_to : (levelled : Bool) (l r : ℕ) → AreBound (added_parameters levelled) (bound_values (bounds_of levelled l r)) (bound_pairs (bounds_of levelled l r))
added_to true l r = next_parameter _ _ (value.Int (pos l)) (value.Int (pos r) ∷ []) _ _ (next_parameter _ _ (value.Int (pos r)) [] _ _ no_parameters refl) refl
added_to false l r = no_parameters

pub bound_to : {ps : List Param} {vs : List Value} {env : Environment} → AreBound ps vs env → (levelled : Bool) (l r : ℕ) →
    AreBound (ps ++ added_parameters levelled) (vs ++ bound_values (bounds_of levelled l r)) (env ++ bound_pairs (bounds_of levelled l r))
bound_to no_parameters levelled l r = added_to levelled l r
bound_to (next_parameter p ps v vs env others bound same) levelled l r =
    next_parameter p (ps ++ added_parameters levelled) v (vs ++ bound_values (bounds_of levelled l r)) (env ++ bound_pairs (bounds_of levelled l r))
    (others ++ bound_pairs (bounds_of levelled l r)) (bound_to bound levelled l r) (ap (λ z. z ++ bound_pairs (bounds_of levelled l r)) same)

pub parameters_inserted : {ps : List Param} {vs : List Value} {env : Environment} → AreBound ps vs env → ParametersOfSource ps → (b : Bounds) →
    Inserted b env (env ++ bound_pairs b)
parameters_inserted no_parameters s b = here [] (bound_pairs b) (sym (append-nil (bound_pairs b)))
parameters_inserted (next_parameter p ps v vs env others bound same) s b =
    subst (λ (z : Environment). Inserted b z (z ++ bound_pairs b)) (sym same) (behind p.name v others (others ++ bound_pairs b) s.0 (parameters_inserted bound s.1 b))

pub record BoundFrom (b : Bounds) (ps : List Param) (vs : List Value) (env' : Environment) : Type 0 where
  pub env : Environment
  pub bound : AreBound ps vs env
  pub whole : env' ≡ env ++ bound_pairs b

added_from : (levelled : Bool) (l r : ℕ) (vs : List Value) (env' : Environment) →
    AreBound (added_parameters levelled) (vs ++ bound_values (bounds_of levelled l r)) env' → BoundFrom (bounds_of levelled l r) [] vs env'
added_from true l r [] env' (next_parameter p ps v vs env others (next_parameter q qs w ws env1 others1 no_parameters same1) same) =
    record { env = []; bound = no_parameters; whole = same ∙ ap (λ z. (left_name, value.Int (pos l)) ∷ z) same1 }
added_from true l r (x ∷ []) env' (next_parameter p ps v vs env others (next_parameter q qs w ws env1 others1 bound same1) same) = elim bound [ ]
added_from true l r (x ∷ y ∷ xs) env' (next_parameter p ps v vs env others (next_parameter q qs w ws env1 others1 bound same1) same) = absurd (too_many xs others1 bound)
  where
    too_many : (xs : List Value) (e : Environment) → AreBound [] (xs ++ value.Int (pos l) ∷ value.Int (pos r) ∷ []) e → ⊥
    too_many [] e bound = elim bound [ ]
    too_many (x ∷ xs) e bound = elim bound [ ]
added_from false l r [] env' no_parameters = record { env = []; bound = no_parameters; whole = refl }
added_from false l r (x ∷ xs) env' bound = elim bound [ ]

bound_length : {ps : List Param} {vs : List Value} {env : Environment} → AreBound ps vs env → length ps ≡ length vs
bound_length no_parameters = refl
bound_length (next_parameter p ps v vs env others bound whole) = ap suc (bound_length bound)

pub bound_from : (ps : List Param) (vs : List Value) (levelled : Bool) (l r : ℕ) (env' : Environment) →
    AreBound (ps ++ added_parameters levelled) (vs ++ bound_values (bounds_of levelled l r)) env' → BoundFrom (bounds_of levelled l r) ps vs env'
bound_from [] vs levelled l r env' bound = added_from levelled l r vs env' bound
bound_from (p ∷ ps) [] levelled l r env' bound = absurd (too_few levelled bound)
  where
    too_few : (t : Bool) → AreBound (p ∷ ps ++ added_parameters t) (bound_values (bounds_of t l r)) env' → ⊥
    too_few true bound =
        let e : suc (length (ps ++ added_parameters true)) ≡ 2 = bound_length bound in
        let f : length (ps ++ added_parameters true) ≡ length ps + 2 = length-append ps (added_parameters true) in
        let g : ⊥ = omega (arith, e, f) in g
    too_few false bound = elim bound [ ]
bound_from (p ∷ ps) (v ∷ vs) levelled l r env1 (next_parameter p1 ps1 v1 vs1 env others bound same) =
    let below = bound_from ps vs levelled l r others bound in
    record {
      env = (p.name, v) ∷ below.env;
      bound = next_parameter p ps v vs ((p.name, v) ∷ below.env) below.env below.bound refl;
      whole = same ∙ ap (λ z. (p.name, v) ∷ z) below.whole;
    }
