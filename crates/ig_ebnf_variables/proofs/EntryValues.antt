-- The bindings of an entry, as arguments.
use Rattle.std.proofs.Common.{◌≡◌, ℕ, Bool, true, false, List, [], ◌∷◌, map, refl, sym, ◌∙◌, ap, subst, cond, Option}
use Rattle.std.proofs.Common.{Some, None}
use Rattle.std.proofs.lemmas.Bool.{or_left, or_right}
use Rattle.std.proofs.Math.Bool.{or-false, or_assoc}
use Rattle.std.specs.Prelude.{◌||◌, is_some}
use Rattle.std.specs.Cmp.Lexicographic.{bytes_decides}
use Rattle.ig_ebnf_variables.proofs.Definitions.{has, find, Binds, Agree, BindingsFit}
use Rattle.ig_ebnf_variables.proofs.Environments.{find_cons, valued, same_value}
use Rattle.ig_ebnf_variables.proofs.Environments.{is_found, Holds}
use Rattle.ig_ebnf_variables.specs.Lists.{argument, arguments}
use Rattle.ig_expr.specs.declared.kind.Kind.{Kind}
use Rattle.ig_expr.specs.declared.value.Value.{Value}
use Rattle.ig_grammar.specs.Binding.{Binding}
use Rattle.ig_grammar.specs.Visible.{Visible, with_kind}
use Rattle.ig_meaning.specs.Environment.{Environment, HaveValues, no_values, next_value, with_value, replaced}
use Rattle.ig_pass.specs.Needs.{uses, bindings_use, is_bound}
use Rattle.ig_text.specs.Input.{Input}
use Rattle.ig_text.specs.Words.{is_word}
use Rattle.ig_text.proofs.Characters.{itself}
use Rattle.ig_grammar.specs.Visible as visible

or_twice : (a b : Bool) → (a || (b || a)) ≡ (a || b)
or_twice true b = refl
or_twice false b = or-false b

find_with : (env : Environment) (m : List ℕ) (w : Value) (n : List ℕ) →
    find (with_value env m w) n ≡ cond (is_word m n) (Some w) (find env n)
find_with [] m w n = find_cons m w [] n
find_with (p ∷ env) m w n = go (is_word p.0 m) refl (find_with env m w n)
  where
    inner : (t u : Bool) (a b : Option Value) → (t ≡ true → u ≡ false) →
        cond u (Some p.1) (cond t (Some w) (find env n)) ≡ cond t (Some w) (cond u (Some p.1) (find env n))
    inner true true a b h = let bad : true ≡ false = h refl in absurd (cc)
    inner true false a b h = refl
    inner false u a b h = refl

    go : (t : Bool) → is_word p.0 m ≡ t → find (with_value env m w) n ≡ cond (is_word m n) (Some w) (find env n) →
        find (cond t ((m, w) ∷ env) (p ∷ with_value env m w)) n ≡ cond (is_word m n) (Some w) (find (p ∷ env) n)
    go true e below =
        let same : p.0 ≡ m = (bytes_decides p.0 m).0 e in
        find_cons m w env n ∙ twice (is_word m n) ∙
        sym
        (ap (cond (is_word m n) (Some w))
        (find_cons p.0 p.1 env n ∙ ap (λ z. cond (is_word z n) (Some p.1) (find env n)) same))
      where
        twice : (t : Bool) → cond t (Some w) (find env n) ≡ cond t (Some w) (cond t (Some p.1) (find env n))
        twice true = refl
        twice false = refl
    go false e below =
        find_cons p.0 p.1 (with_value env m w) n ∙ ap (cond (is_word p.0 n) (Some p.1)) below ∙
        inner (is_word m n) (is_word p.0 n) None None
        (λ h. apart (is_word p.0 n) refl h) ∙
        sym (ap (cond (is_word m n) (Some w)) (find_cons p.0 p.1 env n))
      where
        apart : (u : Bool) → is_word p.0 n ≡ u → is_word m n ≡ true → u ≡ false
        apart true f h =
            let bad : true ≡ false =
            sym ((bytes_decides p.0 m).1 ((bytes_decides p.0 n).0 f ∙ sym ((bytes_decides m n).0 h))) ∙ e in
            absurd (cc)
        apart false f h = refl

has_with : (v : Visible) (m : List ℕ) (k : Kind) (n : List ℕ) →
    has (with_kind v m (Some k)) n ≡ (has v n || is_word m n)
has_with [] m k n = or-false (is_word m n)
has_with (p ∷ v) m k n = go (is_word p.0 m) refl (has_with v m k n)
  where
    around : (a b : Bool) → (a || b) ≡ ((a || b) || a)
    around true b = refl
    around false b = sym (or-false b)

    go : (t : Bool) → is_word p.0 m ≡ t → has (with_kind v m (Some k)) n ≡ (has v n || is_word m n) →
        has (cond t ((m, k) ∷ v) (p ∷ with_kind v m (Some k))) n ≡ ((is_word p.0 n || has v n) || is_word m n)
    go true e below =
        let same : p.0 ≡ m = (bytes_decides p.0 m).0 e in
        around (is_word m n) (has v n) ∙ ap (λ z. (is_word z n || has v n) || is_word m n) (sym same)
    go false e below = ap (λ z. is_word p.0 n || z) below ∙ sym (or_assoc (is_word p.0 n) (has v n) (is_word m n))

some_with : (t : Bool) (w : Value) (o : Option Value) → is_some (cond t (Some w) o) ≡ (is_some o || t)
some_with true w None = refl
some_with true w (Some x) = refl
some_with false w o = sym (or-false (is_some o))

binds_with : (v : Visible) (env : Environment) (m : List ℕ) (k : Kind) (w : Value) → Binds v env →
    Binds (with_kind v m (Some k)) (with_value env m w)
binds_with v env m k w b =
    record {
      at = λ n. ap is_some (find_with env m w n) ∙ some_with (is_word m n) w (find env n) ∙
          ap (λ z. z || is_word m n) (b.at n) ∙ sym (has_with v m k n);
    }

pub binds_replaced : (text : Input) (outer : Visible) (wanted : List ℕ → Bool) (bs : List Binding) (vs : List Value)
    (i : ℕ) (base : Environment) (v : Visible) (env : Environment) →
    BindingsFit outer wanted bs → HaveValues text base i (map (λ b. b.value) bs) vs → Binds v env →
    Binds (visible.replaced outer v bs) (replaced env bs vs)
binds_replaced text outer wanted [] vs i base v env fit have b = b
binds_replaced text outer wanted (c ∷ bs) vs1 i base v env fit (next_value e es w ws h hs) b =
    subst (λ z. Binds (visible.replaced outer (with_kind v c.name z) bs) (replaced (with_value env c.name w) bs ws))
    (sym fit.0.1)
    (binds_replaced text outer wanted bs ws i base (with_kind v c.name (Some fit.0.0)) (with_value env c.name w) fit.3
    hs
    (binds_with v env c.name fit.0.0 w b))

pub has_replaced : (outer : Visible) (wanted : List ℕ → Bool) (v : Visible) (bs : List Binding) (n : List ℕ) →
    BindingsFit outer wanted bs →
    has (visible.replaced outer v bs) n ≡ (has v n || is_bound n bs)
has_replaced outer wanted v [] n fit = sym (or-false (has v n))
has_replaced outer wanted v (c ∷ bs) n fit =
    ap (λ z. has (visible.replaced outer (with_kind v c.name z) bs) n) fit.0.1 ∙
    has_replaced outer wanted (with_kind v c.name (Some fit.0.0)) bs n fit.3 ∙
    ap (λ z. z || is_bound n bs) (has_with v c.name fit.0.0 n) ∙
    or_assoc (has v n) (is_word c.name n) (is_bound n bs)

replaced_other : (bs : List Binding) (vs : List Value) (env : Environment) (n : List ℕ) → is_bound n bs ≡ false →
    find (replaced env bs vs) n ≡ find env n
replaced_other [] vs env n e = refl
replaced_other (b ∷ bs) [] env n e = refl
replaced_other (b ∷ bs) (v ∷ vs) env n e =
    go (is_word b.name n) refl (replaced_other bs vs (with_value env b.name v) n)
  where
    go : (t : Bool) → is_word b.name n ≡ t →
        (is_bound n bs ≡ false →
        find (replaced (with_value env b.name v) bs vs) n ≡ find (with_value env b.name v) n) →
        find (replaced (with_value env b.name v) bs vs) n ≡ find env n
    go true f below = let bad : true ≡ false = sym (ap (λ z. z || is_bound n bs) f) ∙ e in absurd (cc)
    go false f below =
        below (sym (ap (λ z. z || is_bound n bs) f) ∙ e) ∙ find_with env b.name v n ∙
        ap (λ z. cond z (Some v) (find env n)) f

-- the value of an argument is that of the variable inside
pub argument_value : (text : Input) (outer : Visible) (wanted : List ℕ → Bool) (bs : List Binding) (vs : List Value)
    (i : ℕ) (base env' env : Environment) (n : List ℕ) →
    BindingsFit outer wanted bs → HaveValues text base i (map (λ b. b.value) bs) vs →
    Agree (λ m. bindings_use m bs) base env' →
    (is_bound n bs ≡ false → find env n ≡ find env' n) →
    valued text env' i (argument bs n) ≡ find (replaced env bs vs) n
argument_value text outer wanted [] vs i base env' env n fit have s other = sym (other refl)
argument_value text outer wanted (b ∷ bs) vs1 i base env' env n fit (next_value e es w ws h hs) s other =
    go (is_word b.name n) refl
    (λ o. argument_value text outer wanted bs ws i base env' (with_value env b.name w) n fit.3 hs
    (record { at = λ m u. s.at m (or_right (uses m b.value) (bindings_use m bs) u) }) o)
  where
    go : (t : Bool) → is_word b.name n ≡ t →
        ((is_bound n bs ≡ false → find (with_value env b.name w) n ≡ find env' n) →
        valued text env' i (argument bs n) ≡ find (replaced (with_value env b.name w) bs ws) n) →
        valued text env' i (cond t b.value (argument bs n)) ≡ find (replaced (with_value env b.name w) bs ws) n
    go true f below =
        let here : b.name ≡ n = (bytes_decides b.name n).0 f in
        sym
        (same_value text b.value base env' i
        (record { at = λ m u. s.at m (or_left (uses m b.value) (bindings_use m bs) u) })) ∙ h ∙
        sym (find_with env b.name w n ∙ ap (λ z. cond z (Some w) (find env n)) f) ∙
        sym (replaced_other bs ws (with_value env b.name w) n (ap (λ z. is_bound z bs) (sym here) ∙ fit.2))
    go false f below =
        below
        (λ o. find_with env b.name w n ∙ ap (λ z. cond z (Some w) (find env n)) f ∙
        other (ap (λ z. z || is_bound n bs) f ∙ o))

-- arguments have these values where the parameters have them inside
pub arguments_to : (text : Input) (bs : List Binding) (ps : Visible) (i : ℕ) (env' within : Environment)
    (ws : List Value) →
    ((n : List ℕ) → has ps n ≡ true → valued text env' i (argument bs n) ≡ find within n) → Holds ps within ws →
    HaveValues text env' i (arguments bs ps) ws
arguments_to text bs [] i env' within [] same h = no_values
arguments_to text bs [] i env' within (w ∷ ws) same h = absurd h
arguments_to text bs (p ∷ ps) i env' within [] same h = absurd h
arguments_to text bs (p ∷ ps) i env' within (w ∷ ws) same h =
    next_value (argument bs p.0) (arguments bs ps) w ws
    (same p.0 (or_left (is_word p.0 p.0) (has ps p.0) (itself p.0)) ∙ h.0)
    (arguments_to text bs ps i env' within ws (λ n e. same n (or_right (is_word p.0 n) (has ps n) e)) h.1)

pub arguments_from : (text : Input) (bs : List Binding) (ps : Visible) (i : ℕ) (env' within : Environment)
    (ws : List Value) →
    ((n : List ℕ) → has ps n ≡ true → valued text env' i (argument bs n) ≡ find within n) →
    HaveValues text env' i (arguments bs ps) ws → Holds ps within ws
arguments_from text bs [] i env' within [] same no_values = tt
arguments_from text bs [] i env' within (w ∷ ws) same hs = elim hs [ ]
arguments_from text bs (p ∷ ps) i env' within ws1 same (next_value e es w ws h hs) = (
  sym (same p.0 (or_left (is_word p.0 p.0) (has ps p.0) (itself p.0))) ∙ h,
  arguments_from text bs ps i env' within ws (λ n e. same n (or_right (is_word p.0 n) (has ps n) e)) hs,
)

-- an argument that is there has a value
pub argument_has : (text : Input) (bs : List Binding) (ps : Visible) (i : ℕ) (env' : Environment) (ws : List Value)
    (n : List ℕ) →
    HaveValues text env' i (arguments bs ps) ws → has ps n ≡ true →
    is_some (valued text env' i (argument bs n)) ≡ true
argument_has text bs [] i env' ws n hs e = absurd (cc)
argument_has text bs (p ∷ ps) i env' ws1 n (next_value e1 es w ws h hs) e =
    go (is_word p.0 n) refl (argument_has text bs ps i env' ws n hs)
  where
    go : (t : Bool) → is_word p.0 n ≡ t → (has ps n ≡ true → is_some (valued text env' i (argument bs n)) ≡ true) →
        is_some (valued text env' i (argument bs n)) ≡ true
    go true f below = ap (λ z. is_some (valued text env' i (argument bs z))) (sym ((bytes_decides p.0 n).0 f)) ∙
        ap is_some h
    go false f below = below (sym (ap (λ z. z || has ps n) f) ∙ e)

pub bindings_valued : (text : Input) (outer : Visible) (wanted : List ℕ → Bool) (bs : List Binding) (i : ℕ)
    (env : Environment) → BindingsFit outer wanted bs →
    ((n : List ℕ) → is_bound n bs ≡ true → is_some (valued text env i (argument bs n)) ≡ true) →
    (vs : List Value) × HaveValues text env i (map (λ b. b.value) bs) vs
bindings_valued text outer wanted [] i env fit all = ([], no_values)
bindings_valued text outer wanted (b ∷ bs) i env fit all =
    let first : is_some (valued text env i b.value) ≡ true =
    ap (λ z. is_some (valued text env i (cond z b.value (argument bs b.name)))) (sym (itself b.name)) ∙
    all b.name (or_left (is_word b.name b.name) (is_bound b.name bs) (itself b.name)) in
    let here = is_found (valued text env i b.value) first in
    let rest = bindings_valued text outer wanted bs i env fit.3
    (λ n e. ap (λ z. is_some (valued text env i (cond z b.value (argument bs n))))
    (sym (other n (is_word b.name n) refl e)) ∙ all n (or_right (is_word b.name n) (is_bound n bs) e)) in
    (here.0 ∷ rest.0, next_value b.value (map (λ b. b.value) bs) here.0 rest.0 here.1 rest.1)
  where
    other : (n : List ℕ) (t : Bool) → is_word b.name n ≡ t → is_bound n bs ≡ true → is_word b.name n ≡ false
    other n true f e =
        let bad : true ≡ false = sym e ∙ ap (λ z. is_bound z bs) (sym ((bytes_decides b.name n).0 f)) ∙ fit.2 in
        absurd (cc)
    other n false f e = f
