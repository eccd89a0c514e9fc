-- Values in an environment with the added names.
use Rattle.std.proofs.Common.{◌≡◌, ◌≢◌, ◌∙◌, ℕ, if◌then◌else◌, List, [], ◌∷◌, ◌++◌, Option, Some, None, option_and_then, refl, sym, ap, ap₂}
use Rattle.std.specs.Option.{option_or}
use Rattle.ig_text.specs.Input.{Input}
use Rattle.ig_text.specs.Words.{is_word}
use Rattle.ig_text.proofs.Characters.{differs}
use Rattle.ig_expr.specs.Expression.{Expression}
use Rattle.ig_expr.specs.Expression as expression
use Rattle.ig_expr.specs.Evaluation.{value_of, with_two}
use Rattle.ig_expr.specs.Operations.{negation, opposite, operation}
use Rattle.ig_expr.specs.Reading.{applied, same, spells}
use Rattle.ig_expr.specs.Blocks.{outer, inside}
use Rattle.ig_expr.specs.declared.value.Value.{Value}
use Rattle.ig_grammar.specs.Binding.{Binding}
use Rattle.ig_meaning.specs.Environment.{Environment, names, values, HaveValues, no_values, next_value, with_value, replaced}
use Rattle.ig_blocks_parts.specs.Setting.{Setting}
use Rattle.ig_blocks_parts.proofs.Reading.{IsWritten, Reads, AllRead, BindingsRead, get, Agree, Keep}
use Rattle.ig_blocks_parts.proofs.Looking.{if_true, if_false, same_word, find_cons, find_snoc, put, find_put, find_pushed_other}

-- what is bound last is found where nothing before has the name
pub get_cons : (x : List ℕ) (v : Value) (env : Environment) (y : List ℕ) →
    get ((x, v) ∷ env) y ≡ (if is_word x y then Some v else get env y)
get_cons x v env y = find_cons x v env y

get_snoc : (env : Environment) (n : List ℕ) (v : Value) (y : List ℕ) →
    get (env ++ (n, v) ∷ []) y ≡ option_or (get env y) (if is_word n y then Some v else None)
get_snoc env n v y = find_snoc env n v y

with_is_put : (env : Environment) (n : List ℕ) (v : Value) → with_value env n v ≡ put env n v
with_is_put [] n v = refl
with_is_put (pair ∷ env) n v = ap (λ z. if is_word pair.0 n then (n, v) ∷ env else pair ∷ z) (with_is_put env n v)

-- a replaced value is found, and the others stay
get_with : (env : Environment) (n : List ℕ) (v : Value) (y : List ℕ) →
    get (with_value env n v) y ≡ (if is_word n y then Some v else get env y)
get_with env n v y = ap (λ z. get z y) (with_is_put env n v) ∙ find_put env n v y

pub get_same : (env : Environment) (n : List ℕ) (v : Value) → get (with_value env n v) n ≡ Some v
get_same env n v = get_with env n v n ∙ if_true (is_word n n) _ _ (same_word n n refl)

pub get_other : (env : Environment) (n : List ℕ) (v : Value) (y : List ℕ) → n ≢ y → get (with_value env n v) y ≡ get env y
get_other env n v y ne = get_with env n v y ∙ if_false (is_word n y) _ _ (differs n y ne)

module _ (s : Setting) where
  pub agree_bound : (env other : Environment) (n : List ℕ) (v : Value) → Agree s env other →
      Agree s (env ++ (n, v) ∷ []) (other ++ (n, v) ∷ [])
  agree_bound env other n v a =
      record { same = λ x w. get_snoc env n v x ∙ ap (λ z. option_or z (if is_word n x then Some v else None)) (a.same x w) ∙ sym (get_snoc other n v x) }

  pub agree_with : (env other : Environment) (n : List ℕ) (v : Value) → Agree s env other →
      Agree s (with_value env n v) (with_value other n v)
  agree_with env other n v a =
      record { same = λ x w. get_with env n v x ∙ ap (λ z. if is_word n x then Some v else z) (a.same x w) ∙ sym (get_with other n v x) }

  -- a hidden name may change
  pub agree_hidden : (env other after : Environment) → Agree s env other →
      ((x : List ℕ) → IsWritten s x → get after x ≡ get other x) → Agree s env after
  agree_hidden env other after a h = record { same = λ x w. a.same x w ∙ sym (h x w) }

  pub keep_all : (env : Environment) → Keep s env env
  keep_all env = record { keeps_m = refl; keeps_f = refl; keeps_c = refl }

  pub keep_then : (a b d : Environment) → Keep s a b → Keep s b d → Keep s a d
  keep_then a b d k l =
      record { keeps_m = l.keeps_m ∙ k.keeps_m; keeps_f = l.keeps_f ∙ k.keeps_f; keeps_c = l.keeps_c ∙ k.keeps_c }

  pub keep_bound : (env after : Environment) (n : List ℕ) (v : Value) → IsWritten s n → Keep s env after →
      Keep s env (after ++ (n, v) ∷ [])
  keep_bound env after n v w k =
      record {
        keeps_m = find_pushed_other after n v s.m w.not_m ∙ k.keeps_m;
        keeps_f = find_pushed_other after n v s.f w.not_f ∙ k.keeps_f;
        keeps_c = find_pushed_other after n v s.c w.not_c ∙ k.keeps_c;
      }

  pub agree_replaced : (bs : List Binding) (vs : List Value) (env other : Environment) → Agree s env other →
      Agree s (replaced env bs vs) (replaced other bs vs)
  agree_replaced [] vs env other a = a
  agree_replaced (b ∷ bs) [] env other a = a
  agree_replaced (b ∷ bs) (v ∷ vs) env other a = agree_replaced bs vs (with_value env b.name v) (with_value other b.name v) (agree_with env other b.name v a)

  pub keep_replaced : (bs : List Binding) (vs : List Value) (env : Environment) → BindingsRead s bs → Keep s env (replaced env bs vs)
  keep_replaced [] vs env r = keep_all env
  keep_replaced (b ∷ bs) [] env r = keep_all env
  keep_replaced (b ∷ bs) (v ∷ vs) env r =
      keep_then env (with_value env b.name v) (replaced (with_value env b.name v) bs vs)
      (record {
        keeps_m = get_other env b.name v s.m r.0.0.not_m;
        keeps_f = get_other env b.name v s.f r.0.0.not_f;
        keeps_c = get_other env b.name v s.c r.0.0.not_c;
      })
      (keep_replaced bs vs (with_value env b.name v) r.1)

  module _ (text : Input) where
    abbrev value : Environment → ℕ → Expression → Option Value
    value env here e = value_of text (names env) (values env) here e

    pub value_agrees : (env other : Environment) → Agree s env other → (here : ℕ) → (e : Expression) → Reads s e →
        value env here e ≡ value other here e
    value_agrees env other a here (expression.Integer n) r = refl
    value_agrees env other a here (expression.Truth b) r = refl
    value_agrees env other a here expression.Here r = refl
    value_agrees env other a here (expression.Variable x) r = a.same x r
    value_agrees env other a here (expression.Not e) r = ap (option_and_then negation) (value_agrees env other a here e r)
    value_agrees env other a here (expression.Negative e) r = ap (option_and_then opposite) (value_agrees env other a here e r)
    value_agrees env other a here (expression.Binary op e d) r =
        ap₂ (with_two (operation op)) (value_agrees env other a here e r.0) (value_agrees env other a here d r.1)
    value_agrees env other a here (expression.Of f e) r = ap (option_and_then (applied text f)) (value_agrees env other a here e r)
    value_agrees env other a here (expression.Same e d) r =
        ap₂ (with_two (same text)) (value_agrees env other a here e r.0) (value_agrees env other a here d r.1)
    value_agrees env other a here (expression.Spells e word) r = ap (option_and_then (spells text word)) (value_agrees env other a here e r)
    value_agrees env other a here (expression.Outer e d) r =
        ap₂ (with_two (outer text here)) (value_agrees env other a here e r.0) (value_agrees env other a here d r.1)
    value_agrees env other a here (expression.Inside e d) r =
        ap₂ (with_two (inside text here)) (value_agrees env other a here e r.0) (value_agrees env other a here d r.1)
    value_agrees env other a here (expression.FreeBefore pattern) r = refl
    value_agrees env other a here (expression.FreeAfter pattern) r = refl

    pub have_forth : (env other : Environment) (here : ℕ) {es : List Expression} {vs : List Value} → Agree s env other →
        HaveValues text env here es vs → AllRead s es → HaveValues text other here es vs
    have_forth env other here a no_values r = no_values
    have_forth env other here a (next_value e es v vs has rest) r =
        next_value e es v vs (sym (value_agrees env other a here e r.0) ∙ has) (have_forth env other here a rest r.1)

    pub have_back : (env other : Environment) (here : ℕ) {es : List Expression} {vs : List Value} → Agree s env other →
        HaveValues text other here es vs → AllRead s es → HaveValues text env here es vs
    have_back env other here a no_values r = no_values
    have_back env other here a (next_value e es v vs has rest) r =
        next_value e es v vs (value_agrees env other a here e r.0 ∙ has) (have_back env other here a rest r.1)
