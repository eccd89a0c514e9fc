-- Looking up names in tables: environments, and variables with their kinds.
use Rattle.std.proofs.Common.{◌≡◌, ◌≢◌, ◌∙◌, ℕ, Bool, true, false, if◌then◌else◌, cond, List, [], ◌∷◌, ◌++◌, map, Option, Some, None, sym, ap, ap₂, subst, refl}
use Rattle.std.specs.Cmp.Lexicographic.{bytes_decides}
use Rattle.std.specs.Option.{option_or}
use Rattle.ig_text.specs.Words.{is_word}
use Rattle.ig_text.proofs.Characters.{differs}
use Rattle.ig_text.proofs.Fallbacks.{or_none, or_cond}
use Rattle.ig_text.proofs.Positions.{beside-cons}
use Rattle.ig_expr.specs.Names.{look_up}

-- names with what stands beside them
abbrev pub Table : Type 0 → Type 0
Table A = List (List ℕ × A)

abbrev pub keys : {A : Type 0} → Table A → List (List ℕ)
keys env = map (λ pair. pair.0) env

abbrev pub members : {A : Type 0} → Table A → List A
members env = map (λ pair. pair.1) env

-- what stands beside the first place of the name
abbrev pub find : {A : Type 0} → Table A → List ℕ → Option A
find env x = look_up (keys env) (members env) x

pub if_true : {A : Type 0} (b : Bool) (x y : A) → b ≡ true → (if b then x else y) ≡ x
if_true b x y e = ap (λ z. if z then x else y) e

pub if_false : {A : Type 0} (b : Bool) (x y : A) → b ≡ false → (if b then x else y) ≡ y
if_false b x y e = ap (λ z. if z then x else y) e

pub find_cons : {A : Type 0} (x : List ℕ) (v : A) (env : Table A) (y : List ℕ) →
    find ((x, v) ∷ env) y ≡ (if is_word x y then Some v else find env y)
find_cons x v env y = beside-cons (λ n. is_word n y) x (keys env) v (members env)

pub same_word : (x y : List ℕ) → x ≡ y → is_word x y ≡ true
same_word x y e = (bytes_decides x y).1 e

pub word_is : (x y : List ℕ) → is_word x y ≡ true → x ≡ y
word_is x y e = (bytes_decides x y).0 e

-- lookups in joined tables
pub find_join : {A : Type 0} (env more : Table A) (y : List ℕ) → find (env ++ more) y ≡ option_or (find env y) (find more y)
find_join [] more y = refl
find_join ((x, v) ∷ env) more y =
    find_cons x v (env ++ more) y ∙ ap (cond (is_word x y) (Some v)) (find_join env more y) ∙
    or_cond (is_word x y) v (find env y) (find more y) ∙ ap (λ z. option_or z (find more y)) (sym (find_cons x v env y))

-- what is bound last is found where nothing before has the name
pub find_snoc : {A : Type 0} (env : Table A) (n : List ℕ) (v : A) (y : List ℕ) →
    find (env ++ (n, v) ∷ []) y ≡ option_or (find env y) (if is_word n y then Some v else None)
find_snoc env n v y = find_join env ((n, v) ∷ []) y ∙ ap (option_or (find env y)) (find_cons n v [] y)

-- the table with the member in place of that of the same name, or at the end where the name is new
abbrev pub put : {A : Type 0} → Table A → List ℕ → A → Table A
put [] n v = (n, v) ∷ []
put (pair ∷ others) n v = if is_word pair.0 n then (n, v) ∷ others else pair ∷ put others n v

-- a replaced value is found, and the others stay
pub find_put : {A : Type 0} (env : Table A) (n : List ℕ) (v : A) (y : List ℕ) →
    find (put env n v) y ≡ (if is_word n y then Some v else find env y)
find_put [] n v y = find_cons n v [] y
find_put (pair ∷ env) n v y = go (find_put env n v y) (is_word pair.0 n) refl
  where
    here : is_word pair.0 n ≡ true → (b : Bool) → is_word n y ≡ b → (if is_word n y then Some v else find env y) ≡ (if is_word n y then Some v else find (pair ∷ env) y)
    here e true t = if_true (is_word n y) _ _ t ∙ sym (if_true (is_word n y) _ _ t)
    here e false t =
        let other : is_word pair.0 y ≡ false = subst (λ z. is_word z y ≡ false) (sym (word_is pair.0 n e)) t in
        if_false (is_word n y) _ _ t ∙ sym (find_cons pair.0 pair.1 env y ∙ if_false (is_word pair.0 y) _ _ other) ∙ sym (if_false (is_word n y) _ _ t)

    later : is_word pair.0 n ≡ false → (b d : Bool) → is_word pair.0 y ≡ b → is_word n y ≡ d →
        (if is_word pair.0 y then Some pair.1 else (if is_word n y then Some v else find env y)) ≡ (if is_word n y then Some v else find (pair ∷ env) y)
    later e true true t u =
        let clash : true ≡ false = sym (same_word pair.0 n (word_is pair.0 y t ∙ sym (word_is n y u))) ∙ e in absurd (cc)
    later e true false t u =
        if_true (is_word pair.0 y) _ _ t ∙ sym (if_false (is_word n y) _ _ u ∙ find_cons pair.0 pair.1 env y ∙ if_true (is_word pair.0 y) _ _ t)
    later e false true t u = if_false (is_word pair.0 y) _ _ t ∙ if_true (is_word n y) _ _ u ∙ sym (if_true (is_word n y) _ _ u)
    later e false false t u =
        if_false (is_word pair.0 y) _ _ t ∙ if_false (is_word n y) _ _ u ∙
        sym (if_false (is_word n y) _ _ u ∙ find_cons pair.0 pair.1 env y ∙ if_false (is_word pair.0 y) _ _ t)

    go : find (put env n v) y ≡ (if is_word n y then Some v else find env y) → (b : Bool) → is_word pair.0 n ≡ b → find (put (pair ∷ env) n v) y ≡ (if is_word n y then Some v else find (pair ∷ env) y)
    go ih true e =
        ap (λ z. find z y) (if_true (is_word pair.0 n) ((n, v) ∷ env) (pair ∷ put env n v) e) ∙ find_cons n v env y ∙ here e (is_word n y) refl
    go ih false e =
        ap (λ z. find z y) (if_false (is_word pair.0 n) ((n, v) ∷ env) (pair ∷ put env n v) e) ∙
        find_cons pair.0 pair.1 (put env n v) y ∙ ap (λ z. if is_word pair.0 y then Some pair.1 else z) ih ∙
        later e (is_word pair.0 y) (is_word n y) refl refl

pub find_same : {A : Type 0} (env : Table A) (n : List ℕ) (v : A) → find (put env n v) n ≡ Some v
find_same env n v = find_put env n v n ∙ if_true (is_word n n) _ _ (same_word n n refl)

pub find_other : {A : Type 0} (env : Table A) (n : List ℕ) (v : A) (y : List ℕ) → n ≢ y → find (put env n v) y ≡ find env y
find_other env n v y ne = find_put env n v y ∙ if_false (is_word n y) _ _ (differs n y ne)

pub find_pushed_other : {A : Type 0} (env : Table A) (n : List ℕ) (v : A) (y : List ℕ) → n ≢ y → find (env ++ (n, v) ∷ []) y ≡ find env y
find_pushed_other env n v y ne =
    find_snoc env n v y ∙ ap (option_or (find env y)) (if_false (is_word n y) _ _ (differs n y ne)) ∙ or_none (find env y)

pub find_pushed_new : {A : Type 0} (env : Table A) (n : List ℕ) (v : A) → find env n ≡ None → find (env ++ (n, v) ∷ []) n ≡ Some v
find_pushed_new env n v e =
    find_snoc env n v n ∙ ap₂ option_or e (if_true (is_word n n) (Some v) None (same_word n n refl))
