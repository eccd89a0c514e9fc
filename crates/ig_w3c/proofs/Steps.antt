-- How what calls add makes up printed texts.
use Rattle.std.proofs.Common.{◌≡◌, ◌≢◌, ◌∙◌, ap, sym, subst, ℕ, zero, suc, ◌+◌, ◌*◌, ◌/◌, ◌%◌, ◌^◌, ◌<◌, ◌≤◌, ◌⊎◌, inl, inr, List, [], ◌∷◌, ◌++◌, Bool, true, false, ◌==◌, if◌then◌else◌, refl, length, map, drop, arith, append_assoc}
use Rattle.std.specs.Prelude.{chars, IsUtf8, nat_lt}
use Rattle.std.proofs.lemmas.Bool.{ne_eqb}
use Rattle.std.proofs.lemmas.Bool.Decides.{nat_tests}
use Rattle.std.proofs.lemmas.Str.{chars-nil}
use Rattle.std.proofs.lemmas.List.{append-nil, at_drop_more, drop_all}
use Rattle.std.proofs.Math.ListN.{get_or}
use Rattle.std.proofs.Math.Utf8.{scalar, scalar_cases}
use Rattle.ig_show.specs.Appending.{Appends}
use Rattle.ig_show.specs.Steps.{Left, appends}
use Rattle.ig_show.specs.Writing.{IsText}
use Rattle.ig_w3c.specs.Text.{digit, digits_within, code_text, range_text}

pub two_ends : (a b : ℕ) → (a ≡ b → ⊥) → code_text a ++ 45 ∷ code_text b ≡ range_text (a, b)
two_ends a b n = rw (ne_eqb a b n) refl

-- a text that was written from nothing on
pub written : {a b w : List ℕ} → a ≡ [] → IsUtf8 b → Appends a b w → IsText b w
written {a} {b} {w} e u p =
    record {
      utf8 = u;
      spelled =
          sym (append-nil (chars b)) ∙ p.grown [] ∙ ap (λ z. chars z ++ (w ++ [])) e ∙ ap (λ z. z ++ (w ++ [])) chars-nil ∙ append-nil w;
    }

-- the text of one of two equal things
pub shown : {A : Type 0} {a b : List ℕ} (f : A → List ℕ) {x y : A} → x ≡ y → Appends a b (f x) → Appends a b (f y)
shown {A} {a} {b} f e p = subst (λ z. Appends a b (f z)) e p

-- a character has at most six hexadecimal digits
pub few_digits : (c : ℕ) → scalar c ≡ true → c < 16 ^ suc 5
few_digits c h = by_range c (scalar_cases c h)
  where
    by_range : (c : ℕ) → (c < 55296) ⊎ ((57344 ≤ c) × (c < 1114112)) → c < 16 ^ suc 5
    by_range c (inl h) = omega arith
    by_range c (inr h) = let k = h.1 in omega arith

-- in a loop whose items stand behind what `before` says
pub less : {X : Type 0} {a b c d word : List ℕ} (text : List ℕ → List X → List ℕ) (front : List ℕ) (item : List ℕ) (after : List ℕ) (xs : List X) (i : ℕ) (e x : X) →
    x ≡ get_or xs i e → i < length xs → Left a b word (text front (drop i xs)) → Appends b c front → Appends c d item →
    text front (x ∷ drop (i + 1) xs) ≡ front ++ (item ++ text after (drop (i + 1) xs)) → Left a d word (text after (drop (i + 1) xs))
less {X} {a} {b} {c} {d} {word} text front item after xs i e x same h l p q t =
    let rest : List ℕ = text after (drop (i + 1) xs) in
    let here : text front (drop i xs) ≡ (front ++ item) ++ rest =
    at_drop_more (text front) xs i e h ∙ ap (λ z. text front (z ∷ drop (i + 1) xs)) (sym same) ∙ t ∙ sym (append_assoc front item rest) in
    let both : Appends b d (front ++ item) = appends p q in
    record {
      kept = λ s.
          both.grown (rest ++ s) ∙
          ap (λ z. chars b ++ z) (sym (append_assoc (front ++ item) rest s) ∙ ap (λ z. z ++ s) (sym here)) ∙ l.kept s;
    }

pub none : {X : Type 0} {a b word : List ℕ} (text : List ℕ → List X → List ℕ) (front : List ℕ) (xs : List X) (i : ℕ) → length xs ≤ i →
    Left a b word (text front (drop i xs)) → text front [] ≡ [] → Appends a b word
none {X} {a} {b} {word} text front xs i h l e =
    let k : text front (drop i xs) ≡ [] = ap (text front) (drop_all i xs h) ∙ e in
    record { grown = λ s. ap (λ z. chars b ++ (z ++ s)) (sym k) ∙ l.kept s }

-- digits: one alone, and one behind others
digits_by : (b : Bool) (n most : ℕ) → nat_lt n 16 ≡ b → n < 16 → (if b then digit n ∷ [] else digits_within most (n / 16) ++ digit (n % 16) ∷ []) ≡ digit n ∷ []
digits_by true n most e h = refl
digits_by false n most e h = let k : 16 ≤ n = grind (arith, nat_tests) in absurd (omega arith)

pub one_digit : (n most : ℕ) → n < 16 → digits_within (suc most) n ≡ digit n ∷ []
one_digit n most h = digits_by (nat_lt n 16) n most refl h

others_by : (b : Bool) (n most : ℕ) → nat_lt n 16 ≡ b → 16 ≤ n →
    (if b then digit n ∷ [] else digits_within most (n / 16) ++ digit (n % 16) ∷ []) ≡ digits_within most (n / 16) ++ digit (n % 16) ∷ []
others_by true n most e h = let k : n < 16 = grind (arith, nat_tests) in absurd (omega arith)
others_by false n most e h = refl

more_digits : (n most : ℕ) → 16 ≤ n → digits_within (suc most) n ≡ digits_within most (n / 16) ++ digit (n % 16) ∷ []
more_digits n most h = others_by (nat_lt n 16) n most refl h

pub adds_one : {a b : List ℕ} (n d : ℕ) → n < 16 → d ≡ digit n → Appends a b (d ∷ []) → (most : ℕ) → n < 16 ^ suc most →
    Appends a b (digits_within (suc most) n)
adds_one {a} {b} n d h e p most l = subst (Appends a b) (ap (λ z. z ∷ []) e ∙ sym (one_digit n most h)) p

pub adds_more : {a b c : List ℕ} (n q d : ℕ) → 16 ≤ n → q ≡ n / 16 → d ≡ digit (n % 16) →
    ((most : ℕ) → q < 16 ^ suc most → Appends a b (digits_within (suc most) q)) → Appends b c (d ∷ []) →
    (most : ℕ) → n < 16 ^ suc most → Appends a c (digits_within (suc most) n)
adds_more n q d h e f p r zero l = absurd (omega arith)
adds_more {a} {b} {c} n q d h e f p r (suc most) l =
    let k : q < 16 ^ suc most = omega arith in
    subst (Appends a c)
    (ap (λ z. digits_within (suc most) z ++ d ∷ []) e ∙ ap (λ z. digits_within (suc most) (n / 16) ++ z ∷ []) f ∙ sym (more_digits n (suc most) h))
    (appends (p most k) r)
