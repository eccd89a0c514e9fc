-- Texts tell what they are of, whatever stands after them.
use Rattle.std.proofs.Common.{◌≡◌, ℕ, suc, ◌+◌, ◌%◌, ◌^◌, ◌<◌, ◌++◌, List, [], ◌∷◌, Bool, true, false, refl, sym, ap, ap₂, ◌∙◌, subst, length, arith}
use Rattle.std.specs.Prelude.{codes, flat_map, ℤ, pos, negsuc}
use Rattle.std.specs.Fmt.{decimal, signed_decimal}
use Rattle.std.proofs.lemmas.Fmt.{decimal_by_steps, decimal_injective, signed_decimal_injective}
use Rattle.std.proofs.lemmas.List.{append_assoc, append_cancel_left}
use Rattle.ig_text.specs.declared.text.Span.{Span}
use Rattle.std.specs.Int.Signed.{mag}
use Rattle.ig_text.specs.Limits.{numbers_end, integers_end}
use Rattle.ig_expr.specs.declared.value.Value.{Value}
use Rattle.ig_expr.specs.declared.value.Value.TheVariants as value
use Rattle.ig_forest_reader.specs.Written.{IsSmall, ListsAreTold, round, square}
use Rattle.ig_forest_reader.specs.Runs.{Each, none, more, Stops, at_end, at, IsDigit, IsInner}
use Rattle.std.specs.List.{AllByRecursion}
use Rattle.ig_show_texts.specs.Listed.{comma_separated}
use Rattle.ig_show_texts.specs.ValueText.{places_text, value_text, values_text}

pub each_join : {P : ℕ → Type 0} (xs ys : List ℕ) → Each P xs → Each P ys → Each P (xs ++ ys)
each_join [] ys none b = b
each_join (x ∷ xs) ys (more _ _ p a) b = more x (xs ++ ys) p (each_join xs ys a b)

pub each_of : {P Q : ℕ → Type 0} → ((c : ℕ) → P c → Q c) → (xs : List ℕ) → Each P xs → Each Q xs
each_of f [] none = none
each_of f (x ∷ xs) (more _ _ p a) = more x xs (f x p) (each_of f xs a)

-- a word ends where the first other character stands
pub word_told : (P : ℕ → Type 0) (xs ys us vs : List ℕ) → Each P xs → Each P ys → Stops P us → Stops P vs →
    xs ++ us ≡ ys ++ vs → (xs ≡ ys) × (us ≡ vs)
word_told P [] [] us vs a b s t e = (refl, e)
word_told P [] (y ∷ ys) [] vs a b s t e = absurd (cc)
word_told P [] (y ∷ ys) (u ∷ us) vs a (more _ _ p b) (at _ _ not) t e =
    let same : y ≡ u = cc in absurd (not (subst P same p))
word_told P (x ∷ xs) [] us [] a b s t e = absurd (cc)
word_told P (x ∷ xs) [] us (v ∷ vs) (more _ _ p a) b s (at _ _ not) e =
    let same : x ≡ v = cc in absurd (not (subst P same p))
word_told P (x ∷ xs) (y ∷ ys) us vs (more _ _ p a) (more _ _ q b) s t e =
    let head : x ≡ y = cc in
    let tail : xs ++ us ≡ ys ++ vs = cc in
    let rest = word_told P xs ys us vs a b s t tail in
    (ap₂ (λ (c : ℕ) (cs : List ℕ). c ∷ cs) head rest.0, rest.1)

last_digit : (m : ℕ) → 48 + m % 10 < 58
last_digit m = omega arith

pub decimal_digits : (n : ℕ) → n < 2 ^ 64 → Each IsDigit (decimal n)
decimal_digits n low =
    decimal_by_steps (λ m ds. Each IsDigit ds)
    (λ m lt. more (48 + m) [] (omega arith, omega (arith, lt)) none)
    (λ m ds le a. each_join ds _ a (more (48 + m % 10) [] (omega arith, last_digit m) none)) n low

-- a number ends before what is no digit
pub decimal_told : (m n : ℕ) (us vs : List ℕ) → m < 2 ^ 64 → n < 2 ^ 64 → Stops IsDigit us → Stops IsDigit vs →
    decimal m ++ us ≡ decimal n ++ vs → (m ≡ n) × (us ≡ vs)
decimal_told m n us vs p q s t e =
    let both = word_told IsDigit (decimal m) (decimal n) us vs (decimal_digits m p) (decimal_digits n q) s t e in
    (decimal_injective m n p q both.0, both.1)

-- a number in front of a bracket, a blank or a dot
pub stops_at : (c : ℕ) (cs : List ℕ) → c < 48 → Stops IsDigit (c ∷ cs)
stops_at c cs lt = at c cs (λ p. omega (arith, p.0, lt))

pub places_joined : (i j : ℕ) (us : List ℕ) → places_text i j ++ us ≡ decimal i ++ (46 ∷ 46 ∷ (decimal j ++ us))
places_joined i j us = append_assoc (decimal i) (codes ".." ++ decimal j) us

-- a span ends before what is no digit
pub places_told : (i j k l : ℕ) (us vs : List ℕ) → i < 2 ^ 64 → j < 2 ^ 64 → k < 2 ^ 64 → l < 2 ^ 64 → Stops IsDigit us →
    Stops IsDigit vs → places_text i j ++ us ≡ places_text k l ++ vs → (i ≡ k) × (j ≡ l) × (us ≡ vs)
places_told i j k l us vs p q r s a b e =
    let e2 : decimal i ++ (46 ∷ 46 ∷ (decimal j ++ us)) ≡ decimal k ++ (46 ∷ 46 ∷ (decimal l ++ vs)) =
    sym (places_joined i j us) ∙ e ∙ places_joined k l vs in
    let first = decimal_told i k _ _ p r (stops_at 46 _ (omega arith)) (stops_at 46 _ (omega arith)) e2 in
    let rest : decimal j ++ us ≡ decimal l ++ vs = let h = first.1 in cc in
    let second = decimal_told j l us vs q s a b rest in
    (first.0, second.0, second.1)

abbrev IsLow : ℕ → Type 0
IsLow c = c < 58

abbrev pub NoDot : ℕ → Type 0
NoDot c = c ≡ 46 → ⊥

inner_digit : (c : ℕ) → IsDigit c → IsInner c
inner_digit c d = (omega (arith, d.0), λ e. omega (arith, d.1, e))

low_digit : (c : ℕ) → IsDigit c → IsLow c
low_digit c d = d.1

pub no_dot_digit : (c : ℕ) → IsDigit c → NoDot c
no_dot_digit c d e = omega (arith, d.0, e)

pub decimal_each : {Q : ℕ → Type 0} → ((c : ℕ) → IsDigit c → Q c) → (n : ℕ) → n < 2 ^ 64 → Each Q (decimal n)
decimal_each f n lt = each_of f (decimal n) (decimal_digits n lt)

pub low_bound : (n : ℕ) → n < integers_end → n < 2 ^ 64
low_bound n lt = omega (arith, lt)

next_bound : (n : ℕ) → n < integers_end → suc n < 2 ^ 64
next_bound n lt = omega (arith, lt)

pub small_bound : (n : ℕ) → n < numbers_end → n < 2 ^ 64
small_bound n lt = omega (arith, lt)

pub signed_each : {Q : ℕ → Type 0} → ((c : ℕ) → IsDigit c → Q c) → Q 45 → (z : ℤ) → mag z < integers_end → Each Q (signed_decimal z)
signed_each f minus (pos n) lt = decimal_each f n (low_bound n lt)
signed_each f minus (negsuc n) lt = more 45 (decimal (suc n)) minus (decimal_each f (suc n) (next_bound n lt))

places_each : {Q : ℕ → Type 0} → ((c : ℕ) → IsDigit c → Q c) → Q 46 → (i j : ℕ) → i < numbers_end → j < numbers_end →
    Each Q (places_text i j)
places_each f point i j p q =
    each_join (decimal i) (46 ∷ 46 ∷ decimal j) (decimal_each f i (small_bound i p))
    (more 46 (46 ∷ decimal j) point (more 46 (decimal j) point (decimal_each f j (small_bound j q))))

-- a member after others
each_behind : {P : ℕ → Type 0} (xs : List ℕ) (c : ℕ) (cs : List ℕ) → Each P (xs ++ c ∷ cs) → P c
each_behind [] c cs (more _ _ p a) = p
each_behind (x ∷ xs) c cs (more _ _ p a) = each_behind xs c cs a

first_of : {P : ℕ → Type 0} (c : ℕ) (cs : List ℕ) → Each P (c ∷ cs) → P c
first_of c cs (more _ _ p a) = p

letter : (c : ℕ) → 96 < c → IsInner c
letter c lt = (omega (arith, lt), λ e. omega (arith, lt, e))

letters_inner : (b : Bool) → Each IsInner (value_text (value.Bool b))
letters_inner true =
    more 116 _ (letter 116 (omega arith)) (more 114 _ (letter 114 (omega arith)) (more 117 _ (letter 117 (omega arith))
    (more 101 _ (letter 101 (omega arith)) none)))
letters_inner false =
    more 102 _ (letter 102 (omega arith)) (more 97 _ (letter 97 (omega arith)) (more 108 _ (letter 108 (omega arith))
    (more 115 _ (letter 115 (omega arith)) (more 101 _ (letter 101 (omega arith)) none))))

pub value_inner : (v : Value) → IsSmall v → Each IsInner (value_text v)
value_inner (value.Int z) small = signed_each inner_digit (omega arith, λ e. omega (arith, e)) z small
value_inner (value.Bool true) small = letters_inner true
value_inner (value.Bool false) small = letters_inner false
value_inner (value.Span s) small = places_each inner_digit (omega arith, λ e. omega (arith, e)) s.begin s.end small.begin small.end

low_value : (v : Value) → IsSmall v → ((b : Bool) → v ≡ value.Bool b → ⊥) → Each IsLow (value_text v)
low_value (value.Int z) small differs = signed_each low_digit (omega arith) z small
low_value (value.Bool b) small differs = absurd (differs b refl)
low_value (value.Span s) small differs = places_each low_digit (omega arith) s.begin s.end small.begin small.end

-- a truth value is not printed as another value
not_truth : (b : Bool) (xs : List ℕ) → Each IsLow xs → value_text (value.Bool b) ≡ xs → ⊥
not_truth true xs a e = let t = first_of 116 (codes "rue") (subst (Each IsLow) (sym e) a) in omega (arith, t)
not_truth false xs a e = let t = first_of 102 (codes "alse") (subst (Each IsLow) (sym e) a) in omega (arith, t)

-- nor an integer as a span
not_places : (z : ℤ) (s : Span) → mag z < integers_end → value_text (value.Int z) ≡ value_text (value.Span s) → ⊥
not_places z s small e =
    each_behind (decimal s.begin) 46 (46 ∷ decimal s.end)
    (subst (Each NoDot) e (signed_each no_dot_digit (λ h. omega (arith, h)) z small)) refl

pub heads : (a b : ℕ) (xs ys : List ℕ) → a ∷ xs ≡ b ∷ ys → a ≡ b
heads a b xs ys e = cc

pub same_span : (s t : Span) → s.begin ≡ t.begin → s.end ≡ t.end → s ≡ t
same_span s t p q = λ i. record { begin = p i; end = q i }

pub value_told : (v w : Value) → IsSmall v → IsSmall w → value_text v ≡ value_text w → v ≡ w
value_told (value.Int y) (value.Int z) p q e = ap value.Int (signed_decimal_injective y z p q e)
value_told (value.Int z) (value.Bool b) p q e = absurd (not_truth b (signed_decimal z) (signed_each low_digit (omega arith) z p) (sym e))
value_told (value.Int z) (value.Span s) p q e = absurd (not_places z s p e)
value_told (value.Bool b) (value.Int z) p q e = absurd (not_truth b (signed_decimal z) (signed_each low_digit (omega arith) z q) e)
value_told (value.Bool true) (value.Bool true) p q e = refl
value_told (value.Bool true) (value.Bool false) p q e = absurd (let h = heads 116 102 (codes "rue") (codes "alse") e in omega (arith, h))
value_told (value.Bool false) (value.Bool true) p q e = absurd (let h = heads 102 116 (codes "alse") (codes "rue") e in omega (arith, h))
value_told (value.Bool false) (value.Bool false) p q e = refl
value_told (value.Bool b) (value.Span s) p q e =
    absurd (not_truth b (value_text (value.Span s)) (places_each low_digit (omega arith) s.begin s.end q.begin q.end) e)
value_told (value.Span s) (value.Int z) p q e = absurd (not_places z s q (sym e))
value_told (value.Span s) (value.Bool b) p q e =
    absurd (not_truth b (value_text (value.Span s)) (places_each low_digit (omega arith) s.begin s.end p.begin p.end) (sym e))
value_told (value.Span s) (value.Span t) p q e =
    let h = places_told s.begin s.end t.begin t.end [] [] (small_bound _ p.begin) (small_bound _ p.end) (small_bound _ q.begin)
    (small_bound _ q.end) at_end at_end (ap (λ (z : List ℕ). z ++ []) e) in
    ap value.Span (same_span s t h.0 h.1)

longer : (ds : List ℕ) (c : ℕ) → 0 < length (ds ++ c ∷ [])
longer [] c = omega arith
longer (d ∷ ds) c = omega arith

no_length : (ds : List ℕ) → ds ≡ [] → 0 < length ds → ⊥
no_length [] e lt = omega (arith, lt)
no_length (d ∷ ds) e lt = cc

first_empty : (xs ys : List ℕ) → xs ++ ys ≡ [] → xs ≡ []
first_empty [] ys e = refl
first_empty (x ∷ xs) ys e = absurd (cc)

decimal_there : (n : ℕ) → n < 2 ^ 64 → decimal n ≡ [] → ⊥
decimal_there n lt e =
    let many = decimal_by_steps (λ m ds. 0 < length ds) (λ m h. omega arith)
    (λ m ds le h. longer ds (48 + m % 10)) n lt in
    no_length (decimal n) e many

pub value_there : (v : Value) → IsSmall v → value_text v ≡ [] → ⊥
value_there (value.Int (pos n)) small e = decimal_there n (low_bound n small) e
value_there (value.Int (negsuc n)) small e = cc
value_there (value.Bool true) small e = cc
value_there (value.Bool false) small e = cc
value_there (value.Span s) small e = decimal_there s.begin (small_bound s.begin small.begin) (first_empty (decimal s.begin) _ e)

-- the values after the first one, and the bracket after them
abbrev pub others : List Value → List ℕ
others xs = flat_map (λ y. codes "," ++ value_text y) xs

pub stops_inner : (close : ℕ) (xs : List Value) (us : List ℕ) → (IsInner close → ⊥) → Stops IsInner (others xs ++ close ∷ us)
stops_inner close [] us differs = at close us differs
stops_inner close (x ∷ xs) us differs = at 44 _ (λ p. omega (arith, p.0))

others_more : (x : Value) (xs : List Value) (us : List ℕ) →
    others (x ∷ xs) ++ us ≡ 44 ∷ (value_text x ++ (others xs ++ us))
others_more x xs us = ap (λ (z : List ℕ). 44 ∷ z) (append_assoc (value_text x) (others xs) us)

others_told : (close : ℕ) (xs ys : List Value) (us vs : List ℕ) → (IsInner close → ⊥) → (close ≡ 44 → ⊥) →
    AllByRecursion IsSmall xs → AllByRecursion IsSmall ys → others xs ++ close ∷ us ≡ others ys ++ close ∷ vs →
    (xs ≡ ys) × (us ≡ vs)
others_told close [] [] us vs differs other a b e = (refl, cc)
others_told close [] (y ∷ ys) us vs differs other a b e = absurd (other (let h = e ∙ others_more y ys (close ∷ vs) in cc))
others_told close (x ∷ xs) [] us vs differs other a b e = absurd (other (let h = sym e ∙ others_more x xs (close ∷ us) in cc))
others_told close (x ∷ xs) (y ∷ ys) us vs differs other a b e =
    let whole = sym (others_more x xs (close ∷ us)) ∙ e ∙ others_more y ys (close ∷ vs) in
    let rest : value_text x ++ (others xs ++ close ∷ us) ≡ value_text y ++ (others ys ++ close ∷ vs) = cc in
    let word = word_told IsInner (value_text x) (value_text y) _ _ (value_inner x a.0) (value_inner y b.0)
    (stops_inner close xs us differs) (stops_inner close ys vs differs) rest in
    let tail = others_told close xs ys us vs differs other a.1 b.1 word.1 in
    (ap₂ (λ (z : Value) (zs : List Value). z ∷ zs) (value_told x y a.0 b.0 word.0) tail.0, tail.1)

-- a list of values ends with its closing bracket
pub values_told : (close : ℕ) (xs ys : List Value) (us vs : List ℕ) → (IsInner close → ⊥) → (close ≡ 44 → ⊥) →
    AllByRecursion IsSmall xs → AllByRecursion IsSmall ys →
    comma_separated value_text xs ++ close ∷ us ≡ comma_separated value_text ys ++ close ∷ vs → (xs ≡ ys) × (us ≡ vs)
values_told close [] [] us vs differs other a b e = (refl, cc)
values_told close [] (y ∷ ys) us vs differs other a b e =
    let word = word_told IsInner [] (value_text y) (close ∷ us) (others ys ++ close ∷ vs) none (value_inner y b.0)
    (at close us differs) (stops_inner close ys vs differs) (e ∙ append_assoc (value_text y) (others ys) (close ∷ vs)) in
    absurd (value_there y b.0 (sym word.0))
values_told close (x ∷ xs) [] us vs differs other a b e =
    let word = word_told IsInner (value_text x) [] (others xs ++ close ∷ us) (close ∷ vs) (value_inner x a.0) none
    (stops_inner close xs us differs) (at close vs differs) (sym (append_assoc (value_text x) (others xs) (close ∷ us)) ∙ e) in
    absurd (value_there x a.0 word.0)
values_told close (x ∷ xs) (y ∷ ys) us vs differs other a b e =
    let word = word_told IsInner (value_text x) (value_text y) _ _ (value_inner x a.0) (value_inner y b.0)
    (stops_inner close xs us differs) (stops_inner close ys vs differs)
    (sym (append_assoc (value_text x) (others xs) (close ∷ us)) ∙ e ∙ append_assoc (value_text y) (others ys) (close ∷ vs)) in
    let tail = others_told close xs ys us vs differs other a.1 b.1 word.1 in
    (ap₂ (λ (z : Value) (zs : List Value). z ∷ zs) (value_told x y a.0 b.0 word.0) tail.0, tail.1)

pub lists_told : ListsAreTold
lists_told close xs ys us vs (round _ is) = values_told close xs ys us vs (λ p. omega (arith, p.0, is)) (λ e. omega (arith, e, is))
lists_told close xs ys us vs (square _ is) = values_told close xs ys us vs (λ p. p.1 is) (λ e. omega (arith, e, is))

pub tail_told : (c : ℕ) (xs ys : List ℕ) → c ∷ xs ≡ c ∷ ys → xs ≡ ys
tail_told c xs ys e = cc

pub values_joined : (xs : List Value) (us : List ℕ) → values_text xs ++ us ≡ 40 ∷ (comma_separated value_text xs ++ 41 ∷ us)
values_joined xs us = ap (λ (z : List ℕ). 40 ∷ z) (append_assoc (comma_separated value_text xs) (41 ∷ []) us)

pub head_joined : (d a v us : List ℕ) → (d ++ (32 ∷ (a ++ (32 ∷ v)))) ++ us ≡ d ++ (32 ∷ (a ++ (32 ∷ (v ++ us))))
head_joined d a v us =
    append_assoc d (32 ∷ (a ++ (32 ∷ v))) us ∙ ap (λ (z : List ℕ). d ++ (32 ∷ z)) (append_assoc a (32 ∷ v) us)

-- the head of a node or an item: its name and its values
pub head_told : (d a b : List ℕ) (xs ys : List Value) (us vs : List ℕ) → Each (λ c. 32 < c) a → Each (λ c. 32 < c) b →
    AllByRecursion IsSmall xs → AllByRecursion IsSmall ys →
    (d ++ (32 ∷ (a ++ (32 ∷ values_text xs)))) ++ us ≡ (d ++ (32 ∷ (b ++ (32 ∷ values_text ys)))) ++ vs →
    (a ≡ b) × (xs ≡ ys) × (us ≡ vs)
head_told d a b xs ys us vs p q small others_small e =
    let whole = sym (head_joined d a (values_text xs) us) ∙ e ∙ head_joined d b (values_text ys) vs in
    let named = tail_told 32 _ _ (append_cancel_left d _ _ whole) in
    let word = word_told (λ c. 32 < c) a b _ _ p q (at 32 _ (λ h. omega (arith, h))) (at 32 _ (λ h. omega (arith, h))) named in
    let rest = tail_told 32 _ _ word.1 in
    let listed = tail_told 40 _ _ (sym (values_joined xs us) ∙ rest ∙ values_joined ys vs) in
    let told = values_told 41 xs ys us vs (λ h. omega (arith, h.0)) (λ h. omega (arith, h)) small others_small listed in
    (word.0, told.0, told.1)
