-- What several calls add, one after the other.
use Rattle.std.proofs.Common.{◌≡◌, ◌∙◌, ap, sym, ℕ, ◌+◌, ◌<◌, ◌≤◌, List, [], ◌∷◌, ◌++◌, length, take, get_or, append_assoc, Ok, Err, Result}
use Rattle.std.specs.Prelude.{OnOk, is_ok, if◌then◌else◌, flat_map}
use Rattle.std.proofs.lemmas.Grind.{flat_map-append}
use Rattle.std.proofs.lemmas.List.{append-nil, take_more, take_all}

-- a text is added behind another one
pub pushed_behind : {T E : Type 0} (r : Result T E) (t a x : List ℕ) {b c : List ℕ} → b ≡ a ++ x →
    c ≡ (if is_ok r then b ++ t else b) → OnOk r (c ≡ a ++ (x ++ t))
pushed_behind (Ok v) t a x before e = e ∙ ap (λ z. z ++ t) before ∙ append_assoc a x t
pushed_behind (Err v) t a x before e = tt

-- in a loop, one more text is added behind a separator
pub next_listed : {A : Type 0} (shown : A → List ℕ) (separator : List ℕ) (xs : List A) (i : ℕ) (x : A) (a : List ℕ) {b c d : List ℕ} → i < length xs →
    b ≡ a ++ flat_map (λ y. separator ++ shown y) (take i xs) → c ≡ b ++ separator → d ≡ c ++ shown (get_or xs i x) →
    d ≡ a ++ flat_map (λ y. separator ++ shown y) (take (i + 1) xs)
next_listed {A} shown separator xs i x a {b} {c} within before parted written =
    let f : A → List ℕ = λ y. separator ++ shown y in
    let here : List ℕ = shown (get_or xs i x) in
    written ∙ ap (λ z. z ++ here) parted ∙ append_assoc b separator here ∙ ap (λ z. z ++ (separator ++ here)) before ∙
    append_assoc a (flat_map f (take i xs)) (separator ++ here) ∙
    ap (λ z. a ++ (flat_map f (take i xs) ++ z)) (sym (append-nil (separator ++ here))) ∙
    ap (λ z. a ++ z) (sym (flat_map-append f (take i xs) (get_or xs i x ∷ []))) ∙
    ap (λ z. a ++ flat_map f z) (sym (take_more xs i x within))

-- where a loop has come to the end, all texts are added
pub all_each : {A : Type 0} (shown : A → List ℕ) (xs : List A) (i : ℕ) (a : List ℕ) {b : List ℕ} → length xs ≤ i →
    b ≡ a ++ flat_map shown (take i xs) → b ≡ a ++ flat_map shown xs
all_each shown xs i a all before = before ∙ ap (λ z. a ++ flat_map shown z) (take_all i xs all)
