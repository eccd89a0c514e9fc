-- What several calls add, one after the other.
use Rattle.std.proofs.Common.{◌≡◌, ◌∙◌, ap, sym, arith, ℕ, suc, ◌+◌, ◌<◌, List, [], ◌∷◌, ◌++◌, length, drop, get_or, append_assoc, Ok, Err, Result}
use Rattle.std.specs.Prelude.{OnOk, is_ok, if◌then◌else◌}
use Rattle.std.proofs.lemmas.List.{drop_more}
use Rattle.ig_show_texts.specs.Listed.{numbered_texts}

-- five texts, one behind the other
pub five_added : {T E : Type 0} (r : Result T E) (a t u v w x f : List ℕ) {b c d e : List ℕ} →
    b ≡ a ++ t → c ≡ b ++ u → d ≡ c ++ v → e ≡ d ++ w → OnOk r (f ≡ e ++ x) → OnOk r (f ≡ a ++ (t ++ (u ++ (v ++ (w ++ x)))))
five_added (Ok y) a t u v w x f {b} {c} {d} {e} one two three four last =
    last ∙ ap (λ z. z ++ x) four ∙ append_assoc d w x ∙ ap (λ z. z ++ (w ++ x)) three ∙ append_assoc c v (w ++ x) ∙
    ap (λ z. z ++ (v ++ (w ++ x))) two ∙ append_assoc b u (v ++ (w ++ x)) ∙ ap (λ z. z ++ (u ++ (v ++ (w ++ x)))) one ∙
    append_assoc a t (u ++ (v ++ (w ++ x)))
five_added (Err y) a t u v w x f one two three four last = tt

-- a text behind two others
pub third_added : {T E : Type 0} (r : Result T E) (a t u x d : List ℕ) {b c : List ℕ} → b ≡ a ++ t → c ≡ b ++ u →
    d ≡ (if is_ok r then c ++ x else c) → OnOk r (d ≡ a ++ (t ++ (u ++ x)))
third_added (Ok y) a t u x d {b} one two last =
    last ∙ ap (λ z. z ++ x) two ∙ append_assoc b u x ∙ ap (λ z. z ++ (u ++ x)) one ∙ append_assoc a t (u ++ x)
third_added (Err y) a t u x d one two last = tt

-- in a loop, the text of one more member
pub next_numbered : {A : Type 0} (shown : ℕ → A → List ℕ) (xs : List A) (i : ℕ) (x : A) (a : List ℕ) {b w : List ℕ} → i < length xs →
    x ≡ get_or xs i x → a ++ numbered_texts shown (i + 1) (drop i xs) ≡ w → b ≡ a ++ shown (i + 1) x →
    b ++ numbered_texts shown (i + 1 + 1) (drop (i + 1) xs) ≡ w
next_numbered {A} shown xs i x a within read before written =
    let rest : List ℕ = numbered_texts shown (i + 1 + 1) (drop (i + 1) xs) in
    let parted : drop i xs ≡ x ∷ drop (i + 1) xs = drop_more xs i x within ∙ ap (λ z. z ∷ drop (i + 1) xs) (sym read) in
    let counted : i + 1 + 1 ≡ suc (i + 1) = omega arith in
    ap (λ z. z ++ rest) written ∙ append_assoc a (shown (i + 1) x) rest ∙
    ap (λ k. a ++ (shown (i + 1) x ++ numbered_texts shown k (drop (i + 1) xs))) counted ∙
    ap (λ z. a ++ numbered_texts shown (i + 1) z) (sym parted) ∙ before
