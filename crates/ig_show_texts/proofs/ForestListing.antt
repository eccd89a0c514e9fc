-- Texts of lists that a loop writes by number.
use Rattle.std.proofs.Common.{◌≡◌, ◌∙◌, ap, sym, ℕ, suc, ◌+◌, ◌≤◌, List, ◌∷◌, ◌++◌, Some, length, drop, append_assoc, slice_get, arith}
use Rattle.std.proofs.lemmas.List.{at_drop_more, append-nil, drop_all}
use Rattle.std.proofs.lemmas.Option.{slice_get_within, get_or_from_slice_get}
use Rattle.ig_show_texts.specs.Listed.{numbered_texts}

-- a loop that reads by number: the text of the member of that number is written, and what is left is less
next : {A : Type 0} (text : List A → List ℕ) (xs : List A) (k : ℕ) (x : A) → slice_get xs k ≡ Some x → text (drop k xs) ≡ text (x ∷ drop (k + 1) xs)
next text xs k x there =
    at_drop_more text xs k x (slice_get_within xs k x there) ∙ ap (λ z. text (z ∷ drop (k + 1) xs)) (get_or_from_slice_get xs k x x there)

pub next_numbered : {A : Type 0} (shown : ℕ → A → List ℕ) (xs : List A) (k : ℕ) (x : A) (a : List ℕ) {b whole : List ℕ} → slice_get xs k ≡ Some x →
    a ++ numbered_texts shown k (drop k xs) ≡ whole → b ≡ a ++ shown k x → b ++ numbered_texts shown (k + 1) (drop (k + 1) xs) ≡ whole
next_numbered shown xs k x a {b} {whole} there left written =
    let more : k + 1 ≡ suc k = omega arith in
    ap (λ n. b ++ numbered_texts shown n (drop (k + 1) xs)) more ∙
    ap (λ z. z ++ numbered_texts shown (suc k) (drop (k + 1) xs)) written ∙ append_assoc a (shown k x) (numbered_texts shown (suc k) (drop (k + 1) xs)) ∙
    ap (λ z. a ++ z) (sym (next (numbered_texts shown k) xs k x there)) ∙ left

-- where nothing is left, all is written
pub none_numbered : {A : Type 0} (shown : ℕ → A → List ℕ) (xs : List A) (k : ℕ) (a : List ℕ) {whole : List ℕ} → length xs ≤ k →
    a ++ numbered_texts shown k (drop k xs) ≡ whole → a ≡ whole
none_numbered shown xs k a all left =
    sym (append-nil a) ∙ ap (λ z. a ++ numbered_texts shown k z) (sym (drop_all k xs all)) ∙ left
