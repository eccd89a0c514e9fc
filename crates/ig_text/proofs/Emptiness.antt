-- Lists that are empty, by their lengths, by a test of these, or since they have no member.
use Rattle.std.proofs.Common.{◌≡◌, ℕ, suc, List, [], ◌∷◌, Bool, true, false, length, refl, sym, ◌∙◌, arith, true≢false}
use Rattle.std.specs.Prelude.{◌≢◌, nat_eq}
use Rattle.std.proofs.lemmas.Bool.Decides.{nat_tests}

-- where the length is tested to be 0, the list is empty
pub is_nothing : {X : Type 0} (xs ys : List X) (b : Bool) → b ≡ nat_eq (length xs) 0 → b ≡ true → xs ≡ ys → ys ≡ []
is_nothing [] ys b e t s = sym s
is_nothing (x ∷ xs) ys b e t s =
    let h : nat_eq (suc (length xs)) 0 ≡ true = sym e ∙ t in
    let f : nat_eq (suc (length xs)) 0 ≡ false = grind (arith, nat_tests) in absurd (true≢false (sym h ∙ f))

-- where it is tested to be another number, the list is not empty
pub is_something : {X : Type 0} (xs ys : List X) (b : Bool) → b ≡ nat_eq (length xs) 0 → b ≡ false → xs ≡ ys → ys ≡ [] → ⊥
is_something [] ys b e t s n =
    let h : nat_eq 0 0 ≡ false = sym e ∙ t in let f : nat_eq 0 0 ≡ true = grind (arith, nat_tests) in true≢false (sym f ∙ h)
is_something (x ∷ xs) ys b e t s n = let f : x ∷ xs ≡ [] = s ∙ n in cc

-- a list whose length is 0 is empty
pub emptied : {X : Type 0} (xs : List X) (n : ℕ) → n ≡ length xs → n ≡ 0 → xs ≡ []
emptied [] n e z = refl
emptied (x ∷ xs) n e z = absurd (omega (arith, e, z))

-- a list that can't have a member is empty
pub empty_unless : {X : Type 0} (xs : List X) → (xs ≢ [] → ⊥) → xs ≡ []
empty_unless [] f = refl
empty_unless (x ∷ xs) f = absurd (f (λ e. cc))
