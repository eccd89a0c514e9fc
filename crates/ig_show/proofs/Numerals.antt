-- A number in decimal is a numeral, and spells the number.
use Rattle.std.proofs.Common.{◌≡◌, ◌∙◌, ap, refl, ℕ, zero, suc, ◌+◌, ◌-◌, ◌*◌, ◌/◌, ◌%◌, ◌<◌, ◌≤◌, ◌^◌, List, [], ◌∷◌, ◌++◌, Bool, true, false, cond, nat_lt, arith}
use Rattle.std.specs.List.{list_all}
use Rattle.std.specs.Fmt.{decimal}
use Rattle.std.proofs.lemmas.Fmt.{decimal_digit, decimal_step}
use Rattle.std.proofs.lemmas.Bool.Decides.{nat_tests}
use Rattle.ig_text.specs.Words.{is_digit}
use Rattle.ig_text.proofs.Characters.{digit_test}
use Rattle.ig_expr.specs.Reading.{spelled}
use Rattle.std.proofs.lemmas.Bool.{and_parts}
use Rattle.ig_notation_syntax.specs.Spelling.{IsNumeral, nought, digits}
use Rattle.ig_show.specs.Spelling.{digits_within, numeral}

-- the list is a numeral that spells n, and what the library writes for n
pub record Spells (n : ℕ) (ds : List ℕ) : Type 0 where
  pub is_numeral : IsNumeral ds
  pub value : spelled 0 ds ≡ n
  pub decimal_is : n < 2 ^ 64 → decimal n ≡ ds

spelled_more : (ds : List ℕ) (n c : ℕ) → spelled n (ds ++ c ∷ []) ≡ 10 * spelled n ds + (c - 48)
spelled_more [] n c = refl
spelled_more (d ∷ ds) n c = spelled_more ds (10 * n + (d - 48)) c

all_more : (ds : List ℕ) (c : ℕ) → list_all is_digit ds ≡ true → is_digit c ≡ true → list_all is_digit (ds ++ c ∷ []) ≡ true
all_more [] c h k = rw k refl
all_more (d ∷ ds) c h k =
    let parts = and_parts (is_digit d) (list_all is_digit ds) h in rw parts.0 (all_more ds c parts.1 k)

numeral_more : {ds : List ℕ} (c : ℕ) → IsNumeral ds → (spelled 0 ds ≡ 0 → ⊥) → is_digit c ≡ true → IsNumeral (ds ++ c ∷ [])
numeral_more c nought n k = absurd (n refl)
numeral_more c (digits d ds a b all) n k = digits d (ds ++ c ∷ []) a b (all_more ds c all k)

one_digit : (n : ℕ) → n < 10 → IsNumeral ((48 + n) ∷ [])
one_digit zero h = nought
one_digit (suc n) h = digits (48 + suc n) [] (digit_test (suc n) h) (λ e. omega arith) refl

single : (n : ℕ) → n < 10 → Spells n ((48 + n) ∷ [])
single n h =
    record {
      is_numeral = one_digit n h;
      value = let e : 10 * 0 + (48 + n - 48) ≡ n = omega arith in e;
      decimal_is = λ _. decimal_digit n h;
    }

longer : (n : ℕ) (ds : List ℕ) → 10 ≤ n → Spells (n / 10) ds → Spells n (ds ++ (48 + n % 10) ∷ [])
longer n ds h s =
    let small : n % 10 < 10 = omega arith in
    let v = s.value in
    record {
      is_numeral = numeral_more (48 + n % 10) s.is_numeral (λ e. omega arith) (digit_test (n % 10) small);
      value = spelled_more ds 0 (48 + n % 10) ∙ (rw v (let e : 10 * (n / 10) + (48 + n % 10 - 48) ≡ n = omega arith in e));
      decimal_is = λ k.
          let less : n / 10 < 2 ^ 64 = omega arith in
          decimal_step n h k ∙ ap (λ z. z ++ (48 + n % 10) ∷ []) (s.decimal_is less);
    }

spells_within : (most n : ℕ) → n < most → Spells n (digits_within most n)
spells_within zero n h = absurd (omega arith)
spells_within (suc most) n h = go (nat_lt n 10) refl (λ k. spells_within most (n / 10) (omega arith))
  where
    go : (b : Bool) → nat_lt n 10 ≡ b → (10 ≤ n → Spells (n / 10) (digits_within most (n / 10))) →
        Spells n (cond b ((48 + n) ∷ []) (digits_within most (n / 10) ++ (48 + n % 10) ∷ []))
    go true e others = single n (grind (arith, nat_tests))
    go false e others =
        let large : 10 ≤ n = grind (arith, nat_tests) in longer n (digits_within most (n / 10)) large (others large)

pub spells_numeral : (n : ℕ) → Spells n (numeral n)
unfolding numeral
spells_numeral n = spells_within (suc n) n (omega arith)

pub decimal_is_numeral : (n : ℕ) → n < 2 ^ 64 → decimal n ≡ numeral n
decimal_is_numeral n h = (spells_numeral n).decimal_is h
