-- A printed code stands where it is printed.
use Rattle.std.proofs.Common.{◌≡◌, ◌≢◌, ◌∙◌, ap, sym, subst, ℕ, zero, suc, ◌+◌, ◌*◌, ◌/◌, ◌%◌, ◌^◌, ◌<◌, ◌≤◌, List, [], ◌∷◌, ◌++◌, Bool, true, false, ◌&&◌, ◌==◌, if◌then◌else◌, Option, Some, refl, length, drop, arith, append_assoc}
use Rattle.std.specs.Prelude.{nat_lt, nat_le}
use Rattle.std.specs.List.{list_all}
use Rattle.std.proofs.lemmas.Bool.{and_parts}
use Rattle.std.proofs.lemmas.Bool.Decides.{nat_tests}
use Rattle.std.proofs.lemmas.List.Folds.{list_all-append}
use Rattle.ig_notation_syntax.specs.Spelling.{begins}
use Rattle.ig_w3c_syntax.specs.Spelling.{run, past, is_hexadecimal, hexadecimal, digit_value, is_character, character_of, begins_code, code, bare, element}
use Rattle.ig_w3c_syntax.specs.TokenLaws.{FrontsAreRuns}
use Rattle.ig_w3c.specs.Text.{digit, digits_within, code_text}

-- one digit
by_ten : (b : Bool) (n : ℕ) → nat_lt n 10 ≡ b → n < 16 →
    (is_hexadecimal (if b then 48 + n else 55 + n) ≡ true) × (digit_value (if b then 48 + n else 55 + n) ≡ n)
by_ten true n e h = (grind (arith, nat_tests), grind (arith, nat_tests))
by_ten false n e h = (grind (arith, nat_tests), grind (arith, nat_tests))

digit_stands : (n : ℕ) → n < 16 → (is_hexadecimal (digit n) ≡ true) × (digit_value (digit n) ≡ n)
digit_stands n h = by_ten (nat_lt n 10) n refl h

last_small : (n : ℕ) → n % 16 < 16
last_small n = omega arith

-- all are digits
all_by : (b : Bool) (n : ℕ) (front : List ℕ) → nat_lt n 16 ≡ b → list_all is_hexadecimal front ≡ true →
    list_all is_hexadecimal (if b then digit n ∷ [] else front ++ digit (n % 16) ∷ []) ≡ true
all_by true n front e h =
    let k : n < 16 = grind (arith, nat_tests) in
    let d = (digit_stands n k).0 in rw d refl
all_by false n front e h =
    let d = (digit_stands (n % 16) (last_small n)).0 in
    list_all-append is_hexadecimal front (digit (n % 16) ∷ []) ∙ (rw (h, d) refl)

digits_all : (most n : ℕ) → list_all is_hexadecimal (digits_within most n) ≡ true
digits_all zero n = refl
digits_all (suc most) n = all_by (nat_lt n 16) n (digits_within most (n / 16)) refl (digits_all most (n / 16))

-- and spell the number
with_last : (k : ℕ) (xs : List ℕ) (d : ℕ) → hexadecimal k (xs ++ d ∷ []) ≡ 16 * hexadecimal k xs + digit_value d
with_last k [] d = refl
with_last k (x ∷ xs) d = with_last (16 * k + digit_value x) xs d

in_parts : (n : ℕ) → 16 * (n / 16) + n % 16 ≡ n
in_parts n = omega arith

plain : (x n : ℕ) → x ≡ n → 16 * 0 + x ≡ n
plain x n e = omega arith

value_by : (b : Bool) (n : ℕ) (front : List ℕ) → nat_lt n 16 ≡ b → (b ≡ false → hexadecimal 0 front ≡ n / 16) →
    hexadecimal 0 (if b then digit n ∷ [] else front ++ digit (n % 16) ∷ []) ≡ n
value_by true n front e h =
    let k : n < 16 = grind (arith, nat_tests) in plain (digit_value (digit n)) n (digit_stands n k).1
value_by false n front e h =
    with_last 0 front (digit (n % 16)) ∙ (rw (h refl, (digit_stands (n % 16) (last_small n)).1) (in_parts n))

fewer : (most n : ℕ) → n < 16 ^ suc most → n / 16 < 16 ^ most
fewer most n h = omega arith

digits_value : (most n : ℕ) → n < 16 ^ most → hexadecimal 0 (digits_within most n) ≡ n
digits_value zero n h = omega arith
digits_value (suc most) n h =
    value_by (nat_lt n 16) n (digits_within most (n / 16)) refl (λ e. digits_value most (n / 16) (fewer most n h))

-- there is at least one
some_by : (b : Bool) (n : ℕ) (front rest : List ℕ) → nat_lt n 16 ≡ b → (b ≡ false → begins is_hexadecimal (front ++ digit (n % 16) ∷ rest) ≡ true) →
    begins is_hexadecimal ((if b then digit n ∷ [] else front ++ digit (n % 16) ∷ []) ++ rest) ≡ true
some_by true n front rest e h = let k : n < 16 = grind (arith, nat_tests) in (digit_stands n k).0
some_by false n front rest e h = ap (begins is_hexadecimal) (append_assoc front (digit (n % 16) ∷ []) rest) ∙ h refl

first_passes : (a b : Bool) → (a && b) ≡ true → a ≡ true
first_passes a b e = (and_parts a b e).0

no_front : (n : ℕ) (front rest : List ℕ) → list_all is_hexadecimal front ≡ true → begins is_hexadecimal (front ++ digit (n % 16) ∷ rest) ≡ true
no_front n [] rest h = (digit_stands (n % 16) (last_small n)).0
no_front n (c ∷ front) rest h = first_passes (is_hexadecimal c) (list_all is_hexadecimal front) h

digits_some : (most n : ℕ) (rest : List ℕ) → begins is_hexadecimal (digits_within (suc most) n ++ rest) ≡ true
digits_some most n rest =
    some_by (nat_lt n 16) n (digits_within most (n / 16)) rest refl
    (λ e. no_front n (digits_within most (n / 16)) rest (digits_all most (n / 16)))

-- so the code is read
with_digits : (digits rest : List ℕ) (c : ℕ) → begins is_hexadecimal (digits ++ rest) ≡ true → run is_hexadecimal (digits ++ rest) ≡ digits →
    past is_hexadecimal (digits ++ rest) ≡ rest → hexadecimal 0 digits ≡ c → is_character c ≡ true →
    (begins_code (35 ∷ 120 ∷ (digits ++ rest)) ≡ true) × (code (35 ∷ 120 ∷ (digits ++ rest)) ≡ Some (c, rest))
with_digits digits rest c b r p h e = (rw b refl, rw (b, r, p, h, e) refl)

few_digits : (c : ℕ) → is_character c ≡ true → c < 16 ^ 6
few_digits c e = let l : c ≤ 1114111 = grind (arith, nat_tests) in omega arith

pub code_stands : FrontsAreRuns → (c : ℕ) (rest : List ℕ) → is_character c ≡ true → begins is_hexadecimal rest ≡ false →
    (begins_code (code_text c ++ rest) ≡ true) × (code (code_text c ++ rest) ≡ Some (c, rest))
code_stands runs c rest e n =
    let digits : List ℕ = digits_within 6 c in
    let f = runs is_hexadecimal (digits ++ rest) digits rest refl (digits_all 6 c) n in
    with_digits digits rest c (digits_some 5 c rest) (sym f.0) (sym f.1) (digits_value 6 c (few_digits c e)) e

chosen : (b : Bool) (text : List ℕ) (c : ℕ) (rest : List ℕ) → b ≡ true → code text ≡ Some (c, rest) →
    (if b then code text else bare text) ≡ Some (c, rest)
chosen true text c rest e h = h
chosen false text c rest e h = absurd (cc)

pub element_stands : FrontsAreRuns → (c : ℕ) (rest : List ℕ) → is_character c ≡ true → begins is_hexadecimal rest ≡ false →
    element (code_text c ++ rest) ≡ Some (c, rest)
element_stands runs c rest e n =
    let s = code_stands runs c rest e n in chosen (begins_code (code_text c ++ rest)) (code_text c ++ rest) c rest s.0 s.1
