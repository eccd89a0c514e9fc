-- Characters are told by their bytes.
use Rattle.std.proofs.Common.{◌≡◌, ◌∙◌, ℕ, ◌+◌, ◌-◌, ◌*◌, ◌/◌, ◌%◌, ◌<◌, ◌≤◌, List, [], ◌∷◌, ◌++◌, Bool, true, false, cond, ltb, Option, Some, None, refl, sym, ap, arith}
use Rattle.std.specs.Char.{encode_utf8}
use Rattle.std.specs.Prelude.{encode_utf8_all}
use Rattle.std.proofs.lemmas.Bool.{le-ltb, lt-ltb, ltb-true}
use Rattle.std.proofs.lemmas.Option.{same_Some}

-- the character that stands first in the bytes, and what stands after it
record Front : Type 0 where
  character : ℕ
  rest : List ℕ

abbrev front : ℕ → List ℕ → Option Front
front c bs = Some (record { character = c; rest = bs })

abbrev two : ℕ → List ℕ → Option Front
two a [] = None
two a (b ∷ bs) = front ((a - 192) * 64 + (b - 128)) bs

abbrev three : ℕ → List ℕ → Option Front
three a [] = None
three a (b ∷ []) = None
three a (b ∷ c ∷ bs) = front (((a - 224) * 64 + (b - 128)) * 64 + (c - 128)) bs

abbrev four : ℕ → List ℕ → Option Front
four a [] = None
four a (b ∷ []) = None
four a (b ∷ c ∷ []) = None
four a (b ∷ c ∷ d ∷ bs) = front ((((a - 240) * 64 + (b - 128)) * 64 + (c - 128)) * 64 + (d - 128)) bs

-- by the first byte
abbrev by_lead : (one two_bytes three_bytes : Bool) → ℕ → List ℕ → Option Front
by_lead true y z a bs = front a bs
by_lead false true z a bs = two a bs
by_lead false false true a bs = three a bs
by_lead false false false a bs = four a bs

abbrev read : List ℕ → Option Front
read [] = None
read (a ∷ bs) = by_lead (ltb a 128) (ltb a 224) (ltb a 240) a bs

two_is : (c : ℕ) → ((192 + c / 64) - 192) * 64 + ((128 + c % 64) - 128) ≡ c
two_is c = omega arith

three_is : (c : ℕ) → (((224 + c / 4096) - 224) * 64 + ((128 + (c / 64) % 64) - 128)) * 64 + ((128 + c % 64) - 128) ≡ c
three_is c = omega arith

four_is : (c : ℕ) →
    ((((240 + c / 262144) - 240) * 64 + ((128 + (c / 4096) % 64) - 128)) * 64 + ((128 + (c / 64) % 64) - 128)) * 64 +
    ((128 + c % 64) - 128) ≡ c
four_is c = omega arith

-- one of four, by three tests
pub by_three : (P : List ℕ → Type 0) (x y z : Bool) (us vs ws xs : List ℕ) → (x ≡ true → P us) → (y ≡ true → P vs) →
    (z ≡ true → P ws) → P xs → P (cond x us (cond y vs (cond z ws xs)))
by_three P true y z us vs ws xs f g h k = f refl
by_three P false true z us vs ws xs f g h k = g refl
by_three P false false true us vs ws xs f g h k = h refl
by_three P false false false us vs ws xs f g h k = k

-- what stands after the first byte tells the character
lead_two : (a : ℕ) (bs : List ℕ) → 128 ≤ a → a < 224 → read (a ∷ bs) ≡ two a bs
lead_two a bs h k =
    ap (λ (b : Bool). by_lead b (ltb a 224) (ltb a 240) a bs) (le-ltb a 128 h) ∙
    ap (λ (b : Bool). by_lead false b (ltb a 240) a bs) (lt-ltb a 224 k)

lead_three : (a : ℕ) (bs : List ℕ) → 224 ≤ a → a < 240 → read (a ∷ bs) ≡ three a bs
lead_three a bs h k =
    ap (λ (b : Bool). by_lead b (ltb a 224) (ltb a 240) a bs) (le-ltb a 128 (omega (arith, h))) ∙
    ap (λ (b : Bool). by_lead false b (ltb a 240) a bs) (le-ltb a 224 h) ∙
    ap (λ (b : Bool). by_lead false false b a bs) (lt-ltb a 240 k)

lead_four : (a : ℕ) (bs : List ℕ) → 240 ≤ a → read (a ∷ bs) ≡ four a bs
lead_four a bs h =
    ap (λ (b : Bool). by_lead b (ltb a 224) (ltb a 240) a bs) (le-ltb a 128 (omega (arith, h))) ∙
    ap (λ (b : Bool). by_lead false b (ltb a 240) a bs) (le-ltb a 224 (omega (arith, h))) ∙
    ap (λ (b : Bool). by_lead false false b a bs) (le-ltb a 240 h)

of_two : (c : ℕ) → c < 2048 → 192 + c / 64 < 224
of_two c h = omega (arith, h)

of_three : (c : ℕ) → c < 65536 → 224 + c / 4096 < 240
of_three c h = omega (arith, h)

front_told : (c : ℕ) (rest : List ℕ) → read (encode_utf8 c ++ rest) ≡ front c rest
unfolding encode_utf8
front_told c rest =
    by_three (λ bs. read (bs ++ rest) ≡ front c rest) (ltb c 128) (ltb c 2048) (ltb c 65536) _ _ _ _
    (λ e. ap (λ (b : Bool). by_lead b (ltb c 224) (ltb c 240) c rest) e)
    (λ e.
    lead_two (192 + c / 64) _ (omega arith) (of_two c (ltb-true c 2048 e)) ∙ ap (λ (n : ℕ). front n rest) (two_is c))
    (λ e.
    lead_three (224 + c / 4096) _ (omega arith) (of_three c (ltb-true c 65536 e)) ∙
    ap (λ (n : ℕ). front n rest) (three_is c))
    (lead_four (240 + c / 262144) _ (omega arith) ∙ ap (λ (n : ℕ). front n rest) (four_is c))

-- so characters are told by their bytes
pub characters_told : (xs ys : List ℕ) → encode_utf8_all xs ≡ encode_utf8_all ys → xs ≡ ys
characters_told [] [] e = refl
characters_told [] (y ∷ ys) e =
    let never : None ≡ front y (encode_utf8_all ys) = ap read e ∙ front_told y (encode_utf8_all ys) in absurd (cc)
characters_told (x ∷ xs) [] e =
    let never : None ≡ front x (encode_utf8_all xs) = ap read (sym e) ∙ front_told x (encode_utf8_all xs) in absurd (cc)
characters_told (x ∷ xs) (y ∷ ys) e =
    let same : front x (encode_utf8_all xs) ≡ front y (encode_utf8_all ys) =
    sym (front_told x (encode_utf8_all xs)) ∙ ap read e ∙ front_told y (encode_utf8_all ys) in
    let one = same_Some (record { character = x; rest = encode_utf8_all xs }) (record { character = y; rest = encode_utf8_all ys }) same in
    let first : x ≡ y = ap (λ (f : Front). f.character) one in
    let others : encode_utf8_all xs ≡ encode_utf8_all ys = ap (λ (f : Front). f.rest) one in
    let rest = characters_told xs ys others in λ i. first i ∷ rest i
