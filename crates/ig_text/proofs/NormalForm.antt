-- Ranges in normal form are determined by the numbers in them.
use Rattle.std.proofs.Common.{◌≡◌, ◌∙◌, ℕ, ◌+◌, ◌<◌, ◌≤◌, List, [], ◌∷◌, Bool, true, false, refl, sym, ap, arith, inl, inr}
use Rattle.std.proofs.lemmas.Bool.{cases_lt}
use Rattle.std.proofs.lemmas.Bool.Decides.{nat_tests}
use Rattle.ig_text.specs.Ranges.{IsNormalFrom, HasOneNormalForm, is_within, is_among}

inside : (r : ℕ × ℕ) (c : ℕ) → r.0 ≤ c → c ≤ r.1 → is_within r c ≡ true
inside r c h k = grind (arith, nat_tests)

before : (r : ℕ × ℕ) (c : ℕ) → c < r.0 → is_within r c ≡ false
before r c h = grind (arith, nat_tests)

behind : (r : ℕ × ℕ) (c : ℕ) → r.1 < c → is_within r c ≡ false
behind r c h = grind (arith, nat_tests)

-- no number below the least one is among the ranges
none_below : (low : ℕ) (xs : List (ℕ × ℕ)) (c : ℕ) → IsNormalFrom low xs → c < low → is_among xs c ≡ false
none_below low [] c n h = refl
none_below low (x ∷ xs) c n h =
    let here : is_within x c ≡ false = before x c (omega (arith, n.0)) in
    let rest = none_below (x.1 + 2) xs c n.2 (omega (arith, n.0, n.1)) in rw (here, rest) refl

-- a number in the first range is among the ranges
in_first : (x : ℕ × ℕ) (xs : List (ℕ × ℕ)) (c : ℕ) → x.0 ≤ c → c ≤ x.1 → is_among (x ∷ xs) c ≡ true
in_first x xs c h k = rw (inside x c h k) refl

-- the number behind the first range is not
not_behind : (low : ℕ) (x : ℕ × ℕ) (xs : List (ℕ × ℕ)) → IsNormalFrom low (x ∷ xs) → is_among (x ∷ xs) (x.1 + 1) ≡ false
not_behind low x xs n =
    let here : is_within x (x.1 + 1) ≡ false = behind x (x.1 + 1) (omega arith) in
    let rest = none_below (x.1 + 2) xs (x.1 + 1) n.2 (omega arith) in rw (here, rest) refl

clash : (a b : Bool) → a ≡ b → a ≡ true → b ≡ false → ⊥
clash a b e p q = cc

abbrev SameMembers : List (ℕ × ℕ) → List (ℕ × ℕ) → Type 0
SameMembers xs ys = (c : ℕ) → is_among xs c ≡ is_among ys c

-- with the same members, no list's first range begins before the other's
begins_no_earlier : (low : ℕ) (x y : ℕ × ℕ) (xs ys : List (ℕ × ℕ)) → IsNormalFrom low (x ∷ xs) →
    IsNormalFrom low (y ∷ ys) → SameMembers (x ∷ xs) (y ∷ ys) → y.0 ≤ x.0
begins_no_earlier low x y xs ys m n same =
    elim (cases_lt x.0 y.0) [
      | inl h ↦
          absurd
          (clash _ _ (same x.0) (in_first x xs x.0 (omega arith) m.1)
          (none_below y.0 (y ∷ ys) x.0 (omega arith, n.1, n.2) h))
      | inr h ↦ h
    ]

-- and where both begin alike, none ends behind the other
ends_no_later : (low : ℕ) (x y : ℕ × ℕ) (xs ys : List (ℕ × ℕ)) → IsNormalFrom low (x ∷ xs) →
    IsNormalFrom low (y ∷ ys) → SameMembers (x ∷ xs) (y ∷ ys) → x.0 ≡ y.0 → y.1 ≤ x.1
ends_no_later low x y xs ys m n same e =
    elim (cases_lt x.1 y.1) [
      | inl h ↦
          absurd
          (clash _ _ (sym (same (x.1 + 1))) (in_first y ys (x.1 + 1) (omega (arith, m.1)) (omega arith))
          (not_behind low x xs m))
      | inr h ↦ h
    ]

-- behind the first range only the others count
past_first : (x : ℕ × ℕ) (xs : List (ℕ × ℕ)) (c : ℕ) → x.1 < c → is_among (x ∷ xs) c ≡ is_among xs c
past_first x xs c h = let here = behind x c h in rw here refl

others_same : (low : ℕ) (x y : ℕ × ℕ) (xs ys : List (ℕ × ℕ)) → IsNormalFrom low (x ∷ xs) →
    IsNormalFrom low (y ∷ ys) → SameMembers (x ∷ xs) (y ∷ ys) → x.1 ≡ y.1 → SameMembers xs ys
others_same low x y xs ys m n same e c =
    elim (cases_lt c (x.1 + 2)) [
      | inl h ↦ none_below (x.1 + 2) xs c m.2 h ∙ sym (none_below (y.1 + 2) ys c n.2 (omega arith))
      | inr h ↦
          sym (past_first x xs c (omega arith)) ∙ same c ∙ past_first y ys c (omega arith)
    ]

range_same : (x y : ℕ × ℕ) → x.0 ≡ y.0 → x.1 ≡ y.1 → x ≡ y
range_same x y p q =
    let first : ℕ → ℕ × ℕ = λ a. (a, x.1) in
    let second : ℕ → ℕ × ℕ = λ b. (y.0, b) in ap first p ∙ ap second q

list_same : (x y : ℕ × ℕ) (xs ys : List (ℕ × ℕ)) → x ≡ y → xs ≡ ys → x ∷ xs ≡ y ∷ ys
list_same x y xs ys p q = cc

one_list : (low : ℕ) (xs ys : List (ℕ × ℕ)) → IsNormalFrom low xs → IsNormalFrom low ys →
    SameMembers xs ys → xs ≡ ys
one_list low [] [] m n same = refl
one_list low [] (y ∷ ys) m n same =
    absurd (clash _ _ (sym (same y.0)) (in_first y ys y.0 (omega arith) n.1) refl)
one_list low (x ∷ xs) [] m n same =
    absurd (clash _ _ (same x.0) (in_first x xs x.0 (omega arith) m.1) refl)
one_list low (x ∷ xs) (y ∷ ys) m n same =
    let begin : x.0 ≡ y.0 =
    omega (
      arith,
      begins_no_earlier low x y xs ys m n same,
      begins_no_earlier low y x ys xs n m (λ c. sym (same c)),
    ) in
    let end : x.1 ≡ y.1 =
    omega (
      arith,
      ends_no_later low x y xs ys m n same begin,
      ends_no_later low y x ys xs n m (λ c. sym (same c)) (sym begin),
    ) in
    list_same x y xs ys (range_same x y begin end)
    (one_list (x.1 + 2) xs ys m.2 (rw end n.2) (others_same low x y xs ys m n same end))

-- ranges have one normal form
pub one_normal_form : HasOneNormalForm
one_normal_form pairs xs ys m n =
    one_list 0 xs ys m.normal n.normal (λ c. m.members c ∙ sym (n.members c))
