-- Joining ascending ranges that overlap or touch gives their normal form.
use Rattle.std.proofs.Common.{◌≡◌, ◌∙◌, ℕ, ◌+◌, ◌≤◌, ◌||◌, List, [], ◌∷◌, ◌++◌, true, false, cond, ltb, length, drop, refl, sym, ap, subst, arith}
use Rattle.std.proofs.lemmas.Bool.Decides.{nat_tests}
use Rattle.std.proofs.lemmas.List.{drop_all}
use Rattle.std.proofs.Math.Bool.{or_assoc}
use Rattle.ig_text.proofs.Numbers.{far, near}
use Rattle.ig_text.specs.Ranges.{Ascends, IsNormalFrom, IsNormalFormOf, is_within, is_among}

-- the first range, with the end of the second where that is greater
abbrev pub grown : ℕ × ℕ → ℕ × ℕ → ℕ × ℕ
grown r s = (r.0, cond (ltb r.1 s.1) s.1 r.1)

-- the ranges that a range and the rest make
abbrev pub joined : ℕ × ℕ → List (ℕ × ℕ) → List (ℕ × ℕ)
joined r [] = r ∷ []
joined r (s ∷ rest) = cond (ltb (r.1 + 1) s.0) (r ∷ joined s rest) (joined (grown r s) rest)

end_grown : (r s : ℕ × ℕ) → (r.1 ≤ (grown r s).1) × (s.1 ≤ (grown r s).1)
end_grown r s = (grind (arith, nat_tests), grind (arith, nat_tests))

ascends_from : (low more : ℕ) (xs : List (ℕ × ℕ)) → low ≤ more → Ascends more xs → Ascends low xs
ascends_from low more [] h a = tt
ascends_from low more (x ∷ xs) h a = (omega (arith, a.0), a.1, a.2)

normal : (low : ℕ) (r : ℕ × ℕ) (rest : List (ℕ × ℕ)) → low ≤ r.0 → r.0 ≤ r.1 → Ascends r.0 rest →
    IsNormalFrom low (joined r rest)
normal low r [] h k a = (h, k, tt)
normal low r (s ∷ rest) h k a =
    (elim (ltb (r.1 + 1) s.0) as
    (λ v. ltb (r.1 + 1) s.0 ≡ v → IsNormalFrom low (cond v (r ∷ joined s rest) (joined (grown r s) rest))) [
      | true ↦ λ e. (h, k, normal (r.1 + 2) s rest (far r.1 s.0 e) a.1 a.2)
      | false ↦
          λ e. normal low (grown r s) rest h (omega (arith, (end_grown r s).0)) (ascends_from r.0 s.0 rest a.0 a.2)
    ])
    refl

both_within : (r s : ℕ × ℕ) (c : ℕ) → r.0 ≤ r.1 → r.0 ≤ s.0 → s.0 ≤ s.1 → s.0 ≤ r.1 + 1 →
    is_within (grown r s) c ≡ (is_within r c || is_within s c)
both_within r s c h k l m = grind (arith, nat_tests)

members : (r : ℕ × ℕ) (rest : List (ℕ × ℕ)) (c : ℕ) → r.0 ≤ r.1 → Ascends r.0 rest →
    is_among (joined r rest) c ≡ is_among (r ∷ rest) c
members r [] c k a = refl
members r (s ∷ rest) c k a =
    (elim (ltb (r.1 + 1) s.0) as
    (λ v. ltb (r.1 + 1) s.0 ≡ v → is_among (cond v (r ∷ joined s rest) (joined (grown r s) rest)) c ≡
    is_among (r ∷ s ∷ rest) c) [
      | true ↦ λ e. ap (λ z. is_within r c || z) (members s rest c a.1 a.2)
      | false ↦
          λ e.
          members (grown r s) rest c (omega (arith, (end_grown r s).0)) (ascends_from r.0 s.0 rest a.0 a.2) ∙
          ap (λ z. z || is_among rest c) (both_within r s c k a.0 a.1 (near r.1 s.0 e)) ∙
          or_assoc (is_within r c) (is_within s c) (is_among rest c)
    ])
    refl

joined_is : (pairs : List (ℕ × ℕ)) (r : ℕ × ℕ) (rest : List (ℕ × ℕ)) → pairs ≡ r ∷ rest → Ascends 0 pairs →
    IsNormalFormOf pairs (joined r rest)
joined_is pairs r rest e a =
    let b : Ascends 0 (r ∷ rest) = subst (λ (z : List (ℕ × ℕ)). Ascends 0 z) e a in
    rw e (record { normal = normal 0 r rest b.0 b.1 b.2; members = λ c. members r rest c b.1 b.2 })

-- behind the last pair what was joined is the normal form
pub at_end : (pairs rest done result : List (ℕ × ℕ)) (first last : ℕ × ℕ) (i : ℕ) → pairs ≡ first ∷ rest →
    Ascends 0 pairs → done ++ joined last (drop i rest) ≡ joined first rest → length rest ≤ i →
    result ≡ done ++ last ∷ [] → IsNormalFormOf pairs result
at_end pairs rest done result first last i e a same over is =
    let none : drop i rest ≡ [] = drop_all i rest over in
    let all : result ≡ joined first rest = is ∙ ap (λ (z : List (ℕ × ℕ)). done ++ joined last z) (sym none) ∙ same in
    rw all (joined_is pairs first rest e a)
