-- Putting ranges among ranges in normal form, one after another, gives the normal form.
use Rattle.std.proofs.Common.{◌≡◌, ◌∙◌, ℕ, ◌+◌, ◌≤◌, ◌||◌, min, max, List, [], ◌∷◌, true, false, cond, ltb, refl, ap, arith}
use Rattle.std.proofs.lemmas.Bool.Decides.{nat_tests}
use Rattle.std.proofs.lemmas.List.Elements.{All-tail, All-cons, All-nil}
use Rattle.std.proofs.Math.Bool.{or_assoc}
use Rattle.ig_text.specs.Ranges.{NoneFalls, IsNormalFrom, IsNormalFormOf, NormalFormIsNormal, NormalRangesStay, is_within, is_among, with_range, normal_form}
use Rattle.ig_text.proofs.Booleans.{or_swap}
use Rattle.ig_text.proofs.Numbers.{far, near}
use Rattle.ig_text.proofs.NormalForm.{one_normal_form}

-- the range from the lesser begin to the greater end
abbrev hull : ℕ × ℕ → ℕ × ℕ → ℕ × ℕ
hull r s = (min r.0 s.0, max r.1 s.1)

normal_from : (low more : ℕ) (xs : List (ℕ × ℕ)) → low ≤ more → IsNormalFrom more xs → IsNormalFrom low xs
normal_from low more [] h n = tt
normal_from low more (x ∷ xs) h n = (omega (arith, n.0), n.1, n.2)

put_normal : (low : ℕ) (r : ℕ × ℕ) (xs : List (ℕ × ℕ)) → low ≤ r.0 → r.0 ≤ r.1 → IsNormalFrom low xs →
    IsNormalFrom low (with_range r xs)
put_normal low r [] h k n = (h, k, tt)
put_normal low r (s ∷ rest) h k n =
    (elim (ltb (r.1 + 1) s.0) as
    (λ v. ltb (r.1 + 1) s.0 ≡ v →
    IsNormalFrom low (cond v (r ∷ s ∷ rest) (cond (ltb (s.1 + 1) r.0) (s ∷ with_range r rest) (with_range (hull r s) rest)))) [
      | true ↦ λ e. (h, k, (far r.1 s.0 e, n.1, n.2))
      | false ↦
          λ e.
          (elim (ltb (s.1 + 1) r.0) as
          (λ v. ltb (s.1 + 1) r.0 ≡ v →
          IsNormalFrom low (cond v (s ∷ with_range r rest) (with_range (hull r s) rest))) [
            | true ↦ λ f. (n.0, n.1, put_normal (s.1 + 2) r rest (far s.1 r.0 f) k n.2)
            | false ↦
                λ f.
                put_normal low (hull r s) rest (omega (arith, n.0)) (omega (arith, n.1))
                (normal_from low (s.1 + 2) rest (omega (arith, n.0, n.1)) n.2)
          ])
          refl
    ])
    refl

in_hull : (r s : ℕ × ℕ) (c : ℕ) → r.0 ≤ r.1 → s.0 ≤ s.1 → s.0 ≤ r.1 + 1 → r.0 ≤ s.1 + 1 →
    is_within (hull r s) c ≡ (is_within r c || is_within s c)
in_hull r s c h k l m = grind (arith, nat_tests)

put_members : (low : ℕ) (r : ℕ × ℕ) (xs : List (ℕ × ℕ)) (c : ℕ) → r.0 ≤ r.1 → IsNormalFrom low xs →
    is_among (with_range r xs) c ≡ (is_within r c || is_among xs c)
put_members low r [] c k n = refl
put_members low r (s ∷ rest) c k n =
    (elim (ltb (r.1 + 1) s.0) as
    (λ v. ltb (r.1 + 1) s.0 ≡ v →
    is_among (cond v (r ∷ s ∷ rest) (cond (ltb (s.1 + 1) r.0) (s ∷ with_range r rest) (with_range (hull r s) rest))) c ≡
    (is_within r c || (is_within s c || is_among rest c))) [
      | true ↦ λ e. refl
      | false ↦
          λ e.
          (elim (ltb (s.1 + 1) r.0) as
          (λ v. ltb (s.1 + 1) r.0 ≡ v →
          is_among (cond v (s ∷ with_range r rest) (with_range (hull r s) rest)) c ≡
          (is_within r c || (is_within s c || is_among rest c))) [
            | true ↦
                λ f.
                ap (λ z. is_within s c || z) (put_members (s.1 + 2) r rest c k n.2) ∙
                or_swap (is_within s c) (is_within r c) (is_among rest c)
            | false ↦
                λ f.
                put_members (s.1 + 2) (hull r s) rest c (omega (arith, n.1)) n.2 ∙
                ap (λ z. z || is_among rest c) (in_hull r s c k n.1 (near r.1 s.0 e) (near s.1 r.0 f)) ∙
                or_assoc (is_within r c) (is_within s c) (is_among rest c)
          ])
          refl
    ])
    refl

-- what is made by putting in one range after another is the normal form
pub form_is_normal : NormalFormIsNormal
form_is_normal [] n = record { normal = tt; members = λ c. refl }
form_is_normal (r ∷ pairs) n =
    let first : r.0 ≤ r.1 = n 0 r (omega arith) in
    let others = form_is_normal pairs (All-tail (λ r. r.0 ≤ r.1) r pairs n) in
    record {
      normal = put_normal 0 r (normal_form pairs) (omega arith) first others.normal;
      members =
          λ c.
          put_members 0 r (normal_form pairs) c first others.normal ∙ ap (λ z. is_within r c || z) (others.members c);
    }

normal_falls_not : (low : ℕ) (xs : List (ℕ × ℕ)) → IsNormalFrom low xs → NoneFalls xs
normal_falls_not low [] n = All-nil (λ r. r.0 ≤ r.1)
normal_falls_not low (x ∷ xs) n = All-cons (λ r. r.0 ≤ r.1) x xs n.1 (normal_falls_not (x.1 + 2) xs n.2)

-- ranges in normal form are their own
pub ranges_stay : NormalRangesStay
ranges_stay ranges n =
    one_normal_form ranges (normal_form ranges) ranges (form_is_normal ranges (normal_falls_not 0 ranges n))
    (record { normal = n; members = λ c. refl })

-- a normal form of ranges is the one that is made
pub class_value : (pairs ranges : List (ℕ × ℕ)) → NoneFalls pairs → IsNormalFormOf pairs ranges → ranges ≡ normal_form pairs
class_value pairs ranges n is = one_normal_form pairs ranges (normal_form pairs) is (form_is_normal pairs n)
