-- A sort by first and last characters makes ranges ascend.
use Rattle.std.proofs.Common.{◌≡◌, ◌∙◌, ℕ, suc, ◌+◌, ◌≤◌, List, [], ◌∷◌, false, get_or, Ordering, refl, sym, ap, subst, arith}
use Rattle.std.proofs.lemmas.Bool.Decides.{nat_tests}
use Rattle.std.proofs.lemmas.List.Elements.{All-tail}
use Rattle.std.proofs.lemmas.List.Sorted.{All-permutation, list_any-IsPermutation}
use Rattle.std.specs.List.Sorted.{IsPermutation, IsSorted}
use Rattle.std.specs.Ordering.{is_lt, nat_cmp, ordering_then}
use Rattle.ig_text.specs.Ranges.{NoneFalls, Ascends, IsNormalFormOf, is_within, is_among}

-- the order of pairs
abbrev pub range_cmp : ℕ × ℕ → ℕ × ℕ → Ordering
range_cmp r s = ordering_then (nat_cmp r.0 s.0) (nat_cmp r.1 s.1)

first_le : (r s : ℕ × ℕ) → is_lt (range_cmp s r) ≡ false → r.0 ≤ s.0
first_le r s e = grind (arith, nat_tests)

sorted_tail : (x : ℕ × ℕ) (xs : List (ℕ × ℕ)) → IsSorted range_cmp (x ∷ xs) → IsSorted range_cmp xs
sorted_tail x xs s k d from below =
    let next : suc k + 1 ≡ suc (k + 1) = omega arith in
    subst (λ (z : ℕ). is_lt (range_cmp (get_or (x ∷ xs) z d) (get_or xs k d)) ≡ false) next
    (s (suc k) d (omega arith) (omega arith))

head_same : (a b : ℕ × ℕ) (others rest : List (ℕ × ℕ)) → a ∷ others ≡ b ∷ rest → a ≡ b
head_same a b others rest e = cc

ascends : (low : ℕ) (xs : List (ℕ × ℕ)) → ((x : ℕ × ℕ) (rest : List (ℕ × ℕ)) → xs ≡ x ∷ rest → low ≤ x.0) →
    IsSorted range_cmp xs → NoneFalls xs → Ascends low xs
ascends low [] h s n = tt
ascends low (x ∷ []) h s n = (h x [] refl, n 0 x (omega arith), tt)
ascends low (x ∷ y ∷ ys) h s n =
    let onward : x.0 ≤ y.0 = first_le x y (s 0 x (omega arith) (omega arith)) in (
      h x (y ∷ ys) refl,
      n 0 x (omega arith),
      ascends x.0 (y ∷ ys) (λ z rest e. subst (λ (w : ℕ × ℕ). x.0 ≤ w.0) (head_same y z ys rest e) onward)
          (sorted_tail x (y ∷ ys) s) (All-tail (λ r. r.0 ≤ r.1) x (y ∷ ys) n),
    )

-- pairs that are sorted and don't fall ascend
pub sorted_ascends : (pairs sorted given : List (ℕ × ℕ)) → given ≡ sorted → IsPermutation pairs sorted →
    IsSorted range_cmp sorted → NoneFalls pairs → Ascends 0 given
sorted_ascends pairs sorted given e p s n =
    rw e (ascends 0 sorted (λ x rest h. omega arith) s (All-permutation (λ r. r.0 ≤ r.1) pairs sorted p n))

-- the normal form of sorted pairs is that of the pairs
pub of_permutation : (pairs sorted given ranges : List (ℕ × ℕ)) → given ≡ sorted → IsPermutation pairs sorted →
    IsNormalFormOf given ranges → IsNormalFormOf pairs ranges
of_permutation pairs sorted given ranges e p n =
    record {
      normal = n.normal;
      members =
          λ c.
          n.members c ∙ ap (λ (z : List (ℕ × ℕ)). is_among z c) e ∙
          sym (list_any-IsPermutation (λ r. is_within r c) pairs sorted p);
    }
