-- Sums over a list that are added up one by one.
use Rattle.std.proofs.Common.{◌≡◌, ℕ, ◌+◌, ◌<◌, ◌≤◌, List, [], ◌∷◌, length, drop, arith, suc, zero, get_or, ap, Some, None, slice_get}
use Rattle.std.proofs.lemmas.Option.{same_Some}
use Rattle.std.specs.List.{fold}
use Rattle.ig_item.specs.Core.{IsAlternative, dots_of_alternative, dots_of_nonterminal, dots}
use Rattle.ig_item.specs.declared.core_grammar.Nonterminal.{Nonterminal}
use Rattle.ig_item.specs.declared.core_grammar.CoreAlt.{CoreAlt}

module _ {X : Type 0} (f : X → ℕ) where
  -- the sum on top of one so far
  abbrev pub sum_from : ℕ → List X → ℕ
  sum_from sum xs = fold (λ a x. a + f x) sum xs

  pub sum_grows : (sum : ℕ) (xs : List X) → sum ≤ sum_from sum xs
  sum_grows sum [] = omega arith
  sum_grows sum (x ∷ xs) = let h : sum + f x ≤ sum_from (sum + f x) xs = sum_grows (sum + f x) xs in omega (arith, h)

  taken : (sum : ℕ) (xs : List X) (i : ℕ) (d : X) → i < length xs → sum + f (get_or xs i d) ≤ sum_from sum (drop i xs)
  taken sum [] i d lt = absurd (omega arith)
  taken sum (x ∷ xs) zero d lt = sum_grows (sum + f x) xs
  taken sum (x ∷ xs) (suc i) d lt = taken sum xs i d (omega arith)

  -- the next member added stays within the whole sum
  pub step_within : (sum : ℕ) (xs : List X) (i : ℕ) (x : X) (whole : ℕ) → i < length xs → x ≡ get_or xs i x →
      sum_from sum (drop i xs) ≡ whole → sum + f x ≤ whole
  step_within sum xs i x whole lt is e =
      let h : sum + f (get_or xs i x) ≤ sum_from sum (drop i xs) = taken sum xs i x lt in
      let same : f x ≡ f (get_or xs i x) = ap f is in
      omega (arith, h, same, e)

  -- a list has no more members than the sum where each counts
  counted : ((x : X) → 1 ≤ f x) → (sum : ℕ) (xs : List X) → sum + length xs ≤ sum_from sum xs
  counted one sum [] = omega arith
  counted one sum (x ∷ xs) =
      let h : (sum + f x) + length xs ≤ sum_from (sum + f x) xs = counted one (sum + f x) xs in omega (arith, h, one x)

  -- a member counts no more than the whole
  pub member_within : (sum : ℕ) (xs : List X) (i : ℕ) (x : X) → slice_get xs i ≡ Some x → f x ≤ sum_from sum xs
  member_within sum [] i x e = cc
  member_within sum (y ∷ xs) zero x e =
      let same : f y ≡ f x = ap f (same_Some y x e) in
      let h : sum + f y ≤ sum_from (sum + f y) xs = sum_grows (sum + f y) xs in
      omega (arith, h, same)
  member_within sum (y ∷ xs) (suc i) x e = member_within (sum + f y) xs i x e

pub alternatives_are_few : (core : List Nonterminal) (n : ℕ) (nonterminal : Nonterminal) → slice_get core n ≡ Some nonterminal →
    length nonterminal.alternatives ≤ dots core
alternatives_are_few core n nonterminal at =
    let h = member_within dots_of_nonterminal 0 core n nonterminal at in
    let k = counted dots_of_alternative (λ a. omega arith) 0 nonterminal.alternatives in
    omega (arith, h, k)

pub steps_are_few : (core : List Nonterminal) (n a : ℕ) (nonterminal : Nonterminal) (alternative : CoreAlt) →
    IsAlternative core n a nonterminal alternative → length alternative.steps + 1 ≤ dots core
steps_are_few core n zero nonterminal alternative is = let h : None ≡ Some alternative = is.has in cc
steps_are_few core n (suc k) nonterminal alternative is =
    let h = member_within dots_of_nonterminal 0 core n nonterminal is.there in
    let m = member_within dots_of_alternative 0 nonterminal.alternatives k alternative is.has in
    omega (arith, h, m)
