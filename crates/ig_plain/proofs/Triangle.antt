-- The stretches of a text: there are (n + 1) (n + 2) / 2 of them in n characters.
use Rattle.std.proofs.Common.{◌≡◌, ℕ, zero, suc, ◌+◌, ◌*◌, ◌/◌, ◌<◌, ◌≤◌, List, [], ◌++◌, Some, slice_get, length, length-append, Contains, sym, ap, ◌∙◌, refl, arith, ⊎_elim}
use Rattle.std.proofs.Math.Nat.{mul_assoc}
use Rattle.std.proofs.lemmas.List.Elements.{Contains-append_left, Contains-append_right}
use Rattle.ig_text.proofs.Differing.{both_differ}
use Rattle.ig_text.proofs.Lists.{at_from_contains, sides}
use Rattle.ig_item.specs.WellKinded.{NoneTwice}
use Rattle.ig_plain.proofs.Listing.{below, length-below, in_below, at_below, once_below, order}

-- from where to where
pub record Stretch : Type 0 where
  pub start : ℕ
  pub end : ℕ

abbrev pub stretch : ℕ → ℕ → Stretch
stretch end start = record { start = start; end = end }

-- all that end before n
abbrev pub stretches : ℕ → List Stretch
stretches zero = []
stretches (suc n) = below (stretch n) (suc n) ++ stretches n

-- those that end before n are n (n + 1) / 2
pub length-stretches : (n : ℕ) → n * suc n ≡ length (stretches n) * 2
length-stretches zero = refl
length-stretches (suc n) =
    let last = length-below (stretch n) (suc n) in
    let others = length-stretches n in
    let all = length-append (below (stretch n) (suc n)) (stretches n) in
    let wide : suc n * suc (suc n) ≡ n * suc n + 2 * suc n = grind arith in
    omega (arith, last, others, all, wide)

-- each of them is in the list
pub in_stretches : (n start end : ℕ) → start ≤ end → end < n → Contains (stretches n) (stretch end start)
in_stretches zero start end first lt = absurd (omega arith)
in_stretches (suc n) start end first lt =
    ⊎_elim
    (λ (e : end ≡ n).
    rw e
    (Contains-append_left (below (stretch n) (suc n)) (stretches n) (stretch n start)
    (in_below (stretch n) (suc n) start (omega (arith, e, first)))))
    (λ (h : end < n).
    Contains-append_right (below (stretch n) (suc n)) (stretches n) (stretch end start) (in_stretches n start end first h))
    (order end n lt)

-- where each of them lies
pub record Within (n : ℕ) (s : Stretch) : Type 0 where
  pub onward : s.start ≤ s.end
  pub inside : s.end < n

-- the ones that were added last end at n
within_last : (n i : ℕ) (s : Stretch) → slice_get (below (stretch n) (suc n)) i ≡ Some s → (s.end ≡ n) × (s.start ≤ n)
within_last n i s e =
    let h = at_below (stretch n) (suc n) i s e in
    (sym (ap (λ (t : Stretch). t.end) h.2), omega (arith, h.1, ap (λ (t : Stretch). t.start) h.2))

pub within_stretches : (n i : ℕ) (s : Stretch) → slice_get (stretches n) i ≡ Some s → Within n s
within_stretches zero i s e = cc
within_stretches (suc n) i s e =
    ⊎_elim
    (λ (h : slice_get (below (stretch n) (suc n)) i ≡ Some s).
    let w = within_last n i s h in record { onward = omega (arith, w.0, w.1); inside = omega (arith, w.0) })
    (λ (h : (m : ℕ) × (i ≡ length (below (stretch n) (suc n)) + m) × (slice_get (stretches n) m ≡ Some s)).
    let w = within_stretches n h.0 s h.2 in record { onward = w.onward; inside = omega (arith, w.inside) })
    (sides (below (stretch n) (suc n)) (stretches n) i s e)

-- none of them stands twice
pub once_stretches : (n : ℕ) → NoneTwice (stretches n)
once_stretches zero = λ i j s p q. cc
once_stretches (suc n) =
    both_differ (below (stretch n) (suc n)) (stretches n)
    (once_below (stretch n) (suc n) (λ j k e. ap (λ (t : Stretch). t.start) e)) (once_stretches n)
    (λ s c d.
    let a = at_from_contains (below (stretch n) (suc n)) s c in
    let b = at_from_contains (stretches n) s d in
    let w = within_last n a.0 s a.1 in
    let v = within_stretches n b.0 s b.1 in omega (arith, w.0, v.inside))

-- so many things with each of the stretches
pub times_stretches : (d n : ℕ) → d * (n + 1) * (n + 2) / 2 ≡ d * length (stretches (n + 1))
times_stretches d n =
    let two : suc (n + 1) ≡ n + 2 = omega arith in
    let all : d * (n + 1) * (n + 2) ≡ d * length (stretches (n + 1)) * 2 =
    mul_assoc d (n + 1) (n + 2) ∙ ap (λ (m : ℕ). d * ((n + 1) * m)) (sym two) ∙
    ap (λ (m : ℕ). d * m) (length-stretches (n + 1)) ∙ sym (mul_assoc d (length (stretches (n + 1))) 2) in
    omega (arith, all)
