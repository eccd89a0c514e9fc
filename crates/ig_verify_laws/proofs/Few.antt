-- How many alternatives, steps and members there are.
use Rattle.std.proofs.Common.{◌≡◌, ◌∙◌, ℕ, zero, suc, ◌<◌, ◌≤◌, List, [], ◌∷◌, Some, length, slice_get, sum_by, refl, sym, ap, arith}
use Rattle.std.proofs.lemmas.List.Sums.{sum_by-cons}
use Rattle.std.proofs.lemmas.Option.{same_Some}
use Rattle.ig_item.specs.Core.{numbered, dots, dots_of_alternative, dots_of_nonterminal}
use Rattle.ig_item.specs.WellKinded.{NoneTwice}
use Rattle.ig_item.specs.declared.core_grammar.CoreAlt.{CoreAlt}
use Rattle.ig_verify_laws.specs.ReducedLaws.{AlternativesAreFew}

-- a member counts no more than all
part_few : {X : Type 0} (f : X → ℕ) (xs : List X) (k : ℕ) (x : X) → slice_get xs k ≡ Some x → f x ≤ sum_by f xs
part_few f [] k x e = absurd (cc)
part_few f (y ∷ ys) zero x e =
    let sum = sum_by-cons f y ys in let same : f y ≡ f x = ap f (same_Some y x e) in omega (arith, sum, same)
part_few f (y ∷ ys) (suc k) x e =
    let sum = sum_by-cons f y ys in let few = part_few f ys k x e in omega (arith, sum, few)

-- each alternative has a dot
place_few : (xs : List CoreAlt) (k : ℕ) (x : CoreAlt) → slice_get xs k ≡ Some x → k < sum_by dots_of_alternative xs
place_few [] k x e = absurd (cc)
place_few (y ∷ ys) zero x e = let sum = sum_by-cons dots_of_alternative y ys in omega (arith, sum)
place_few (y ∷ ys) (suc k) x e =
    let sum = sum_by-cons dots_of_alternative y ys in let few = place_few ys k x e in omega (arith, sum, few)

number_few : (xs : List CoreAlt) (a : ℕ) (x : CoreAlt) → numbered xs a ≡ Some x →
    (a ≤ sum_by dots_of_alternative xs) × (length x.steps < sum_by dots_of_alternative xs)
number_few xs zero x e = absurd (cc)
number_few xs (suc k) x e =
    let place = place_few xs k x e in
    let part = part_few dots_of_alternative xs k x e in
    (omega (arith, place), omega (arith, part))

pub alternatives_few : AlternativesAreFew
alternatives_few core n a nonterminal alternative is =
    let inside = number_few nonterminal.alternatives a alternative is.has in
    let part = part_few dots_of_nonterminal core n nonterminal is.there in
    let many : dots_of_nonterminal nonterminal ≤ dots core = part in
    let number = inside.0 in
    let steps = inside.1 in
    (omega (arith, number, many), omega (arith, steps, many))

-- the list without the member at that place
abbrev without : {X : Type 0} → ℕ → List X → List X
without k [] = []
without zero (y ∷ ys) = ys
without (suc k) (y ∷ ys) = y ∷ without k ys

one_less : {X : Type 0} (k : ℕ) (ys : List X) (y : X) → slice_get ys k ≡ Some y → suc (length (without k ys)) ≡ length ys
one_less k [] y e = absurd (cc)
one_less zero (z ∷ zs) y e = refl
one_less (suc k) (z ∷ zs) y e = ap suc (one_less k zs y e)

stays : {X : Type 0} (k m : ℕ) (ys : List X) (y : X) → slice_get ys m ≡ Some y → (m ≡ k → ⊥) →
    (p : ℕ) × (slice_get (without k ys) p ≡ Some y)
stays k m [] y e other = absurd (cc)
stays zero zero (z ∷ zs) y e other = absurd (other refl)
stays zero (suc m) (z ∷ zs) y e other = (m, e)
stays (suc k) zero (z ∷ zs) y e other = (0, e)
stays (suc k) (suc m) (z ∷ zs) y e other =
    let p = stays k m zs y e (λ same. other (ap suc same)) in (suc p.0, p.1)

-- different members of a list are no more than its members
pub at_most : {X : Type 0} (xs ys : List X) → NoneTwice xs →
    ((i : ℕ) (x : X) → slice_get xs i ≡ Some x → (k : ℕ) × (slice_get ys k ≡ Some x)) → length xs ≤ length ys
at_most [] ys different inside = omega arith
at_most {X} (x ∷ xs) ys different inside =
    let here = inside 0 x refl in
    let few : length xs ≤ length (without here.0 ys) =
    at_most xs (without here.0 ys) (λ i j y a b. let same = different (suc i) (suc j) y a b in omega (arith, same))
    (λ i y at.
    let there = inside (suc i) y at in
    stays here.0 there.0 ys y there.1
    (λ same.
    let one : y ≡ x = same_Some y x (sym there.1 ∙ ap (slice_get ys) same ∙ here.1) in
    let never = different (suc i) 0 x (at ∙ ap Some one) refl in omega (arith, never))) in
    let long = one_less here.0 ys x here.1 in
    omega (arith, few, long)
