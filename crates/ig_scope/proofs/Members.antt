-- What a loop over a list has found, or has refuted of each member so far, and what a look-up shows.
use Rattle.std.proofs.Common.{Option, Some, None, ◌≡◌, ℕ, zero, suc, ◌<◌, List, [], ◌∷◌, ◌+◌, length, get_or, take, map, Bool, true, false, refl, sym, ◌∙◌, ap, subst, arith, true≢false}
use Rattle.std.specs.Prelude.{All, Contains, IsTrue, is_some, not}
use Rattle.ig_expr.specs.View.{expression_of}
use Rattle.ig_expr.specs.declared.expression.Expr.{Expr}
use Rattle.ig_grammar.specs.Binding.{Binding, binding_of}
use Rattle.std.proofs.lemmas.List.Elements.{All-head, All-tail, All-more}
use Rattle.std.proofs.lemmas.List.{length-map}

pub member_found : {X Y : Type 0} (f : X → Y) (xs : List X) (i : ℕ) (x : X) → i < length xs → x ≡ get_or xs i x → Contains (map f xs) (f x)
member_found f [] i x l e = let z : ⊥ = omega arith in absurd z
member_found f (y ∷ xs) zero x l e = (0, omega arith, ap f (sym e))
member_found f (y ∷ xs) (suc i) x l e = let h = member_found f xs i x (omega arith) e in (suc h.0, (let z = h.1 in omega arith), h.2)

pub none_found : {X Y : Type 0} (f : X → Y) (P : Y → Type 0) (xs : List X) → All (λ x. P (f x) → ⊥) xs → (y : Y) → Contains (map f xs) y → P y → ⊥
none_found f P [] a y m p = let l = m.1 in let z : ⊥ = omega arith in z
none_found f P (x ∷ xs) a y m p = go m.0 m.1 m.2 (none_found f P xs (All-tail (λ x. P (f x) → ⊥) x xs a) y)
  where
    go : (k : ℕ) → k < length (map f (x ∷ xs)) → get_or (map f (x ∷ xs)) k y ≡ y → (Contains (map f xs) y → P y → ⊥) → ⊥
    go zero l e h = All-head (λ x. P (f x) → ⊥) x xs a (subst P (sym e) p)
    go (suc k) l e h = h (k, omega arith, e) p

-- a loop that found none
pub found_none : {X Y : Type 0} (f : X → Y) (P : Y → Type 0) (xs ys : List X) → ys ≡ xs → All (λ x. P (f x) → ⊥) ys →
    (IsTrue false → (y : Y) × Contains (map f xs) y × P y) × ((y : Y) × Contains (map f xs) y × P y → IsTrue false)
found_none f P xs ys e a = (
  (λ t. let z : false ≡ true = t in absurd (true≢false (sym z))),
  (λ h. absurd (none_found f P xs (subst (All (λ x. P (f x) → ⊥)) e a) h.0 h.1 h.2)),
)

-- one more that was refuted
pub all_more : {X : Type 0} (P : X → Type 0) (xs : List X) (i : ℕ) (x : X) → i < length xs → x ≡ get_or xs i x → All P (take i xs) → P x → All P (take (i + 1) xs)
all_more P xs i x l e a p = All-more P xs i x l a (subst P e p)

pub is_absent : {X : Type 0} (r k : Option X) (b : Bool) → r ≡ k → is_some r ≡ not b → b ≡ true → k ≡ None
is_absent None k b e s t = sym e
is_absent (Some x) k b e s t = let z : true ≡ not true = s ∙ ap not t in cc

pub is_present : {X : Type 0} (r k : Option X) (b : Bool) → r ≡ k → is_some r ≡ not b → b ≡ false → k ≡ None → ⊥
is_present None k b e s t n = let z : false ≡ not false = s ∙ ap not t in cc
is_present (Some x) k b e s t n = let z : Some x ≡ None = e ∙ n in cc

pub mapped_length : {X Y : Type 0} (f : X → Y) (xs : List X) (ys : List Y) → map f xs ≡ ys → length ys ≡ length xs
mapped_length f xs ys m = ap length (sym m) ∙ length-map xs f

-- the expressions of bindings
pub bound_values : (pairs : List (List ℕ × Expr)) (bs : List Binding) → map binding_of pairs ≡ bs →
    map (λ p. expression_of p.1) pairs ≡ map (λ b. b.value) bs
bound_values pairs bs m = both pairs ∙ ap (map (λ b. b.value)) m
  where
    both : (pairs : List (List ℕ × Expr)) → map (λ p. expression_of p.1) pairs ≡ map (λ b. b.value) (map binding_of pairs)
    both [] = refl
    both (p ∷ ps) = ap (λ z. expression_of p.1 ∷ z) (both ps)
