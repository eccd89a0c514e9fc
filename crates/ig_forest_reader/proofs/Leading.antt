-- What stands at the front of some bytes.
use Rattle.std.proofs.Common.{◌≡◌, inl, inr, ℕ, suc, ◌+◌, ◌++◌, List, [], ◌∷◌, Bool, true, false, nat_lt, nat_eq, MatchBool, Option, Some, None, MatchOption, refl, sym, ap, ap₂, ◌∙◌, subst, length, take, drop, cond, arith}
use Rattle.std.specs.List.{prefix_len}
use Rattle.std.proofs.lemmas.Bool.Decides.{eqb_tells}
use Rattle.std.proofs.Math.Seq.{take-append_seam, drop-append_seam}
use Rattle.std.proofs.lemmas.List.{take-append-drop}
use Rattle.ig_forest_reader.specs.Runs.{Each, more, Stops, at, IsPlain, IsInner, is_inner}

one_more : (n : ℕ) → 1 + n ≡ suc n
one_more n = omega arith

-- how far a run goes
pub run_length : (p : ℕ → Bool) (P : ℕ → Type 0) → ((c : ℕ) → P c → p c ≡ true) → ((c : ℕ) → (P c → ⊥) → p c ≡ false) →
    (xs us : List ℕ) → Each P xs → Stops P us → prefix_len p (xs ++ us) ≡ length xs
run_length p P passes fails [] [] a s = refl
run_length p P passes fails [] (u ∷ us) a (at _ _ not) = ap (λ (b : Bool). cond b (1 + prefix_len p us) 0) (fails u not)
run_length p P passes fails (x ∷ xs) us (more _ _ q a) s =
    let rest = run_length p P passes fails xs us a s in
    ap (λ (b : Bool). cond b (1 + prefix_len p (xs ++ us)) 0) (passes x q) ∙ ap (λ (n : ℕ). 1 + n) rest ∙ one_more (length xs)

-- a cut after the run
pub cut_there : (bytes xs us front back : List ℕ) (n : ℕ) → front ≡ take n bytes → back ≡ drop n bytes → n ≡ length xs →
    bytes ≡ xs ++ us → (front ≡ xs) × (back ≡ us)
cut_there bytes xs us front back n a b e is = (
  a ∙ ap₂ (λ (m : ℕ) (z : List ℕ). take m z) e is ∙ take-append_seam xs us,
  b ∙ ap₂ (λ (m : ℕ) (z : List ℕ). drop m z) e is ∙ drop-append_seam xs us,
)

-- a cut anywhere
pub cut_whole : (bytes front back : List ℕ) (n : ℕ) → front ≡ take n bytes → back ≡ drop n bytes → bytes ≡ front ++ back
cut_whole bytes front back n a b = sym (take-append-drop n bytes) ∙ ap₂ (λ (y z : List ℕ). y ++ z) (sym a) (sym b)

-- what was read, and that it was
pub none_read : {A : Type 0} (P : A → Type 0) (r : Option A) → MatchOption r ⊥ P → r ≡ None → ⊥
none_read P r m e = subst (λ (o : Option _). MatchOption o ⊥ P) e m

pub some_read : {A : Type 0} (P : A → Type 0) (r : Option A) (x : A) → MatchOption r ⊥ P → r ≡ Some x → P x
some_read P r x m e = subst (λ (o : Option _). MatchOption o ⊥ P) e m

-- bytes that are no blanks and no control characters
plain_passes : (c : ℕ) → IsPlain c → nat_lt 32 c ≡ true
plain_passes c low = grind arith

other_stops : (c : ℕ) → (IsPlain c → ⊥) → nat_lt 32 c ≡ false
other_stops c not = grind arith

pub plain_length : (xs us : List ℕ) → Each IsPlain xs → Stops IsPlain us → prefix_len (λ c. nat_lt 32 c) (xs ++ us) ≡ length xs
plain_length = run_length (λ c. nat_lt 32 c) IsPlain plain_passes other_stops

inner_passes : (c : ℕ) → IsInner c → is_inner c ≡ true
inner_passes c (low, other) = grind arith

other_ends : (c : ℕ) → (IsInner c → ⊥) → is_inner c ≡ false
other_ends c not = grind arith

pub inner_length : (xs us : List ℕ) → Each IsInner xs → Stops IsInner us → prefix_len is_inner (xs ++ us) ≡ length xs
inner_length = run_length is_inner IsInner inner_passes other_ends

pub some_is : {A : Type 0} (P : A → Type 0) (r : Option A) (x : A) → MatchOption r (Unit {0}) P → r ≡ Some x → P x
some_is P r x m e = subst (λ (o : Option _). MatchOption o (Unit {0}) P) e m

-- what a test of a byte says
pub same_byte : (c d : ℕ) → MatchBool (nat_eq c d) (c ≡ d) (c ≡ d → ⊥)
same_byte c d =
    elim (eqb_tells c d) [
      | inl (is, e) ↦ subst (λ (b : Bool). MatchBool b (c ≡ d) (c ≡ d → ⊥)) (sym is) e
      | inr (is, differs) ↦ subst (λ (b : Bool). MatchBool b (c ≡ d) (c ≡ d → ⊥)) (sym is) differs
    ]

pub other_byte : (c d : ℕ) → MatchBool (nat_eq c d) ((c ≡ d → ⊥) → ⊥) (c ≡ d → ⊥)
other_byte c d =
    elim (eqb_tells c d) [
      | inl (is, e) ↦ subst (λ (b : Bool). MatchBool b ((c ≡ d → ⊥) → ⊥) (c ≡ d → ⊥)) (sym is) (λ h. h e)
      | inr (is, differs) ↦ subst (λ (b : Bool). MatchBool b ((c ≡ d → ⊥) → ⊥) (c ≡ d → ⊥)) (sym is) differs
    ]
