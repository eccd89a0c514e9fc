-- The longest front of a kind of characters, and what stands behind it.
use Rattle.std.proofs.Common.{◌≡◌, ℕ, suc, ◌<◌, ◌≤◌, List, [], ◌∷◌, ◌++◌, Bool, true, false, cond, not, ◌==◌, length, refl, ap, arith}
use Rattle.std.proofs.lemmas.Bool.{and_parts, or_parts, not-true}
use Rattle.std.proofs.lemmas.Bool.Decides.{nat_tests}
use Rattle.std.specs.List.{list_all}
use Rattle.ig_notation_syntax.specs.Spelling.{begins, is_one_of, EndsLine}
use Rattle.ig_notation_syntax.specs.Scanner.{run, past}

pub all_run : (p : ℕ → Bool) (cs : List ℕ) → list_all p (run p cs) ≡ true
all_run p [] = refl
all_run p (c ∷ cs) =
    (elim (p c) as (λ v. p c ≡ v → list_all p (cond v (c ∷ run p cs) []) ≡ true) [
      | true ↦ λ e. rw e (all_run p cs)
      | false ↦ λ e. refl
    ])
    refl

pub past_begins : (p : ℕ → Bool) (cs : List ℕ) → begins p (past p cs) ≡ false
past_begins p [] = refl
past_begins p (c ∷ cs) =
    (elim (p c) as (λ v. p c ≡ v → begins p (cond v (past p cs) (c ∷ cs)) ≡ false) [
      | true ↦ λ e. past_begins p cs
      | false ↦ λ e. e
    ])
    refl

pub run_front : (p : ℕ → Bool) (a b : List ℕ) → list_all p a ≡ true → run p (a ++ b) ≡ a ++ run p b
run_front p [] b h = refl
run_front p (c ∷ cs) b h =
    let k = and_parts (p c) (list_all p cs) h in rw k.0 (ap (λ (z : List ℕ). c ∷ z) (run_front p cs b k.1))

pub past_front : (p : ℕ → Bool) (a b : List ℕ) → list_all p a ≡ true → past p (a ++ b) ≡ past p b
past_front p [] b h = refl
past_front p (c ∷ cs) b h = let k = and_parts (p c) (list_all p cs) h in rw k.0 (past_front p cs b k.1)

pub run_none : (p : ℕ → Bool) (cs : List ℕ) → begins p cs ≡ false → run p cs ≡ []
run_none p [] h = refl
run_none p (c ∷ cs) h = rw h refl

pub past_none : (p : ℕ → Bool) (cs : List ℕ) → begins p cs ≡ false → past p cs ≡ cs
past_none p [] h = refl
past_none p (c ∷ cs) h = rw h refl

pub past_within : (p : ℕ → Bool) (cs : List ℕ) → length (past p cs) ≤ length cs
past_within p [] = omega arith
past_within p (c ∷ cs) =
    elim (p c) as (λ v. length (cond v (past p cs) (c ∷ cs)) ≤ suc (length cs)) [
      | true ↦ omega (arith, past_within p cs)
      | false ↦ omega arith
    ]

pub past_shorter : (p : ℕ → Bool) (cs : List ℕ) → begins p cs ≡ true → length (past p cs) < length cs
past_shorter p [] h = cc
past_shorter p (c ∷ cs) h = rw h (omega (arith, past_within p cs))

-- a line
pub line_all : (line : List ℕ) → is_one_of line 10 ≡ false → list_all (λ d. not (d == 10)) line ≡ true
line_all [] h = refl
line_all (c ∷ cs) h = let k = or_parts (c == 10) (is_one_of cs 10) h in rw k.0 (line_all cs k.1)

pub line_ends : (rest : List ℕ) → EndsLine rest → begins (λ d. not (d == 10)) rest ≡ false
line_ends [] h = refl
line_ends (c ∷ cs) h = let e : (c == 10) ≡ true = grind (arith, nat_tests) in rw e refl

pub all_line : (line : List ℕ) → list_all (λ d. not (d == 10)) line ≡ true → is_one_of line 10 ≡ false
all_line [] h = refl
all_line (c ∷ cs) h =
    let k = and_parts (not (c == 10)) (list_all (λ d. not (d == 10)) cs) h in
    let n : (c == 10) ≡ false = not-true (c == 10) k.0 in rw n (all_line cs k.1)

pub ends_line : (rest : List ℕ) → begins (λ d. not (d == 10)) rest ≡ false → EndsLine rest
ends_line [] h = tt
ends_line (c ∷ cs) h = go (c == 10) refl h
  where
    go : (b : Bool) → (c == 10) ≡ b → not b ≡ false → c ≡ 10
    go true e k = grind (arith, nat_tests)
    go false e k = absurd (cc)
