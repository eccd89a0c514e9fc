-- Chains of marks, the latest cell first.
use Rattle.std.proofs.Common.{◌≡◌, ⊎_elim, ℕ, zero, suc, ◌-◌, ◌≤◌, Bool, true, false, List, [], ◌∷◌, ◌++◌, Option, Some, None, Bor, length, reverse, slice_get, option_map, refl, sym, ap, ◌∙◌, subst, arith, nat_eq}
use Rattle.std.specs.Prelude.{if◌then◌else◌}
use Rattle.std.specs.Iterator.{YieldsFirstBy, MakesProgress, item_count}
use Rattle.std.proofs.lemmas.List.{reverse-append, length-reverse, length_push}
use Rattle.std.proofs.lemmas.Bool.{cases_eq}
use Rattle.std.proofs.lemmas.Bool.Decides.{nat_tests}
use Rattle.std.proofs.lemmas.Option.{same_Some}
use Rattle.ig_gss.specs.declared.chains.Cell.{Cell}
use Rattle.ig_gss.specs.Chains.{chain, found, AreOnward}

same : (a b : ℕ) → a ≡ b → nat_eq a b ≡ true
same a b e = grind (arith, nat_tests)

other : (a b : ℕ) → (a ≡ b → ⊥) → nat_eq a b ≡ false
other a b e = grind (arith, nat_tests)

yes : {X : Type 0} (t : Bool) (x y : X) → t ≡ true → (if t then x else y) ≡ x
yes t x y e = ap (λ z. if z then x else y) e

no : {X : Type 0} (t : Bool) (x y : X) → t ≡ false → (if t then x else y) ≡ y
no t x y e = ap (λ z. if z then x else y) e

module _ {T : Type 0} where
  -- the first cell of a list stands last where the latest comes first
  found_first : (ys : List (Cell T)) (x : Cell T) → found (ys ++ x ∷ []) 1 ≡ Some x
  found_first [] x = refl
  found_first (y ∷ ys) x =
      no (nat_eq 1 (suc (length (ys ++ x ∷ [])))) _ _ (other 1 (suc (length (ys ++ x ∷ []))) (λ e. let l = length_push ys x in omega (arith, e, l))) ∙
      found_first ys x

  found_more : (ys : List (Cell T)) (x : Cell T) (k : ℕ) → found (ys ++ x ∷ []) (suc (suc k)) ≡ found ys (suc k)
  found_more [] x k = no (nat_eq (suc (suc k)) 1) _ _ (other (suc (suc k)) 1 (λ e. omega (arith, e)))
  found_more (y ∷ ys) x k =
      ⊎_elim
      (λ (e : k ≡ length ys).
      yes (nat_eq (suc (suc k)) (suc (length (ys ++ x ∷ [])))) _ _
      (same (suc (suc k)) (suc (length (ys ++ x ∷ []))) (let l = length_push ys x in omega (arith, e, l))) ∙
      sym (yes (nat_eq (suc k) (suc (length ys))) _ _ (same (suc k) (suc (length ys)) (ap suc e))))
      (λ (e : k ≡ length ys → ⊥).
      no (nat_eq (suc (suc k)) (suc (length (ys ++ x ∷ [])))) _ _
      (other (suc (suc k)) (suc (length (ys ++ x ∷ []))) (λ f. let l = length_push ys x in e (omega (arith, f, l)))) ∙
      found_more ys x k ∙ sym (no (nat_eq (suc k) (suc (length ys))) _ _ (other (suc k) (suc (length ys)) (λ f. e (omega (arith, f))))))
      (cases_eq k (length ys))

  -- the cell at a place + 1
  found_at : (xs : List (Cell T)) (k : ℕ) → found (reverse xs) (suc k) ≡ slice_get xs k
  found_at [] k = refl
  found_at (x ∷ xs) zero = ap (λ z. found z 1) (reverse-append (x ∷ []) xs) ∙ found_first (reverse xs) x
  found_at (x ∷ xs) (suc k) = ap (λ z. found z (suc (suc k))) (reverse-append (x ∷ []) xs) ∙ found_more (reverse xs) x k ∙ found_at xs k

  pub found_behind : (xs : List (Cell T)) (at : ℕ) → (at ≡ 0 → ⊥) → found (reverse xs) at ≡ slice_get xs (at - 1)
  found_behind xs zero some = absurd (some refl)
  found_behind xs (suc k) some = found_at xs k ∙ ap (λ z. slice_get xs z) (let e : k ≡ suc k - 1 = omega arith in e)

  none_at_0 : (cs : List (Cell T)) → found cs 0 ≡ None
  none_at_0 [] = refl
  none_at_0 (c ∷ cs) = no (nat_eq 0 (suc (length cs))) _ _ (other 0 (suc (length cs)) (λ e. omega (arith, e))) ∙ none_at_0 cs

  pub none_at : (cs : List (Cell T)) (at : ℕ) → at ≡ 0 → found cs at ≡ None
  none_at cs at e = ap (found cs) e ∙ none_at_0 cs

  -- the first mark of a chain is that of the cell where it begins
  pub first_mark : (cs : List (Cell T)) (at : ℕ) → option_map (λ c. c.mark) (found cs at) ≡ slice_get (chain cs at) 0
  first_mark [] at = refl
  first_mark (c ∷ cs) at = by (nat_eq at (suc (length cs))) (first_mark cs at)
    where
      by : (t : Bool) → option_map (λ (d : Cell T). d.mark) (found cs at) ≡ slice_get (chain cs at) 0 →
          option_map (λ (d : Cell T). d.mark) (if t then Some c else found cs at) ≡ slice_get (if t then c.mark ∷ chain cs c.earlier else chain cs at) 0
      by true rest = refl
      by false rest = rest

  pub first_of_none : (xs ys : List (Cell T)) (at : ℕ) (r : Option T) → xs ≡ ys → None ≡ found (reverse xs) at → r ≡ None →
      r ≡ slice_get (chain (reverse ys) at) 0
  first_of_none xs ys at r same is none =
      none ∙ ap (option_map (λ c. c.mark)) is ∙ first_mark (reverse xs) at ∙ ap (λ z. slice_get (chain (reverse z) at) 0) same

  pub first_of_some : (xs ys : List (Cell T)) (at : ℕ) (c : Cell T) → xs ≡ ys → Some c ≡ found (reverse xs) at →
      Some c.mark ≡ slice_get (chain (reverse ys) at) 0
  first_of_some xs ys at c same is =
      ap (option_map (λ c. c.mark)) is ∙ first_mark (reverse xs) at ∙ ap (λ z. slice_get (chain (reverse z) at) 0) same

  -- a chain that begins before a cell doesn't meet it
  skips : (c : Cell T) (cs : List (Cell T)) (at : ℕ) → at ≤ length cs → chain (c ∷ cs) at ≡ chain cs at
  skips c cs at le = no (nat_eq at (suc (length cs))) _ _ (other at (suc (length cs)) (λ e. omega (arith, e, le)))

  -- a chain that begins at the cell
  starts : (c : Cell T) (cs : List (Cell T)) (at : ℕ) → at ≡ suc (length cs) → chain (c ∷ cs) at ≡ c.mark ∷ chain cs c.earlier
  starts c cs at e = yes (nat_eq at (suc (length cs))) _ _ (same at (suc (length cs)) e)

  none_begins : (cs : List (Cell T)) (at : ℕ) → found cs at ≡ None → chain cs at ≡ []
  none_begins [] at e = refl
  none_begins (c ∷ cs) at e =
      ⊎_elim
      (λ (s : at ≡ suc (length cs)).
      let f : Some c ≡ None = sym (yes (nat_eq at (suc (length cs))) (Some c) (found cs at) (same at (suc (length cs)) s)) ∙ e in cc)
      (λ (o : at ≡ suc (length cs) → ⊥).
      let f : nat_eq at (suc (length cs)) ≡ false = other at (suc (length cs)) o in
      no (nat_eq at (suc (length cs))) _ _ f ∙ none_begins cs at (sym (no (nat_eq at (suc (length cs))) (Some c) (found cs at) f) ∙ e))
      (cases_eq at (suc (length cs)))

  -- no cell stands at the place + 1 of 0
  pub chain_0 : (cs : List (Cell T)) (at : ℕ) → at ≡ 0 → chain cs at ≡ []
  chain_0 cs at e = none_begins cs at (none_at cs at e)

  -- what a cell that is found makes of the chain that begins there
  abbrev Goes : List (Cell T) → ℕ → Cell T → Type 0
  Goes cs at p = (p.earlier ≤ length cs) × (chain cs at ≡ p.mark ∷ chain cs p.earlier)

  begins : (cs : List (Cell T)) (at : ℕ) (p : Cell T) → AreOnward cs → found cs at ≡ Some p → Goes cs at p
  begins [] at p onward e = cc
  begins (c ∷ cs) at p onward e =
      ⊎_elim
      (λ (s : at ≡ suc (length cs)).
      let f : Some c ≡ Some p = sym (yes (nat_eq at (suc (length cs))) (Some c) (found cs at) (same at (suc (length cs)) s)) ∙ e in
      subst (Goes (c ∷ cs) at) (same_Some c p f)
      ((let o = onward.0 in omega (arith, o)), starts c cs at s ∙ ap (λ z. c.mark ∷ z) (sym (skips c cs c.earlier onward.0))))
      (λ (o : at ≡ suc (length cs) → ⊥).
      let f : nat_eq at (suc (length cs)) ≡ false = other at (suc (length cs)) o in
      let b = begins cs at p onward.1 (sym (no (nat_eq at (suc (length cs))) (Some c) (found cs at) f) ∙ e) in
      ((let l = b.0 in omega (arith, l)), no (nat_eq at (suc (length cs))) _ _ f ∙ b.1 ∙ ap (λ z. p.mark ∷ z) (sym (skips c cs p.earlier b.0))))
      (cases_eq at (suc (length cs)))

  -- the place + 1 that a cell names is there
  pub earlier_in : (xs : List (Cell T)) (at : ℕ) (c : Cell T) → AreOnward (reverse xs) → Some c ≡ found (reverse xs) at → c.earlier ≤ length xs
  earlier_in xs at c onward is = let b = begins (reverse xs) at c onward (sym is) in let l = length-reverse xs in omega (arith, b.0, l)

  -- the chain that begins at a cell that was added, and each that was there
  pub new_chain : (xs : List (Cell T)) (c : Cell T) (at : ℕ) → at ≡ suc (length xs) →
      chain (reverse (xs ++ c ∷ [])) at ≡ c.mark ∷ chain (reverse xs) c.earlier
  new_chain xs c at e =
      ap (λ z. chain z at) (reverse-append xs (c ∷ [])) ∙ starts c (reverse xs) at (e ∙ ap suc (sym (length-reverse xs)))

  pub old_chain : (xs : List (Cell T)) (c : Cell T) (at : ℕ) → at ≤ length xs →
      chain (reverse (xs ++ c ∷ [])) at ≡ chain (reverse xs) at
  old_chain xs c at le =
      ap (λ z. chain z at) (reverse-append xs (c ∷ [])) ∙ skips c (reverse xs) at (let l = length-reverse xs in omega (arith, l, le))

  -- a cell that is added names one that came before it
  pub onward_more : (xs more : List (Cell T)) (c : Cell T) → AreOnward (reverse xs) → c.earlier ≤ length xs → more ≡ xs ++ c ∷ [] → AreOnward (reverse more)
  onward_more xs more c onward le is =
      subst (λ z. AreOnward (reverse z)) (sym is)
      (subst AreOnward (sym (reverse-append xs (c ∷ []))) ((let l = length-reverse xs in omega (arith, l, le)), onward))

  -- `next` at the end of a chain, and before it
  pub ended : (cs : List (Cell T)) (at : ℕ) (now : List T) (r : Option (Bor T)) → chain cs at ≡ now → None ≡ found cs at → r ≡ None →
      YieldsFirstBy (λ mark. mark.now) (λ rest. rest) now r now
  ended cs at now r view is none =
      let e : now ≡ [] = sym view ∙ none_begins cs at (sym is) in
      subst (λ (o : Option (Bor T)). YieldsFirstBy (λ mark. mark.now) (λ rest. rest) now o now) (sym none) (e, e)

  pub steps : (cs : List (Cell T)) (at : ℕ) (c : Cell T) (now : List T) → AreOnward cs → chain cs at ≡ now → Some c ≡ found cs at →
      now ≡ c.mark ∷ chain cs c.earlier
  steps cs at c now onward view is = sym view ∙ (begins cs at c onward (sym is)).1

  pub goes : {A : Type 0} (x : A) (v : T) (old new : List T) → old ≡ v ∷ new →
      MakesProgress (λ _. Unit {0}) (item_count (λ rest. rest)) old (Some x) new
  goes x v old new e = record { on = λ _. (tt, tt, omega (arith, ap length e)); keeps = tt; rests = λ _. tt }
