-- Lists that are read part by part, with a token between two parts. A clause ranges over no properties of tokens, so these
-- facts stand here with their proofs, and not as laws; nothing of this file has to be believed.
use Rattle.std.proofs.Common.{◌≡◌, ℕ, ◌+◌, ◌≤◌, ◌<◌, List, [], ◌∷◌, ◌++◌, length, drop, refl, sym, ap, ◌∙◌, subst, true, arith, append_assoc}
use Rattle.std.specs.Prelude.{Some}
use Rattle.std.proofs.lemmas.List.{append-nil}
use Rattle.ig_notation_syntax.specs.Token.{Token}
use Rattle.ig_notation_syntax.specs.Machine.{Want, may_lack, after}
use Rattle.ig_notation_syntax.specs.Reading.{Goes}
use Rattle.ig_notation_terms.specs.Readers.{Stands, Misses, Runs, Front}
use Rattle.ig_notation_terms.specs.Steps.{taken, passed, in_row, joined, runs_of}

-- no part so far
pub none_yet : {V : Type 0} (R : List Token → List Token → List V → Type 0) (a : List Want) (T : List Token) (i : ℕ) (xs : List V) → i ≤ length T → xs ≡ [] →
    Goes (List V) (Front R) a a T i i xs
none_yet {V} R a T i xs l e =
    subst (λ z. Goes (List V) (Front R) a a T i i z) (sym e)
    (record { reading = λ end more h. h; within = l; onward = omega arith; runs = λ behind. refl })

pub snoc : {V : Type 0} (xs ys more : List V) (x : V) → ys ≡ xs ++ x ∷ [] → xs ++ x ∷ more ≡ ys ++ more
snoc xs ys more x e = sym (append_assoc xs (x ∷ []) more) ∙ ap (λ z. z ++ more) (sym e)

-- one part more, with the token behind it
pub one_more : {V : Type 0} (P : List Token → List Token → V → Type 0) (R : List Token → List Token → List V → Type 0) (a : List Want) (w : Want) (t : Token)
    (T : List Token) (i j k : ℕ) (xs ys : List V) (x : V) → after w t ≡ Some (a ++ w ∷ []) →
    ((s m r : List Token) (z : V) (zs : List V) → P s (t ∷ m) z → R m r zs → R s r (z ∷ zs)) →
    Goes (List V) (Front R) (a ++ w ∷ []) (a ++ w ∷ []) T i j xs → Goes V P a [] T j k x → Stands T k t → ys ≡ xs ++ x ∷ [] →
    Goes (List V) (Front R) (a ++ w ∷ []) (a ++ w ∷ []) T i (k + 1) ys
one_more P R a w t T i j k xs ys x row further g h c e =
    let l : i ≤ j = g.onward in
    let m : j ≤ k = h.onward in
    let n : k < length T = c.within in
    record {
      reading = λ end more r. subst (R (drop i T) end) (snoc xs ys more x e)
          (g.reading end (x ∷ more) (further (drop j T) (drop (k + 1) T) end x more (subst (λ z. P (drop j T) z x) c.there h.reading) r));
      within = omega arith;
      onward = omega arith;
      runs = (joined (a ++ w ∷ []) (a ++ w ∷ []) (a ++ w ∷ []) T i j (k + 1) (runs_of (Front R) (a ++ w ∷ []) (a ++ w ∷ []) T i j xs g)
          (in_row a (w ∷ []) (a ++ w ∷ []) T j k (k + 1) (runs_of P a [] T j k x h) (taken w (a ++ w ∷ []) t T k c row))).go_on;
    }

-- the last part
pub the_last : {V : Type 0} (P : List Token → List Token → V → Type 0) (R : List Token → List Token → List V → Type 0) (a : List Want) (w : Want)
    (T : List Token) (i j k : ℕ) (xs ys : List V) (x : V) → may_lack w ≡ true →
    ((s r : List Token) (z : V) → P s r z → R s r (z ∷ [])) →
    Goes (List V) (Front R) (a ++ w ∷ []) (a ++ w ∷ []) T i j xs → Goes V P a [] T j k x → Misses w T k → ys ≡ xs ++ x ∷ [] →
    Goes (List V) R (a ++ w ∷ []) [] T i k ys
the_last P R a w T i j k xs ys x f last g h c e =
    let l : i ≤ j = g.onward in
    let m : j ≤ k = h.onward in
    record {
      reading = subst (R (drop i T) (drop k T)) (sym e) (g.reading (drop k T) (x ∷ []) (last (drop j T) (drop k T) x h.reading));
      within = h.within;
      onward = omega arith;
      runs = (joined (a ++ w ∷ []) (a ++ w ∷ []) [] T i j k (runs_of (Front R) (a ++ w ∷ []) (a ++ w ∷ []) T i j xs g)
          (in_row a (w ∷ []) [] T j k k (runs_of P a [] T j k x h) (passed w T k f c))).go_on;
    }

-- a list that may end anywhere
pub finish : {V : Type 0} (R : List Token → List Token → List V → Type 0) (a : List Want) (T : List Token) (i j : ℕ) (xs ys : List V) →
    ((r : List Token) → R r r []) → Goes (List V) (Front R) a a T i j xs → Runs a [] T j j → ys ≡ xs → Goes (List V) R a [] T i j ys
finish R a T i j xs ys none g r e = record {
  reading = subst (R (drop i T) (drop j T)) (append-nil xs ∙ sym e) (g.reading (drop j T) [] (none (drop j T)));
  within = g.within;
  onward = g.onward;
  runs = (joined a a [] T i j j (runs_of (Front R) a a T i j xs g) r).go_on;
}
