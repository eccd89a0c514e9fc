-- The lines that are left to be read.
use Rattle.std.proofs.Common.{◌≡◌, Bool, true, false, MatchBool, slice_index_or, ℕ, ◌+◌, ◌<◌, ◌≤◌, ◌++◌, List, [], ◌∷◌, Option, Some, None, Bor, MatchOption, refl, sym, ap, ◌∙◌, subst, length, arith}
use Rattle.std.specs.Prelude.{flat_map}
use Rattle.std.specs.List.{AllByRecursion}
use Rattle.std.proofs.lemmas.List.{append_assoc, append-nil, length-append}
use Rattle.ig_forest_reader.specs.Runs.{Stops, at_end, at}
use Rattle.ig_forest_reader.specs.Shown.{Added}
use Rattle.ig_forest_reader.proofs.Leading.{none_read, some_read}
use Rattle.ig_forest_reader.proofs.Spelled.{one_more_text}
use Rattle.ig_forest_reader.proofs.TellingLines.{Begins, not_begun}

module _ {A : Type 0} (In : A → Type 0) (shown : A → List ℕ) where
  pub record Left (us rest : List ℕ) (out whole : List A) (n many : ℕ) : Type 0 where
    pub ys : List A
    pub small : AllByRecursion In ys
    pub here : rest ≡ flat_map shown ys ++ us
    pub sum : out ++ ys ≡ whole
    pub few : length ys + n ≤ many

  at_last : (us rest : List ℕ) (out whole ys : List A) (many : ℕ) → rest ≡ flat_map shown ys ++ us → out ++ ys ≡ whole →
      length ys + many ≤ many → (rest ≡ us) × (out ≡ whole)
  at_last us rest out whole [] many e sum few = (e, sym (append-nil out) ∙ sum)
  at_last us rest out whole (y ∷ ys) many e sum few = absurd (omega (arith, few))

  pub full_left : (us rest : List ℕ) (out whole : List A) (many : ℕ) → Left us rest out whole many many →
      (rest ≡ us) × (out ≡ whole)
  full_left us rest out whole many l = at_last us rest out whole l.ys many l.here l.sum l.few

  -- what reading a line promises
  abbrev pub ReadsLine : List ℕ → Option (A × Bor (List ℕ)) → Type 0
  ReadsLine rest r =
      (x : A) (us : List ℕ) → In x → rest ≡ shown x ++ us → MatchOption r ⊥ (λ p. (p.0 ≡ x) × (p.1.now ≡ us))

module _ {A : Type 0} (P : ℕ → Type 0) (In : A → Type 0) (shown : A → List ℕ) (begins : (x : A) → Begins P (shown x)) where
  line_long : (x : A) → 0 < length (shown x)
  line_long x = let long = ap length (begins x).is in omega (arith, long)

  lines_long : (xs : List A) (us : List ℕ) → length xs ≤ length (flat_map shown xs ++ us)
  lines_long [] us = omega arith
  lines_long (x ∷ xs) us =
      let rest = lines_long xs us in
      let first = line_long x in
      let e : length (flat_map shown (x ∷ xs) ++ us) ≡ length (shown x) + length (flat_map shown xs ++ us) =
      ap length (append_assoc (shown x) (flat_map shown xs) us) ∙ length-append (shown x) (flat_map shown xs ++ us) in
      omega (arith, rest, first, e)

  pub start_left : (xs : List A) (us bytes : List ℕ) (out : List A) → AllByRecursion In xs →
      bytes ≡ flat_map shown xs ++ us → Left In shown us bytes out (out ++ xs) 0 (length bytes)
  start_left xs us bytes out small e =
      let long = lines_long xs us in
      let same = ap length e in
      record { ys = xs; small = small; here = e; sum = refl; few = omega (arith, long, same) }

  goes : (x : A) (us : List ℕ) → Stops P (shown x ++ us) → ⊥
  goes x us s = not_begun P (shown x ++ us) (shown x) us s (begins x) refl

  at_rest : (us rest : List ℕ) (out whole ys : List A) → rest ≡ flat_map shown ys ++ us → out ++ ys ≡ whole →
      Stops P rest → (rest ≡ us) × (out ≡ whole)
  at_rest us rest out whole [] e sum s = (e, sym (append-nil out) ∙ sum)
  at_rest us rest out whole (y ∷ ys) e sum s =
      absurd (goes y (flat_map shown ys ++ us)
      (subst (Stops P) (e ∙ append_assoc (shown y) (flat_map shown ys) us) s))

  pub end_left : (us rest : List ℕ) (out whole : List A) (n many : ℕ) → Left In shown us rest out whole n many →
      Stops P rest → (rest ≡ us) × (out ≡ whole)
  end_left us rest out whole n many l s = at_rest us rest out whole l.ys l.here l.sum s

  stepped : (us rest : List ℕ) (out whole ys : List A) (n many : ℕ) (r : Option (A × Bor (List ℕ))) (line : A)
      (behind : Bor (List ℕ)) → AllByRecursion In ys → rest ≡ flat_map shown ys ++ us → out ++ ys ≡ whole →
      length ys + n ≤ many → Stops P us → (Stops P rest → ⊥) → ReadsLine In shown rest r → r ≡ Some (line, behind) →
      Left In shown us behind.now (out ++ line ∷ []) whole (n + 1) many
  stepped us rest out whole [] n many r line behind small e sum few s goes_on reads is =
      absurd (goes_on (subst (Stops P) (sym e) s))
  stepped us rest out whole (y ∷ ys) n many r line behind small e sum few s goes_on reads is =
      let read = some_read (λ p. (p.0 ≡ y) × (p.1.now ≡ flat_map shown ys ++ us)) r (line, behind)
      (reads y (flat_map shown ys ++ us) small.0 (e ∙ append_assoc (shown y) (flat_map shown ys) us)) is in
      record {
        ys = ys;
        small = small.1;
        here = read.1;
        sum = append_assoc out (line ∷ []) ys ∙ ap (λ (z : A). out ++ (z ∷ ys)) read.0 ∙ sum;
        few = omega (arith, few);
      }

  pub step_left : (us rest : List ℕ) (out whole : List A) (n many : ℕ) (r : Option (A × Bor (List ℕ))) (line : A)
      (behind : Bor (List ℕ)) → Left In shown us rest out whole n many → Stops P us → (Stops P rest → ⊥) →
      ReadsLine In shown rest r → r ≡ Some (line, behind) →
      Left In shown us behind.now (out ++ line ∷ []) whole (n + 1) many
  step_left us rest out whole n many r line behind l s goes_on reads is =
      stepped us rest out whole l.ys n many r line behind l.small l.here l.sum l.few s goes_on reads is

  lacks : (us rest : List ℕ) (ys : List A) (r : Option (A × Bor (List ℕ))) → AllByRecursion In ys →
      rest ≡ flat_map shown ys ++ us → Stops P us → (Stops P rest → ⊥) → ReadsLine In shown rest r → r ≡ None → ⊥
  lacks us rest [] r small e s goes_on reads is = goes_on (subst (Stops P) (sym e) s)
  lacks us rest (y ∷ ys) r small e s goes_on reads is =
      none_read (λ p. (p.0 ≡ y) × (p.1.now ≡ flat_map shown ys ++ us)) r
      (reads y (flat_map shown ys ++ us) small.0 (e ∙ append_assoc (shown y) (flat_map shown ys) us)) is

  pub none_left : (us rest : List ℕ) (out whole : List A) (n many : ℕ) (r : Option (A × Bor (List ℕ))) →
      Left In shown us rest out whole n many → Stops P us → (Stops P rest → ⊥) → ReadsLine In shown rest r → r ≡ None → ⊥
  none_left us rest out whole n many r l s goes_on reads is = lacks us rest l.ys r l.small l.here s goes_on reads is

-- where the lines of entries end, and those of alternatives
other_stops : (P : ℕ → Type 0) (c : ℕ) (cs : List ℕ) → P c → Stops P (c ∷ cs) → ⊥
other_stops P c cs has (at _ _ not) = not has

pub empty_stops : (P : ℕ → Type 0) (bytes : List ℕ) → length bytes < 1 → Stops P bytes
empty_stops P [] lt = at_end
empty_stops P (c ∷ cs) lt = absurd (omega (arith, lt))

pub front_tells : (P : ℕ → Type 0) (bytes : List ℕ) (b : Bool) → 1 ≤ length bytes →
    MatchBool b (P (slice_index_or bytes 0 0) → ⊥) (P (slice_index_or bytes 0 0)) →
    MatchBool b (Stops P bytes) (Stops P bytes → ⊥)
front_tells P [] b lt m = absurd (omega (arith, lt))
front_tells P (c ∷ cs) true lt m = at c cs m
front_tells P (c ∷ cs) false lt m = other_stops P c cs m

pub front_told : (P : ℕ → Type 0) (bytes : List ℕ) (b : Bool) → 1 ≤ length bytes →
    MatchBool b (P (slice_index_or bytes 0 0)) (P (slice_index_or bytes 0 0) → ⊥) →
    MatchBool b (Stops P bytes → ⊥) (Stops P bytes)
front_told P [] b lt m = absurd (omega (arith, lt))
front_told P (c ∷ cs) true lt m = other_stops P c cs m
front_told P (c ∷ cs) false lt m = at c cs m

pub told_true : (P Q : Type 0) (b : Bool) → MatchBool b P Q → b ≡ true → P
told_true P Q b m e = subst (λ (z : Bool). MatchBool z P Q) e m

pub told_false : (P Q : Type 0) (b : Bool) → MatchBool b P Q → b ≡ false → Q
told_false P Q b m e = subst (λ (z : Bool). MatchBool z P Q) e m

-- adding one by one
pub joined_parts : {A : Type 0} (P : A → Type 0) (xs ys : List A) → AllByRecursion P xs → AllByRecursion P ys → AllByRecursion P (xs ++ ys)
joined_parts P [] ys a b = b
joined_parts P (x ∷ xs) ys a b = (a.0, joined_parts P xs ys a.1 b)

pub none_added : {A : Type 0} (P : A → Type 0) (shown : A → List ℕ) (bytes : List ℕ) (old : List A) →
    Added P (flat_map shown) bytes bytes old old
none_added P shown bytes old = record { members = []; have = tt; is = sym (append-nil old); spelled = refl }

pub one_added : {A : Type 0} (P : A → Type 0) (shown : A → List ℕ) (bytes rest behind : List ℕ) (old out new : List A) (x : A) →
    Added P (flat_map shown) bytes rest old out → P x → rest ≡ shown x ++ behind → new ≡ out ++ x ∷ [] →
    Added P (flat_map shown) bytes behind old new
one_added P shown bytes rest behind old out new x a p e is =
    record {
      members = a.members ++ x ∷ [];
      have = joined_parts P a.members (x ∷ []) a.have (p, tt);
      is = is ∙ ap (λ (z : List _). z ++ x ∷ []) a.is ∙ append_assoc old a.members (x ∷ []);
      spelled = one_more_text shown bytes rest behind a.members x a.spelled e;
    }
