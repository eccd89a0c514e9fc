-- A printed set stands where it is printed.
use Rattle.std.proofs.Common.{◌≡◌, ◌≢◌, ◌∙◌, ap, sym, subst, ℕ, suc, ◌+◌, ◌<◌, ◌≤◌, List, [], ◌∷◌, ◌++◌, Bool, true, false, ◌==◌, ◌&&◌, if◌then◌else◌, Some, refl, drop, arith, append_assoc}
use Rattle.std.specs.Prelude.{All, flat_map, min, max, nat_lt}
use Rattle.std.proofs.lemmas.Bool.Decides.{nat_tests}
use Rattle.std.proofs.lemmas.List.Elements.{All-nil, All-cons, All-head, All-tail}
use Rattle.ig_text.specs.Ranges.{normal_form, with_range, NoneFalls, IsNormalFrom, NormalFormIsNormal, NormalRangesStay}
use Rattle.ig_text.specs.declared.class.Class.{Class}
use Rattle.ig_text.specs.declared.class.Class.TheVariants.{Ranges}
use Rattle.ig_notation_syntax.specs.Spelling.{begins}
use Rattle.ig_w3c_syntax.specs.Token.{OneOf}
use Rattle.ig_w3c_syntax.specs.TokenForms.{HasCharacters, IsSet}
use Rattle.ig_w3c_syntax.specs.Spelling.{StandsFirst, set, other_set, IsPart, alone, range, AreParts, no_part, next_part, element, joins, is_hexadecimal, is_character}
use Rattle.ig_w3c_syntax.specs.TokenLaws.{FrontsAreRuns}
use Rattle.ig_w3c.specs.Text.{code_text, range_text, negation, set_text}
use Rattle.ig_w3c.proofs.Digits.{element_stands}

-- the ends of a normal form are characters
least_is : (a b : ℕ) → is_character a ≡ true → is_character b ≡ true → is_character (min a b) ≡ true
least_is a b h k = chosen (nat_lt a b) refl
  where
    chosen : (c : Bool) → nat_lt a b ≡ c → is_character (min a b) ≡ true
    chosen true e = let m : min a b ≡ a = grind (arith, nat_tests) in subst (λ z. is_character z ≡ true) (sym m) h
    chosen false e = let m : min a b ≡ b = grind (arith, nat_tests) in subst (λ z. is_character z ≡ true) (sym m) k

greatest_is : (a b : ℕ) → is_character a ≡ true → is_character b ≡ true → is_character (max a b) ≡ true
greatest_is a b h k = chosen (nat_lt a b) refl
  where
    chosen : (c : Bool) → nat_lt a b ≡ c → is_character (max a b) ≡ true
    chosen true e = let m : max a b ≡ b = grind (arith, nat_tests) in subst (λ z. is_character z ≡ true) (sym m) k
    chosen false e = let m : max a b ≡ a = grind (arith, nat_tests) in subst (λ z. is_character z ≡ true) (sym m) h

wider : (r s : ℕ × ℕ) → HasCharacters r → HasCharacters s → HasCharacters (min r.0 s.0, max r.1 s.1)
wider r s h k = (least_is r.0 s.0 h.0 k.0, greatest_is r.1 s.1 h.1 k.1)

joined_by : (b c : Bool) (r s : ℕ × ℕ) (rest : List (ℕ × ℕ)) → HasCharacters r → HasCharacters s → All HasCharacters rest →
    ((q : ℕ × ℕ) → HasCharacters q → All HasCharacters (with_range q rest)) →
    All HasCharacters (if b then r ∷ s ∷ rest else (if c then s ∷ with_range r rest else with_range (min r.0 s.0, max r.1 s.1) rest))
joined_by true c r s rest h k all ih = All-cons HasCharacters r (s ∷ rest) h (All-cons HasCharacters s rest k all)
joined_by false true r s rest h k all ih = All-cons HasCharacters s (with_range r rest) k (ih r h)
joined_by false false r s rest h k all ih = ih (min r.0 s.0, max r.1 s.1) (wider r s h k)

with_characters : (xs : List (ℕ × ℕ)) → All HasCharacters xs → (r : ℕ × ℕ) → HasCharacters r → All HasCharacters (with_range r xs)
with_characters [] all r h = All-cons HasCharacters r [] h (All-nil HasCharacters)
with_characters (s ∷ rest) all r h =
    joined_by (nat_lt (r.1 + 1) s.0) (nat_lt (s.1 + 1) r.0) r s rest h (All-head HasCharacters s rest all) (All-tail HasCharacters s rest all)
    (with_characters rest (All-tail HasCharacters s rest all))

form_characters : (pairs : List (ℕ × ℕ)) → All HasCharacters pairs → All HasCharacters (normal_form pairs)
form_characters [] all = All-nil HasCharacters
form_characters (r ∷ pairs) all =
    with_characters (normal_form pairs) (form_characters pairs (All-tail HasCharacters r pairs all)) r (All-head HasCharacters r pairs all)

-- it isn't empty, and no range of it falls
some_by : (b c : Bool) (r s : ℕ × ℕ) (rest : List (ℕ × ℕ)) → ((q : ℕ × ℕ) → with_range q rest ≢ []) →
    (if b then r ∷ s ∷ rest else (if c then s ∷ with_range r rest else with_range (min r.0 s.0, max r.1 s.1) rest)) ≢ []
some_by true c r s rest ih = λ e. cc
some_by false true r s rest ih = λ e. cc
some_by false false r s rest ih = ih (min r.0 s.0, max r.1 s.1)

with_some : (xs : List (ℕ × ℕ)) (r : ℕ × ℕ) → with_range r xs ≢ []
with_some [] r = λ e. cc
with_some (s ∷ rest) r = some_by (nat_lt (r.1 + 1) s.0) (nat_lt (s.1 + 1) r.0) r s rest (with_some rest)

normal_rises : (low : ℕ) (ranges : List (ℕ × ℕ)) → IsNormalFrom low ranges → NoneFalls ranges
normal_rises low [] n = All-nil (λ r. r.0 ≤ r.1)
normal_rises low (r ∷ rest) n = All-cons (λ r. r.0 ≤ r.1) r rest n.1 (normal_rises (r.1 + 2) rest n.2)

-- what stands behind a range: the next one, or `]`
pub record Behind (more : List ℕ) : Type 0 where
  pub ends : begins is_hexadecimal more ≡ false
  pub parts : joins more ≡ false
  pub plain : begins (λ c. c == 94) more ≡ false

behind_code : (b : Bool) (x y more : List ℕ) → Behind ((if b then 35 ∷ x else 35 ∷ y) ++ more)
behind_code true x y more = record { ends = refl; parts = refl; plain = refl }
behind_code false x y more = record { ends = refl; parts = refl; plain = refl }

range_begins : (r : ℕ × ℕ) (more : List ℕ) → Behind (range_text r ++ more)
range_begins r more = behind_code (r.0 == r.1) _ _ more

ranges_behind : (ranges : List (ℕ × ℕ)) (rest : List ℕ) → Behind (flat_map range_text ranges ++ 93 ∷ rest)
ranges_behind [] rest = record { ends = refl; parts = refl; plain = refl }
ranges_behind (r ∷ ranges) rest =
    subst Behind (sym (append_assoc (range_text r) (flat_map range_text ranges) (93 ∷ rest)))
    (range_begins r (flat_map range_text ranges ++ 93 ∷ rest))

assembled : (b : Bool) (ranges rest : List ℕ) → (negation b ++ (ranges ++ 93 ∷ [])) ++ rest ≡ negation b ++ (ranges ++ 93 ∷ rest)
assembled b ranges rest =
    append_assoc (negation b) (ranges ++ 93 ∷ []) rest ∙ ap (λ z. negation b ++ z) (append_assoc ranges (93 ∷ []) rest)

-- a printed range is a part
module _ (runs : FrontsAreRuns) where
  one_stands : (a : ℕ) (more : List ℕ) → is_character a ≡ true → Behind more → IsPart (code_text a ++ more) (a, a) more
  one_stands a more h b = alone (code_text a ++ more) more a (element_stands runs a more h b.ends) b.parts

  two_stand : (a c : ℕ) (more : List ℕ) → is_character a ≡ true → is_character c ≡ true → a ≤ c → Behind more →
      IsPart (code_text a ++ 45 ∷ (code_text c ++ more)) (a, c) more
  two_stand a c more h k l b =
      range (code_text a ++ 45 ∷ (code_text c ++ more)) (45 ∷ (code_text c ++ more)) more a c
      (element_stands runs a (45 ∷ (code_text c ++ more)) h refl) refl (element_stands runs c more k b.ends) l

  range_by : (b : Bool) (a c : ℕ) (more : List ℕ) → (a == c) ≡ b → is_character a ≡ true → is_character c ≡ true → a ≤ c → Behind more →
      IsPart ((if b then code_text a else code_text a ++ 45 ∷ code_text c) ++ more) (a, c) more
  range_by true a c more e h k l m =
      let same : a ≡ c = grind (arith, nat_tests) in
      subst (λ z. IsPart (code_text a ++ more) (a, z) more) same (one_stands a more h m)
  range_by false a c more e h k l m =
      subst (λ z. IsPart z (a, c) more) (sym (append_assoc (code_text a) (45 ∷ code_text c) more)) (two_stand a c more h k l m)

  ranges_stand : (ranges : List (ℕ × ℕ)) (rest : List ℕ) → All HasCharacters ranges → NoneFalls ranges →
      AreParts (flat_map range_text ranges ++ 93 ∷ rest) ranges rest
  ranges_stand [] rest all rise = no_part rest
  ranges_stand (r ∷ ranges) rest all rise =
      let more : List ℕ = flat_map range_text ranges ++ 93 ∷ rest in
      let h = All-head HasCharacters r ranges all in
      let part : IsPart (range_text r ++ more) (r.0, r.1) more =
      range_by (r.0 == r.1) r.0 r.1 more refl h.0 h.1 (All-head (λ q. q.0 ≤ q.1) r ranges rise) (ranges_behind ranges rest) in
      subst (λ z. AreParts z (r ∷ ranges) rest) (sym (append_assoc (range_text r) (flat_map range_text ranges) (93 ∷ rest)))
      (next_part (range_text r ++ more) more rest r ranges part
      (ranges_stand ranges rest (All-tail HasCharacters r ranges all) (All-tail (λ q. q.0 ≤ q.1) r ranges rise)))

  -- a printed set is its class
  set_by : (b : Bool) (ranges : List (ℕ × ℕ)) (rest : List ℕ) → ranges ≢ [] → AreParts (flat_map range_text ranges ++ 93 ∷ rest) ranges rest →
      StandsFirst (91 ∷ (negation b ++ (flat_map range_text ranges ++ 93 ∷ rest))) (OneOf (Ranges b (normal_form ranges))) rest
  set_by b [] rest n a = absurd (n refl)
  set_by true (r ∷ ranges) rest n a = other_set (flat_map range_text (r ∷ ranges) ++ 93 ∷ rest) rest r ranges a
  set_by false (r ∷ ranges) rest n a =
      set (flat_map range_text (r ∷ ranges) ++ 93 ∷ rest) rest r ranges (ranges_behind (r ∷ ranges) rest).plain a

  pub set_stands : NormalFormIsNormal → NormalRangesStay → (class : Class) (rest : List ℕ) → IsSet (Unit {0}) class →
      StandsFirst (set_text class ++ rest) (OneOf class) rest
  set_stands normal stay class rest s =
      let ranges : List (ℕ × ℕ) = normal_form (s.first ∷ s.others) in
      let n = normal (s.first ∷ s.others) s.rise in
      let a = ranges_stand ranges rest (form_characters (s.first ∷ s.others) (s.ends tt)) (normal_rises 0 ranges n.normal) in
      let t = set_by s.negated ranges rest (with_some (normal_form s.others) s.first) a in
      let u = subst (λ z. StandsFirst (91 ∷ (negation s.negated ++ (flat_map range_text ranges ++ 93 ∷ rest))) (OneOf (Ranges s.negated z)) rest)
      (stay ranges n.normal) t in
      subst (λ z. StandsFirst (set_text z ++ rest) (OneOf z) rest) (sym s.class_is)
      (subst (λ z. StandsFirst (91 ∷ z) (OneOf (Ranges s.negated ranges)) rest) (sym (assembled s.negated (flat_map range_text ranges) rest)) u)
