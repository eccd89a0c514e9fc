-- Where a word stands in a text, with what is before it and behind it.
use Rattle.std.proofs.Common.{◌≡◌, ℕ, ◌+◌, ◌-◌, ◌<◌, List, [], ◌∷◌, ◌++◌, Some, length, take, refl, sym, ◌∙◌, ap, arith, append_assoc, length-append}
use Rattle.std.specs.Prelude.{slice_get, IsTrue, false}
use Rattle.std.proofs.Math.Seq.{drop-append_seam}
use Rattle.std.proofs.lemmas.Bool.Decides.{nat_tests}
use Rattle.ig_text.specs.Input.{untabbed}
use Rattle.ig_text.proofs.Lists.{right_at}
use Rattle.ig_text.specs.Class.{is_in_class}
use Rattle.ig_text.specs.Place.{Spells}
use Rattle.ig_text.specs.Pattern.{IsOneOf}
use Rattle.ig_text.specs.declared.class.Class.TheVariants.{Ranges}
use Rattle.ig_load.specs.Operators.{letter, letters}

pub record Stands (text word : List ℕ) (i : ℕ) : Type 0 where
  pub before : List ℕ
  pub behind : List ℕ
  pub parts : text ≡ before ++ (word ++ behind)
  pub place : length before ≡ i

-- a text stands in itself
pub stands_whole : (text : List ℕ) → text ≡ text ++ [] → Stands text text 0
stands_whole text e = record { before = []; behind = []; parts = e; place = refl }

-- the first part of a word stands where the word does
pub stands_first : (text xs ys : List ℕ) (i : ℕ) → Stands text (xs ++ ys) i → Stands text xs i
stands_first text xs ys i s =
    record {
      before = s.before;
      behind = ys ++ s.behind;
      parts = s.parts ∙ ap (λ (z : List ℕ). s.before ++ z) (append_assoc xs ys s.behind);
      place = s.place;
    }

-- and the second one behind it
pub stands_second : (text xs ys : List ℕ) (i j : ℕ) → j ≡ i + length xs → Stands text (xs ++ ys) i → Stands text ys j
stands_second text xs ys i j e s =
    let place = s.place in
    record {
      before = s.before ++ xs;
      behind = s.behind;
      parts =
          s.parts ∙ ap (λ (z : List ℕ). s.before ++ z) (append_assoc xs ys s.behind) ∙
          sym (append_assoc s.before xs (ys ++ s.behind));
      place = length-append s.before xs ∙ omega arith;
    }

-- one character that stands there is read there
pub reads_one : (text : List ℕ) (c i : ℕ) → Stands text (c ∷ []) i → slice_get text i ≡ Some c
reads_one text c i s =
    let place = s.place in
    rw s.parts (right_at s.before (c ∷ s.behind) i 0 c (omega arith) refl)

pub spells_one : (text : List ℕ) (c i : ℕ) → Stands text (c ∷ []) i → Spells (untabbed text) (c ∷ []) i (i + 1)
spells_one text c i s =
    let long : length text ≡ length s.before + length (c ∷ s.behind) = ap length s.parts ∙ length-append s.before (c ∷ s.behind) in
    let place = s.place in
    let one : i + 1 - i ≡ 1 = omega arith in
    record {
      onward = omega arith;
      within = omega arith;
      letters = rw one (rw (s.parts, ← place) (ap (take 1) (drop-append_seam s.before (c ∷ s.behind))));
    }

-- a letter is one of the class
pub is_letter : (text : List ℕ) (n i : ℕ) → n < letters → Stands text (letter n ∷ []) i →
    IsOneOf (untabbed text) (Ranges false ((97, 122) ∷ [])) i (i + 1)
is_letter text n i fits s =
    record {
      character = letter n;
      there = reads_one text (letter n) i s;
      member = among n fits;
      next = refl;
    }
  where
    among : (n : ℕ) → n < letters → IsTrue (is_in_class (Ranges false ((97, 122) ∷ [])) (letter n))
    among n fits = grind (arith, nat_tests)
