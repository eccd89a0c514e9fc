-- Letters that are compared with the characters of a string, one after another.
use Rattle.std.proofs.Common.{◌≡◌, ◌∙◌, ℕ, ◌+◌, ◌<◌, ◌≤◌, ◌↔◌, List, [], ◌∷◌, ◌++◌, Bool, true, false, not, Option, Some, None, length, get_or, take, drop, refl, sym, ap, subst, eqb}
use Rattle.std.specs.Prelude.{slice_get, chars, IsTrue, IsUtf8, MatchOption, is_none, is_some, encode_utf8}
use Rattle.std.specs.Option.{option_eq}
use Rattle.std.proofs.lemmas.Bool.Decides.{Decides-eqb}
use Rattle.std.proofs.lemmas.List.{append_cancel_left, append-nil, append_assoc, take-append-drop, drop_more, take_more, take_all}
use Rattle.std.proofs.lemmas.Str.{chars_past_char, IsUtf8-past_char}
use Rattle.ig_text.proofs.Options.{is_missing}

-- the first i letters are the first characters of the text, and the others of its characters are left
pub record IsLeft (letters text rest : List ℕ) (i : ℕ) : Type 0 where
  pub utf8 : IsUtf8 rest
  pub same : chars text ≡ take i letters ++ chars rest

-- at the start all characters are left
pub all_left : (letters text rest : List ℕ) → IsUtf8 text → rest ≡ text → IsLeft letters text rest 0
all_left letters text rest u e = rw e (record { utf8 = u; same = refl })

is_letter : (r : Option ℕ) (letter : ℕ) → option_eq eqb r (Some letter) ≡ true → r ≡ Some letter
is_letter None letter e = cc
is_letter (Some c) letter e = ap Some ((Decides-eqb c letter).0 e)

is_other : (r : Option ℕ) (letter : ℕ) → option_eq eqb r (Some letter) ≡ false → r ≡ Some letter → ⊥
is_other None letter e h = cc
is_other (Some c) letter e h =
    let same : c ≡ letter = cc in
    let is = (Decides-eqb c letter).1 same in cc

-- a character that is the next letter is one more
pub one_more : (letters text rest behind : List ℕ) (i letter : ℕ) (r : Option ℕ) (P : Type 0) → IsLeft letters text rest i →
    i < length letters → letter ≡ get_or letters i letter →
    MatchOption r P (λ c. rest ≡ encode_utf8 c ++ behind) →
    option_eq eqb r (Some letter) ≡ true → IsLeft letters text behind (i + 1)
one_more letters text rest behind i letter r P l h read next e =
    let here : rest ≡ encode_utf8 letter ++ behind =
    subst (λ (z : Option ℕ). MatchOption z P (λ c. rest ≡ encode_utf8 c ++ behind))
    (is_letter r letter e) next in
    let step : take (i + 1) letters ≡ take i letters ++ letter ∷ [] =
    take_more letters i letter h ∙ ap (λ (z : ℕ). take i letters ++ z ∷ []) (sym read) in
    record {
      utf8 = IsUtf8-past_char rest behind letter l.utf8 here;
      same =
          l.same ∙ ap (λ (z : List ℕ). take i letters ++ z) (chars_past_char rest behind letter l.utf8 here) ∙
          sym (append_assoc (take i letters) (letter ∷ []) (chars behind)) ∙
          ap (λ (z : List ℕ). z ++ chars behind) (sym step);
    }

-- a character that isn't tells the text from the letters
pub another : (letters text rest : List ℕ) (i letter : ℕ) (r : Option ℕ) → IsLeft letters text rest i →
    i < length letters → letter ≡ get_or letters i letter → r ≡ slice_get (chars rest) 0 →
    option_eq eqb r (Some letter) ≡ false → letters ≡ chars text → ⊥
another letters text rest i letter r l h read next e same =
    let others : chars rest ≡ drop i letters =
    append_cancel_left (take i letters) (chars rest) (drop i letters)
    (sym l.same ∙ sym same ∙ sym (take-append-drop i letters)) in
    let first : chars rest ≡ letter ∷ drop (i + 1) letters =
    others ∙ drop_more letters i letter h ∙ ap (λ (z : ℕ). z ∷ drop (i + 1) letters) (sym read) in
    is_other r letter e (next ∙ ap (λ (z : List ℕ). slice_get z 0) first)

is_empty : (xs : List ℕ) → is_none (slice_get xs 0) ≡ true → xs ≡ []
is_empty [] e = refl
is_empty (x ∷ xs) e = cc

-- behind all letters the text is the letters where no character is left
pub none_left : (letters text rest : List ℕ) (i : ℕ) (r : Option ℕ) (all : Bool) → IsLeft letters text rest i →
    length letters ≤ i → r ≡ slice_get (chars rest) 0 → is_some r ≡ not all → IsTrue all ↔ (letters ≡ chars text)
none_left letters text rest i r all l over next e =
    let same : chars text ≡ letters ++ chars rest =
    l.same ∙ ap (λ (z : List ℕ). z ++ chars rest) (take_all i letters over) in
    let ends : all ≡ is_none (slice_get (chars rest) 0) = sym (is_missing r all e) ∙ ap is_none next in (
      λ t.
          let none : chars rest ≡ [] = is_empty (chars rest) (sym ends ∙ t) in
          sym (same ∙ ap (λ (z : List ℕ). letters ++ z) none ∙ append-nil letters),
      λ h.
          let none : chars rest ≡ [] =
          append_cancel_left letters (chars rest) [] (sym same ∙ sym h ∙ sym (append-nil letters)) in
          ends ∙ ap (λ (z : List ℕ). is_none (slice_get z 0)) none,
    )
