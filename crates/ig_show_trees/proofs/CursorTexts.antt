-- The pieces of a cursor's text between its points are its numbers.
use Rattle.std.proofs.Common.{◌≡◌, ◌∙◌, ap, ap₂, sym, refl, ℕ, ◌+◌, ◌<◌, ◌≤◌, ◌%◌, List, [], ◌∷◌, ◌++◌, Bool, true, false, eqb, get_or, length, take, map, All, Some, arith}
use Rattle.std.specs.Prelude.{codes}
use Rattle.std.specs.List.{list_all, slice_split}
use Rattle.std.specs.Cmp.Lexicographic.{pointwise, bytes_decides}
use Rattle.std.specs.Fmt.{decimal}
use Rattle.std.proofs.lemmas.Bool.{and_parts}
use Rattle.std.proofs.lemmas.List.Folds.{list_all-append}
use Rattle.std.proofs.lemmas.Bool.Decides.{nat_tests}
use Rattle.std.proofs.lemmas.Fmt.{decimal_injective, decimal_by_steps}
use Rattle.std.proofs.lemmas.List.{append-nil, length-map, get_or-map, take_more, take_all}
use Rattle.std.proofs.lemmas.Option.{same_Some}
use Rattle.std.proofs.lemmas.List.Elements.{All-nil, All-cons, All-head, All-tail}
use Rattle.std.proofs.lemmas.List.Splits.{slice_split_none, slice_split_at}
use Rattle.ig_text.specs.Words.{is_digit}
use Rattle.ig_text.proofs.Characters.{digit_test}
use Rattle.ig_text.proofs.Equal.{same_first, same_rest}
use Rattle.ig_forest.specs.Cursors.{IsShortCursor}
use Rattle.ig_show_trees.specs.Laws.{CursorTextsDiffer}
use Rattle.ig_show_trees.specs.TreeText.{cursor_text}

abbrev is_point : ℕ → Bool
is_point = λ c. eqb c 46

abbrev IsShort : ℕ → Type 0
IsShort = λ n. n < 4294967296

no_point : (c : ℕ) → is_digit c ≡ true → is_point c ≡ false
no_point c h = grind (arith, nat_tests)

no_points : (cs : List ℕ) → list_all is_digit cs ≡ true → All (λ c. is_point c ≡ false) cs
no_points [] h = All-nil (λ c. is_point c ≡ false)
no_points (c ∷ cs) h =
    let parts = and_parts (is_digit c) (list_all is_digit cs) h in
    All-cons (λ c. is_point c ≡ false) c cs (no_point c parts.0) (no_points cs parts.1)

one_digit : (n : ℕ) → n < 10 → list_all is_digit ((48 + n) ∷ []) ≡ true
one_digit n h = rw (digit_test n h) refl

one_more_digit : (n : ℕ) (ds : List ℕ) → 10 ≤ n → list_all is_digit ds ≡ true → list_all is_digit (ds ++ (48 + n % 10) ∷ []) ≡ true
one_more_digit n ds h all = rw (list_all-append is_digit ds ((48 + n % 10) ∷ []), all) (one_digit (n % 10) (omega arith))

decimal_digits : (n : ℕ) → n < 4294967296 → list_all is_digit (decimal n) ≡ true
decimal_digits n small =
    decimal_by_steps (λ _ ds. list_all is_digit ds ≡ true) one_digit one_more_digit n (omega (arith, small))

pub numbers_apart : (n : ℕ) (ns : List ℕ) → IsShortCursor (n ∷ ns) →
    slice_split is_point (cursor_text (n ∷ ns)) ≡ map decimal (n ∷ ns)
numbers_apart n [] short =
    ap (slice_split is_point) (append-nil (decimal n)) ∙
    slice_split_none is_point (decimal n) (no_points (decimal n) (decimal_digits n (All-head IsShort n [] short)))
numbers_apart n (m ∷ ms) short =
    slice_split_at is_point (decimal n) 46 (cursor_text (m ∷ ms))
    (no_points (decimal n) (decimal_digits n (All-head IsShort n (m ∷ ms) short))) refl ∙
    ap (λ z. decimal n ∷ z) (numbers_apart m ms (All-tail IsShort n (m ∷ ms) short))

same_numbers : (cs ds : List ℕ) → IsShortCursor cs → IsShortCursor ds → map decimal cs ≡ map decimal ds → cs ≡ ds
same_numbers [] [] short others e = refl
same_numbers [] (m ∷ ms) short others e = cc
same_numbers (n ∷ ns) [] short others e = cc
same_numbers (n ∷ ns) (m ∷ ms) short others e =
    let a = All-head IsShort n ns short in
    let b = All-head IsShort m ms others in
    ap₂ (λ z zs. z ∷ zs)
    (decimal_injective n m (omega (arith, a)) (omega (arith, b)) (same_first (decimal n) (decimal m) (map decimal ns) (map decimal ms) e))
    (same_numbers ns ms (All-tail IsShort n ns short) (All-tail IsShort m ms others)
    (same_rest (decimal n) (decimal m) (map decimal ns) (map decimal ms) e))

-- a number isn't the word
pub never_only : (n : ℕ) (ns : List ℕ) → IsShortCursor (n ∷ ns) → codes "only" ≡ cursor_text (n ∷ ns) → ⊥
never_only n ns short e =
    let pieces : codes "only" ∷ [] ≡ map decimal (n ∷ ns) = ap (slice_split is_point) e ∙ numbers_apart n ns short in
    let word : codes "only" ≡ decimal n = same_first (codes "only") (decimal n) [] (map decimal ns) pieces in
    let no : false ≡ true = ap (list_all is_digit) word ∙ decimal_digits n (All-head IsShort n ns short) in
    cc

pub cursor_texts_differ : CursorTextsDiffer
cursor_texts_differ [] [] short others e = refl
cursor_texts_differ [] (m ∷ ms) short others e = absurd (never_only m ms others e)
cursor_texts_differ (n ∷ ns) [] short others e = absurd (never_only n ns short (sym e))
cursor_texts_differ (n ∷ ns) (m ∷ ms) short others e =
    same_numbers (n ∷ ns) (m ∷ ms) short others
    (sym (numbers_apart n ns short) ∙ ap (slice_split is_point) e ∙ numbers_apart m ms others)

-- a text that is cut at its points: piece i of the text of a cursor is its number i
pub record IsPiece (n : ℕ) (ns : List ℕ) (i : ℕ) (piece : List ℕ) : Type 0 where
  pub within : i < length (n ∷ ns)
  pub small : get_or (n ∷ ns) i 0 < 4294967296
  pub spelled : decimal (get_or (n ∷ ns) i 0) ≡ piece

pub pieces : (n : ℕ) (ns word : List ℕ) → IsShortCursor (n ∷ ns) → cursor_text (n ∷ ns) ≡ word →
    slice_split is_point word ≡ map decimal (n ∷ ns)
pieces n ns word short e = ap (slice_split is_point) (sym e) ∙ numbers_apart n ns short

pub many_pieces : (n : ℕ) (ns word : List ℕ) → IsShortCursor (n ∷ ns) → cursor_text (n ∷ ns) ≡ word →
    length (slice_split is_point word) ≡ length (n ∷ ns)
many_pieces n ns word short e = ap length (pieces n ns word short e) ∙ length-map (n ∷ ns) decimal

pub is_piece : (n : ℕ) (ns word : List ℕ) (i : ℕ) (piece : List ℕ) → IsShortCursor (n ∷ ns) → cursor_text (n ∷ ns) ≡ word →
    (i < length (slice_split is_point word)) × (piece ≡ get_or (slice_split is_point word) i piece) → IsPiece n ns i piece
is_piece n ns word i piece short e turn =
    let m = many_pieces n ns word short e in
    let k = turn.0 in
    let within : i < length (n ∷ ns) = omega (arith, m, k) in
    record {
      within = within;
      small = short i 0 within;
      spelled =
          sym (get_or-map decimal (n ∷ ns) i 0 piece within) ∙ ap (λ z. get_or z i piece) (sym (pieces n ns word short e)) ∙ sym turn.1;
    }

pub one_more : (n : ℕ) (ns numbers more : List ℕ) (i j number : ℕ) {piece : List ℕ} → IsPiece n ns i piece →
    numbers ≡ take i (n ∷ ns) → j ≡ i + 1 → Some (get_or (n ∷ ns) i 0) ≡ Some number → more ≡ numbers ++ number ∷ [] →
    more ≡ take j (n ∷ ns)
one_more n ns numbers more i j number is before next same pushed =
    pushed ∙ ap₂ (λ a b. a ++ b ∷ []) before (sym (same_Some _ _ same)) ∙ sym (take_more (n ∷ ns) i 0 is.within) ∙
    ap (λ k. take k (n ∷ ns)) (sym next)

pub all_numbers : (n : ℕ) (ns numbers : List ℕ) (i : ℕ) → numbers ≡ take i (n ∷ ns) → i ≡ length (n ∷ ns) →
    Some numbers ≡ Some (n ∷ ns)
all_numbers n ns numbers i before all =
    ap Some (before ∙ take_all i (n ∷ ns) (let e = all in omega (arith, e)))

pub only_is : (cs word numbers : List ℕ) → IsShortCursor cs → cursor_text cs ≡ word → word ≡ codes "only" → numbers ≡ [] →
    Some numbers ≡ Some cs
only_is [] word numbers short e only nothing = ap Some nothing
only_is (n ∷ ns) word numbers short e only nothing = absurd (never_only n ns short (sym only ∙ sym e))

pub not_only : (P : List ℕ → Type 0) (word : List ℕ) → (word ≡ codes "only" → ⊥) →
    ((n : ℕ) (ns : List ℕ) → IsShortCursor (n ∷ ns) → cursor_text (n ∷ ns) ≡ word → P (n ∷ ns)) →
    (cs : List ℕ) → IsShortCursor cs → cursor_text cs ≡ word → P cs
not_only P word differs found [] short e = absurd (differs (sym e))
not_only P word differs found (n ∷ ns) short e = found n ns short e

-- what `==` says of two texts
pub same_bytes : (r : Bool) (xs ys : List ℕ) → r ≡ pointwise eqb xs ys → r ≡ true → xs ≡ ys
same_bytes r xs ys told holds = (bytes_decides xs ys).0 (sym told ∙ holds)

pub other_bytes : (r : Bool) (xs ys : List ℕ) → r ≡ pointwise eqb xs ys → r ≡ false → xs ≡ ys → ⊥
other_bytes r xs ys told differs same = let h = told ∙ (bytes_decides xs ys).1 same in cc
