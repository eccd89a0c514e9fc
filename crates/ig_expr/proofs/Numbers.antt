-- A number is read digit by digit.
use Rattle.std.proofs.Common.{◌≡◌, ◌∙◌, ℕ, suc, ◌+◌, ◌-◌, ◌*◌, ◌^◌, ◌<◌, ◌≤◌, List, [], ◌∷◌, Bool, true, false, ◌&&◌, cond, Option, Some, None, length, drop, refl, sym, ap, arith, pos, ltb, leb, length-drop}
use Rattle.std.proofs.Math.ListN.{length-take}
use Rattle.std.specs.Prelude.{slice_range, slice_get, option_and_then}
use Rattle.std.specs.List.{list_all}
use Rattle.std.proofs.lemmas.Option.{slice_get_within, get_or_from_slice_get}
use Rattle.std.proofs.lemmas.List.{drop_more}
use Rattle.std.proofs.lemmas.Bool.Decides.{nat_tests}
use Rattle.ig_text.specs.Input.{Input}
use Rattle.ig_text.specs.declared.text.Span.{Span}
use Rattle.ig_expr.specs.Operations.{whole}
use Rattle.ig_text.specs.Words.{is_digit}
use Rattle.ig_expr.specs.Reading.{spelled, number_of, letters_of}
use Rattle.ig_expr.specs.Digits.{with_digit, appended}

-- the number that the digits spell behind those of n, each number on the way within 64 bits
abbrev pub reads : ℕ → List ℕ → Option ℕ
reads n [] = Some n
reads n (c ∷ cs) = option_and_then (λ m. reads m cs) (appended n c)

pub range_more : (text : Input) (p e c : ℕ) → slice_get text.characters p ≡ Some c → p < e →
    slice_range text.characters p e ≡ c ∷ slice_range text.characters (p + 1) e
range_more text p e c h lt =
    let step : drop p text.characters ≡ c ∷ drop (p + 1) text.characters =
    drop_more text.characters p c (slice_get_within text.characters p c h) ∙
    ap (λ (z : ℕ). z ∷ drop (p + 1) text.characters) (get_or_from_slice_get text.characters p c c h) in
    let n : e - p ≡ suc (e - (p + 1)) = omega arith in rw (n, step) refl

pub grows : (cs : List ℕ) (n : ℕ) → n ≤ spelled n cs
grows [] n = omega arith
grows (c ∷ cs) n = omega (arith, grows cs (10 * n + (c - 48)))

unfit : (n : ℕ) → 2 ^ 63 ≤ n → whole (pos n) ≡ None
unfit n h = grind (arith, nat_tests)

none_unfit : (b : Bool) (n : ℕ) → 2 ^ 64 ≤ n → cond b (whole (pos n)) None ≡ None
none_unfit true n h = unfit n (omega arith)
none_unfit false n h = refl

-- one digit more, where the test says whether the number fits
digit_read : (cs : List ℕ) (n : ℕ) (fit : Bool) → ltb n (2 ^ 64) ≡ fit →
    cond (list_all is_digit cs) (whole (pos (spelled n cs))) None ≡ option_and_then (λ m. whole (pos m)) (reads n cs) →
    cond (list_all is_digit cs) (whole (pos (spelled n cs))) None ≡ option_and_then (λ m. whole (pos m)) (option_and_then (λ m. reads m cs) (cond fit (Some n) None))
digit_read cs n true e h = h
digit_read cs n false e h =
    let large : 2 ^ 64 ≤ n = grind (arith, nat_tests) in
    none_unfit (list_all is_digit cs) (spelled n cs) (omega (arith, grows cs n))

letter_read : (cs : List ℕ) (n d : ℕ) (digit : Bool) →
    cond (list_all is_digit cs) (whole (pos (spelled (10 * n + d) cs))) None ≡ option_and_then (λ m. whole (pos m)) (reads (10 * n + d) cs) →
    cond (digit && list_all is_digit cs) (whole (pos (spelled (10 * n + d) cs))) None ≡ option_and_then (λ m. whole (pos m)) (option_and_then (λ m. reads m cs) (with_digit n (cond digit (Some d) None)))
letter_read cs n d true h = digit_read cs (10 * n + d) (ltb (10 * n + d) (2 ^ 64)) refl h
letter_read cs n d false h = refl

reads_is : (cs : List ℕ) (n : ℕ) →
    cond (list_all is_digit cs) (whole (pos (spelled n cs))) None ≡ option_and_then (λ m. whole (pos m)) (reads n cs)
reads_is [] n = refl
reads_is (c ∷ cs) n = letter_read cs n (c - 48) (is_digit c) (reads_is cs (10 * n + (c - 48)))

spelled_by : (xs : List ℕ) → 0 < length xs → number_of (Some xs) ≡ option_and_then (λ m. whole (pos m)) (reads 0 xs)
spelled_by [] h = absurd (omega arith)
spelled_by (c ∷ cs) h = reads_is (c ∷ cs) 0

letters_are : (text : Input) (s : Span) → s.begin < s.end → s.end ≤ length text.characters →
    letters_of text s ≡ Some (slice_range text.characters s.begin s.end)
letters_are text s h k =
    let onward : leb s.begin s.end ≡ true = grind (arith, nat_tests) in
    let within : leb s.end (length text.characters) ≡ true = grind (arith, nat_tests) in rw (onward, within) refl

pub number_is : (text : Input) (s : Span) → s.begin < s.end → s.end ≤ length text.characters →
    number_of (letters_of text s) ≡ option_and_then (λ m. whole (pos m)) (reads 0 (slice_range text.characters s.begin s.end))
number_is text s h k =
    ap number_of (letters_are text s h k) ∙
    spelled_by (slice_range text.characters s.begin s.end)
    (omega (arith, length-take (s.end - s.begin) (drop s.begin text.characters), length-drop s.begin text.characters))

-- a letter that isn't read ends the number
pub number_ends : (text : Input) (s : Span) (n p c : ℕ) → s.begin < s.end → s.end ≤ length text.characters →
    reads n (slice_range text.characters p s.end) ≡ reads 0 (slice_range text.characters s.begin s.end) → slice_get text.characters p ≡ Some c →
    p < s.end → appended n c ≡ None → number_of (letters_of text s) ≡ None
number_ends text s n p c h k e at lt stop =
    number_is text s h k ∙ ap (option_and_then (λ m. whole (pos m))) (sym e) ∙
    rw (range_more text p s.end c at lt, stop) refl

-- a letter more is read
pub number_goes_on : (text : Input) (s : Span) (n m p c : ℕ) →
    reads n (slice_range text.characters p s.end) ≡ reads 0 (slice_range text.characters s.begin s.end) → slice_get text.characters p ≡ Some c →
    p < s.end → appended n c ≡ Some m →
    reads m (slice_range text.characters (p + 1) s.end) ≡ reads 0 (slice_range text.characters s.begin s.end)
number_goes_on text s n m p c e at lt more =
    let here : reads n (slice_range text.characters p s.end) ≡ reads m (slice_range text.characters (p + 1) s.end) =
    rw (range_more text p s.end c at lt, more) refl in sym here ∙ e

-- all letters are read
pub number_read : (text : Input) (s : Span) (n p : ℕ) → s.begin < s.end → s.end ≤ length text.characters →
    reads n (slice_range text.characters p s.end) ≡ reads 0 (slice_range text.characters s.begin s.end) → s.end ≤ p →
    whole (pos n) ≡ number_of (letters_of text s)
number_read text s n p h k e le =
    let none : s.end - p ≡ 0 = omega arith in
    let here : reads n (slice_range text.characters p s.end) ≡ Some n = rw none refl in
    sym (number_is text s h k ∙ ap (option_and_then (λ m. whole (pos m))) (sym e ∙ here))
