-- A number that is read digit by digit, whatever stands behind it.
use Rattle.std.proofs.Common.{◌≡◌, Bor, ℕ, zero, suc, ◌+◌, ◌*◌, ◌-◌, ◌<◌, ◌≤◌, ◌++◌, List, [], ◌∷◌, Option, Some, None, Bool, true, false, MatchBool, MatchOption, refl, sym, ap, ◌∙◌, subst, length, take, drop, slice_index_or, arith}
use Rattle.std.specs.Fmt.{decimal}
use Rattle.std.specs.Char.{is_ascii_digit}
use Rattle.std.proofs.lemmas.List.{get_or_append_left, length-append, take-append-drop}
use Rattle.ig_text.specs.Limits.{numbers_end}
use Rattle.ig_forest_reader.specs.Runs.{Each, none, more, Stops, at, at_end, IsBefore, IsDigit, LeadsWell}
use Rattle.ig_forest_reader.proofs.Leading.{cut_there}
use Rattle.ig_forest_reader.proofs.Numerals.{ReadTo, none_yet, one_more, spells, reads, never_fails, decimal_leads}
use Rattle.ig_forest_reader.proofs.Telling.{decimal_digits}

-- the digits at the front, and what stands after them
pub record Run (bytes : List ℕ) : Type 0 where
  pub digits : List ℕ
  pub rest : List ℕ
  pub are : Each IsDigit digits
  pub stop : Stops IsDigit rest
  pub is : bytes ≡ digits ++ rest

tells_digit : (c : ℕ) (b : Bool) → is_ascii_digit c ≡ b → MatchBool b (IsDigit c) (IsDigit c → ⊥)
tells_digit c true e = grind (arith, e)
tells_digit c false e = λ q. grind (arith, e, q)

pub digit_tells : (c : ℕ) → MatchBool (is_ascii_digit c) (IsDigit c) (IsDigit c → ⊥)
digit_tells c = tells_digit c (is_ascii_digit c) refl

run_after : (c : ℕ) (cs : List ℕ) (b : Bool) → is_ascii_digit c ≡ b → Run cs → Run (c ∷ cs)
run_after c cs true e r =
    record {
      digits = c ∷ r.digits;
      rest = r.rest;
      are = more c r.digits (tells_digit c true e) r.are;
      stop = r.stop;
      is = ap (λ (z : List ℕ). c ∷ z) r.is;
    }
run_after c cs false e r = record { digits = []; rest = c ∷ cs; are = none; stop = at c cs (tells_digit c false e); is = refl }

run_of : (bytes : List ℕ) → Run bytes
run_of [] = record { digits = []; rest = []; are = none; stop = at_end; is = refl }
run_of (c ∷ cs) = run_after c cs (is_ascii_digit c) refl (run_of cs)

-- places of digits
inside : (ds us : List ℕ) (i : ℕ) → Stops IsDigit us → i ≤ length ds → i < length (ds ++ us) →
    IsDigit (slice_index_or (ds ++ us) i 0) → i < length ds
inside [] [] i s upto within is = absurd (omega (arith, within))
inside [] (c ∷ cs) zero (at _ _ not) upto within is = absurd (not is)
inside [] (c ∷ cs) (suc i) s upto within is = absurd (omega (arith, upto))
inside (d ∷ ds) us zero s upto within is = omega arith
inside (d ∷ ds) us (suc i) s upto within is =
    let less = inside ds us i s (omega (arith, upto)) (omega (arith, within)) is in omega (arith, less)

digit_in : (ds : List ℕ) (i : ℕ) → Each IsDigit ds → i < length ds → IsDigit (slice_index_or ds i 0)
digit_in [] i a less = absurd (omega (arith, less))
digit_in (d ∷ ds) zero (more _ _ q a) less = q
digit_in (d ∷ ds) (suc i) (more _ _ q a) less = digit_in ds i a (omega (arith, less))

shorter : (ds us : List ℕ) (i : ℕ) → i < length ds → i < length (ds ++ us)
shorter [] us i less = absurd (omega (arith, less))
shorter (d ∷ ds) us zero less = omega arith
shorter (d ∷ ds) us (suc i) less = let rest = shorter ds us i (omega (arith, less)) in omega (arith, rest)

-- the digits up to place i were read to the number, whatever they are
abbrev pub Reading : List ℕ → ℕ → ℕ → Type 0
Reading bytes number i =
    (ds us : List ℕ) → Each IsDigit ds → Stops IsDigit us → bytes ≡ ds ++ us → (i ≤ length ds) × ReadTo ds number i

-- no digit stands at place i
abbrev pub NoDigitAt : List ℕ → ℕ → Type 0
NoDigitAt bytes i = i < length bytes → IsDigit (slice_index_or bytes i 0) → ⊥

pub nothing_read : (bytes : List ℕ) → Reading bytes 0 0
nothing_read bytes ds us a s e = (omega arith, none_yet ds)

digit_there : (bytes ds us : List ℕ) (i : ℕ) → bytes ≡ ds ++ us → i < length ds → slice_index_or bytes i 0 ≡ slice_index_or ds i 0
digit_there bytes ds us i e less = ap (λ (z : List ℕ). slice_index_or z i 0) e ∙ get_or_append_left ds us 0 i less

digit_within : (bytes ds us : List ℕ) (i : ℕ) → Stops IsDigit us → bytes ≡ ds ++ us → i ≤ length ds → i < length bytes →
    IsDigit (slice_index_or bytes i 0) → i < length ds
digit_within bytes ds us i s e upto within is =
    inside ds us i s upto (subst (λ (z : List ℕ). i < length z) e within)
    (subst (λ (z : List ℕ). IsDigit (slice_index_or z i 0)) e is)

pub next_digit : (bytes : List ℕ) (number i next : ℕ) → i < length bytes → IsDigit (slice_index_or bytes i 0) →
    next ≡ number * 10 + (slice_index_or bytes i 0 - 48) → next < numbers_end → Reading bytes number i → Reading bytes next (i + 1)
next_digit bytes number i next within is sum small reading ds us a s e =
    let read = reading ds us a s e in
    let less = digit_within bytes ds us i s e read.0 within is in
    let same = digit_there bytes ds us i e less in (
      omega (arith, less),
      one_more ds number i next less (subst IsDigit same is) (sum ∙ ap (λ (m : ℕ). number * 10 + (m - 48)) same) small read.1,
    )

pub none_too_large : (bytes us : List ℕ) (n number i : ℕ) → n < numbers_end → Stops IsDigit us → bytes ≡ decimal n ++ us →
    i < length bytes → IsDigit (slice_index_or bytes i 0) → Reading bytes number i →
    (IsDigit (slice_index_or bytes i 0) → numbers_end ≤ number * 10 + (slice_index_or bytes i 0 - 48)) → ⊥
none_too_large bytes us n number i small s e within is reading fails =
    let read = reading (decimal n) us (decimal_digits n (omega (arith, small))) s e in
    let less = digit_within bytes (decimal n) us i s e read.0 within is in
    never_fails n (decimal n) number i small refl less read.1
    (subst (λ (d : ℕ). IsDigit d → numbers_end ≤ number * 10 + (d - 48)) (digit_there bytes (decimal n) us i e less) fails)

-- where no digit stands, all were read
meets : (i n : ℕ) → i ≤ n → (i < n → ⊥) → i ≡ n
meets i n upto not = grind arith

all_digits : (bytes ds us : List ℕ) (i : ℕ) → Each IsDigit ds → bytes ≡ ds ++ us → NoDigitAt bytes i → i ≤ length ds → i ≡ length ds
all_digits bytes ds us i a e stop upto =
    meets i (length ds) upto
    (λ less. stop (subst (λ (z : List ℕ). i < length z) (sym e) (shorter ds us i less))
    (subst IsDigit (sym (digit_there bytes ds us i e less)) (digit_in ds i a less)))

-- at the end of the bytes
pub all_read : (bytes : List ℕ) (number i : ℕ) → length bytes ≤ i → Reading bytes number i → Reading bytes number (length bytes)
all_read bytes number i past reading ds us a s e =
    let read = reading ds us a s e in
    let upto = read.0 in
    let long = ap length e ∙ length-append ds us in
    let same : i ≡ length bytes = omega (arith, past, upto, long) in
    subst (λ (m : ℕ). (m ≤ length ds) × ReadTo ds number m) same read

pub none_at_end : (bytes : List ℕ) → NoDigitAt bytes (length bytes)
none_at_end bytes within = absurd (omega (arith, within))

same_length : (ds : List ℕ) (i : ℕ) → i ≡ length ds → length ds ≤ i
same_length ds i e = omega (arith, e)

pub number_small : (bytes : List ℕ) (number i : ℕ) (r : Option (ℕ × Bor (List ℕ))) → Reading bytes number i → IsBefore bytes i number r →
    MatchOption r (Unit {0}) (λ p. p.0 < numbers_end)
number_small bytes number i None reading before = tt
number_small bytes number i (Some p) reading before =
    let run = run_of bytes in
    subst (λ (n : ℕ). n < numbers_end) (sym before.1) (reading run.digits run.rest run.are run.stop run.is).1.small

pub number_exact : (bytes : List ℕ) (number i : ℕ) (r : Option (ℕ × Bor (List ℕ))) → Reading bytes number i → NoDigitAt bytes i →
    IsBefore bytes i number r → MatchOption r (Unit {0}) (λ p. bytes ≡ decimal p.0 ++ p.1.now)
number_exact bytes number i None reading stop before = tt
number_exact bytes number i (Some p) reading stop before =
    let run = run_of bytes in
    let read = reading run.digits run.rest run.are run.stop run.is in
    let here = all_digits bytes run.digits run.rest i run.are run.is stop read.0 in
    let cut = cut_there bytes run.digits run.rest (take i bytes) (drop i bytes) i refl refl here run.is in
    let spelled = spells run.digits number i (subst LeadsWell cut.0 before.0) (same_length run.digits i here) read.1 in
    sym (take-append-drop i bytes) ∙ ap (λ (z : List ℕ). z ++ drop i bytes) (cut.0 ∙ spelled ∙ ap decimal (sym before.1)) ∙
    ap (λ (z : List ℕ). decimal p.0 ++ z) (sym before.2)

pub number_told : (bytes : List ℕ) (number i : ℕ) (r : Option (ℕ × Bor (List ℕ))) (n : ℕ) (us : List ℕ) → Reading bytes number i →
    NoDigitAt bytes i → IsBefore bytes i number r → n < numbers_end → Stops IsDigit us → bytes ≡ decimal n ++ us →
    MatchOption r ⊥ (λ p. (p.0 ≡ n) × (p.1.now ≡ us))
number_told bytes number i r n us reading stop before small s e = told r before
  where
    digits : Each IsDigit (decimal n)
    digits = decimal_digits n (omega (arith, small))

    here : i ≡ length (decimal n)
    here = all_digits bytes (decimal n) us i digits e stop (reading (decimal n) us digits s e).0

    cut : (take i bytes ≡ decimal n) × (drop i bytes ≡ us)
    cut = cut_there bytes (decimal n) us (take i bytes) (drop i bytes) i refl refl here e

    told : (r : Option (ℕ × Bor (List ℕ))) → IsBefore bytes i number r → MatchOption r ⊥ (λ p. (p.0 ≡ n) × (p.1.now ≡ us))
    told None fails = fails (subst LeadsWell (sym cut.0) (decimal_leads n small))
    told (Some p) found = (
      found.1 ∙ reads n (decimal n) number i small refl (same_length (decimal n) i here) (reading (decimal n) us digits s e).1,
      found.2 ∙ cut.1,
    )
