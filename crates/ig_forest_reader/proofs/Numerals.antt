-- Which number digits spell.
use Rattle.std.proofs.Common.{◌≡◌, ℕ, zero, suc, ◌+◌, ◌*◌, ◌-◌, ◌/◌, ◌%◌, ◌<◌, ◌≤◌, ◌++◌, List, [], ◌∷◌, refl, sym, ap, ◌∙◌, subst, length, drop, slice_index_or, arith}
use Rattle.std.specs.Fmt.{decimal}
use Rattle.std.specs.Str.Parse.{AllDigits, digits_value, digits_value_after}
use Rattle.std.specs.Char.{digit_value}
use Rattle.std.proofs.lemmas.Fmt.{decimal-digits_value, decimal_by_steps, decimal_is_IsNumeral}
use Rattle.std.proofs.lemmas.List.{drop_more, drop_all}
use Rattle.std.proofs.lemmas.Str.{digit_value_digit}
use Rattle.std.proofs.lemmas.Str.Parse.{numerals_by_value, tells_digits, digit_at}
use Rattle.ig_text.specs.Limits.{numbers_end}
use Rattle.ig_forest_reader.specs.Runs.{IsDigit, LeadsWell}

-- the digits up to place i spell the number
pub record ReadTo (digits : List ℕ) (number i : ℕ) : Type 0 where
  pub all : AllDigits 10 (drop i digits) → AllDigits 10 digits
  pub value : digits_value_after 10 number (drop i digits) ≡ digits_value 10 digits
  pub small : number < numbers_end

pub none_yet : (digits : List ℕ) → ReadTo digits 0 0
none_yet digits = record { all = λ a. a; value = refl; small = omega arith }

same_value : (d : ℕ) → IsDigit d → digit_value d ≡ d - 48
same_value d is = let e = digit_value_digit d (omega (arith, is.0), omega (arith, is.1)) in omega (arith, e)

pub one_more : (digits : List ℕ) (number i next : ℕ) → i < length digits → IsDigit (slice_index_or digits i 0) →
    next ≡ number * 10 + (slice_index_or digits i 0 - 48) → next < numbers_end → ReadTo digits number i → ReadTo digits next (i + 1)
one_more digits number i next less is sum small read =
    let d : ℕ = slice_index_or digits i 0 in
    let e : drop i digits ≡ d ∷ drop (i + 1) digits = drop_more digits i 0 less in
    let v = same_value d is in
    record {
      all = λ a. read.all (subst (AllDigits 10) (sym e) (omega (arith, v, is.1), a));
      value = ap (λ (m : ℕ). digits_value_after 10 m (drop (i + 1) digits)) (sum ∙ ap (λ (m : ℕ). number * 10 + m) (sym v)) ∙
          ap (digits_value_after 10 number) (sym e) ∙ read.value;
      small = small;
    }

le_after : (n : ℕ) (ds : List ℕ) → n ≤ digits_value_after 10 n ds
le_after n [] = omega arith
le_after n (c ∷ cs) = omega (arith, le_after (n * 10 + digit_value c) cs)

ends : (digits : List ℕ) (number i : ℕ) → length digits ≤ i → ReadTo digits number i →
    AllDigits 10 digits × (number ≡ digits_value 10 digits)
ends digits number i past read =
    let e : drop i digits ≡ [] = drop_all i digits past in
    (read.all (subst (AllDigits 10) (sym e) tt), ap (digits_value_after 10 number) (sym e) ∙ read.value)

some_digits : (ds : List ℕ) → LeadsWell ds → 0 < length ds
some_digits [] leads = absurd leads
some_digits (c ∷ ds) leads = omega arith

no_zero : (ds : List ℕ) → LeadsWell ds → slice_index_or ds 0 0 ≡ 48 → length ds ≡ 1
no_zero [] leads e = absurd leads
no_zero (c ∷ []) leads e = refl
no_zero (c ∷ d ∷ ds) leads e = absurd (leads e)

pub spells : (digits : List ℕ) (number i : ℕ) → LeadsWell digits → length digits ≤ i → ReadTo digits number i →
    digits ≡ decimal number
spells digits number i leads past read =
    let all = ends digits number i past read in
    let small = read.small in
    let e = all.1 in
    sym (ap decimal e ∙ decimal-digits_value (numerals_by_value (AllDigits 10) tells_digits) digits all.0 (some_digits digits leads)
    (no_zero digits leads) (omega (arith, small, e)))

-- what is printed leads well
pub record Leads (n : ℕ) (ds : List ℕ) : Type 0 where
  pub some : 0 < length ds
  pub none : n ≡ 0 → length ds ≡ 1
  pub first : 0 < n → slice_index_or ds 0 0 ≡ 48 → ⊥

one_leads : (n : ℕ) → n < 10 → Leads n ((48 + n) ∷ [])
one_leads n small = record { some = omega arith; none = λ e. refl; first = λ some e. omega (arith, some, e) }

first_stays : (ds : List ℕ) (d : ℕ) → 0 < length ds → slice_index_or (ds ++ (d ∷ [])) 0 0 ≡ slice_index_or ds 0 0
first_stays [] d some = absurd (omega (arith, some))
first_stays (c ∷ ds) d some = refl

more_lead : (n : ℕ) (ds : List ℕ) → 10 ≤ n → Leads (n / 10) ds → Leads n (ds ++ ((48 + n % 10) ∷ []))
more_lead n [] large leads = absurd (let some = leads.some in omega (arith, some))
more_lead n (c ∷ ds) large leads =
    record { some = omega arith; none = λ e. omega (arith, e, large); first = λ some e. leads.first (omega (arith, large)) e }

leads_well : (n : ℕ) (ds : List ℕ) → Leads n ds → LeadsWell ds
leads_well n [] leads = absurd (let some = leads.some in omega (arith, some))
leads_well n (c ∷ []) leads = tt
leads_well zero (c ∷ d ∷ ds) leads = λ e. let one = leads.none refl in omega (arith, one)
leads_well (suc n) (c ∷ d ∷ ds) leads = λ e. leads.first (omega arith) e

pub decimal_leads : (n : ℕ) → n < numbers_end → LeadsWell (decimal n)
decimal_leads n small = leads_well n (decimal n) (decimal_by_steps Leads one_leads more_lead n (omega (arith, small)))

-- the digits of a number are read to it
pub reads : (n : ℕ) (digits : List ℕ) (number i : ℕ) → n < numbers_end → digits ≡ decimal n → length digits ≤ i →
    ReadTo digits number i → number ≡ n
reads n digits number i small e past read =
    (ends digits number i past read).1 ∙ ap (digits_value 10) e ∙ (decimal_is_IsNumeral n (omega (arith, small))).1

pub never_fails : (n : ℕ) (digits : List ℕ) (number i : ℕ) → n < numbers_end → digits ≡ decimal n → i < length digits →
    ReadTo digits number i → (IsDigit (slice_index_or digits i 0) → numbers_end ≤ number * 10 + (slice_index_or digits i 0 - 48)) → ⊥
never_fails n digits number i small e less read fails =
    let d : ℕ = slice_index_or digits i 0 in
    let numeral = decimal_is_IsNumeral n (omega (arith, small)) in
    let range = digit_at digits i (subst (AllDigits 10) (sym e) numeral.0.1) less in
    let is : IsDigit d = (omega (arith, range.0), omega (arith, range.1)) in
    let v = same_value d is in
    let split : drop i digits ≡ d ∷ drop (i + 1) digits = drop_more digits i 0 less in
    let value : digits_value_after 10 (number * 10 + digit_value d) (drop (i + 1) digits) ≡ n =
    ap (digits_value_after 10 number) (sym split) ∙ read.value ∙ ap (digits_value 10) e ∙ numeral.1 in
    let low = le_after (number * 10 + digit_value d) (drop (i + 1) digits) in
    let large = fails is in
    omega (arith, small, v, value, low, large)
