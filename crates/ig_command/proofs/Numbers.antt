-- Reading a number digit by digit.
use Rattle.std.proofs.Common.{◌≡◌, ℕ, ◌+◌, ◌*◌, ◌-◌, ◌≤◌, ◌<◌, ◌∙◌, Bool, true, false, List, ◌∷◌, refl, sym, arith, Option, Some, None, nat_le, get_or}
use Rattle.std.specs.Prelude.{◌&&◌, if◌then◌else◌, length, drop}
use Rattle.std.specs.List.{list_all}
use Rattle.std.proofs.lemmas.List.{at_drop_more}
use Rattle.ig_text.specs.Words.{is_digit}
use Rattle.ig_expr.specs.Reading.{spelled}
use Rattle.ig_expr.specs.Laws.{DigitsGrow}

-- the number that digits spell behind those of n, from the least to the most
abbrev pub number_behind : ℕ → ℕ → ℕ → List ℕ → Option ℕ
number_behind n least most digits =
    if list_all is_digit digits && (nat_le least (spelled n digits) && nat_le (spelled n digits) most) then Some (spelled n digits)
    else None

gated : {A : Type 0} (x : Option A) (p q r : Bool) → p ≡ false → (if (p && q) && r then x else None) ≡ None
gated x false q r e = refl
gated x true q r e = absurd (cc)

refused : {A : Type 0} (x : Option A) (q s t : Bool) → t ≡ false → (if q && (s && t) then x else None) ≡ None
refused x false s t e = refl
refused x true false t e = refl
refused x true true false e = refl
refused x true true true e = absurd (cc)

-- no digit
no_digit : (n least most d : ℕ) (ds : List ℕ) → is_digit d ≡ false → number_behind n least most (d ∷ ds) ≡ None
no_digit n least most d ds e = gated _ (is_digit d) (list_all is_digit ds) _ e

above : (a b : ℕ) → b < a → nat_le a b ≡ false
above a b less = grind arith

module _ (grow : DigitsGrow) where
  -- too great already
  too_great : (n least most d : ℕ) (ds : List ℕ) → most < 10 * n + (d - 48) → number_behind n least most (d ∷ ds) ≡ None
  too_great n least most d ds more =
      let grown : 10 * n + (d - 48) ≤ spelled (10 * n + (d - 48)) ds = grow ds (10 * n + (d - 48)) in
      let past : most < spelled (10 * n + (d - 48)) ds = omega (arith, more, grown) in
      refused _ (list_all is_digit (d ∷ ds)) (nat_le least (spelled n (d ∷ ds))) (nat_le (spelled n (d ∷ ds)) most) (above _ _ past)

  stop : (n least most d : ℕ) (ds : List ℕ) (p q : Bool) → is_digit d ≡ p → nat_le (10 * n + (d - 48)) most ≡ q →
      (if p && q then Some (10 * n + (d - 48)) else None) ≡ None → number_behind n least most (d ∷ ds) ≡ None
  stop n least most d ds false q e f none = no_digit n least most d ds e
  stop n least most d ds true false e f none = too_great n least most d ds (grind (arith, f))
  stop n least most d ds true true e f none = absurd (cc)

  -- the digit is none, or makes the number too great
  stopped : (n least most d : ℕ) (ds : List ℕ) →
      (if is_digit d && nat_le (10 * n + (d - 48)) most then Some (10 * n + (d - 48)) else None) ≡ None →
      number_behind n least most (d ∷ ds) ≡ None
  stopped n least most d ds none = stop n least most d ds (is_digit d) (nat_le (10 * n + (d - 48)) most) refl refl none

  -- behind so many digits of all
  pub stopped_at : (digits : List ℕ) (least most i n z : ℕ) (whole : Option ℕ) → i < length digits →
      (if is_digit (get_or digits i z) && nat_le (10 * n + (get_or digits i z - 48)) most then Some (10 * n + (get_or digits i z - 48)) else None) ≡ None →
      number_behind n least most (drop i digits) ≡ whole → None ≡ whole
  stopped_at digits least most i n z whole within none kept =
      sym (stopped n least most (get_or digits i z) (drop (i + 1) digits) none) ∙ sym (at_drop_more (number_behind n least most) digits i z within) ∙ kept
