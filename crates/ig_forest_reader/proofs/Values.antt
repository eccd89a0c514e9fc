-- Which value a text is of.
use Rattle.std.proofs.Common.{◌≡◌, inl, inr, ℕ, suc, ◌<◌, List, [], ◌∷◌, Bool, true, false, Option, Some, refl, sym, ap, ◌∙◌, subst, Contains, FitsSigned, w64, arith}
use Rattle.std.specs.Prelude.{codes, ℤ, pos, negsuc}
use Rattle.std.specs.Int.Signed.{mag}
use Rattle.std.specs.Fmt.{decimal, signed_decimal}
use Rattle.std.specs.Str.{IsAscii}
use Rattle.std.proofs.lemmas.Str.Ascii.{IsAscii-cons}
use Rattle.std.proofs.lemmas.Fmt.{IsAscii-decimal}
use Rattle.std.proofs.lemmas.List.Elements.{Contains-append_right, Contains-append_cases}
use Rattle.ig_text.proofs.Lists.{contains_first, contains_one}
use Rattle.ig_text.specs.declared.text.Span.{Span}
use Rattle.ig_text.specs.Limits.{integers_end}
use Rattle.ig_expr.specs.declared.value.Value.{Value}
use Rattle.ig_expr.specs.declared.value.Value.TheVariants as value
use Rattle.ig_show_texts.specs.ValueText.{span_text, value_text}
use Rattle.ig_forest_reader.specs.Runs.{Each, none, more}
use Rattle.ig_forest_reader.specs.Written.{IsSmall, IsSmallSpan}
use Rattle.ig_forest_reader.proofs.Telling.{NoDot, no_dot_digit, signed_each, value_told}

pub signed_ascii : (z : ℤ) → mag z < integers_end → IsAscii (signed_decimal z)
signed_ascii (pos n) lt = IsAscii-decimal n (omega (arith, lt))
signed_ascii (negsuc n) lt = IsAscii-cons 45 (decimal (suc n)) (omega arith) (IsAscii-decimal (suc n) (omega (arith, lt)))

pub fits_signed : (z : ℤ) → mag z < integers_end → FitsSigned w64 z
fits_signed (pos n) lt = record { sfits = lt }
fits_signed (negsuc n) lt = record { sfits = lt }

-- a member has what each member has
member_has : (P : ℕ → Type 0) (xs : List ℕ) (c : ℕ) → Each P xs → Contains xs c → P c
member_has P [] c a has = absurd (let lt = has.1 in omega (arith, lt))
member_has P (x ∷ xs) c (more _ _ p a) has =
    elim (Contains-append_cases (x ∷ []) xs c has) [
      | inl first ↦ subst P (sym (contains_one x c first)) p
      | inr later ↦ member_has P xs c a later
    ]

abbrev IsLetter : ℕ → Type 0
IsLetter c = 96 < c

truth_has_none : (b : Bool) → Contains (value_text (value.Bool b)) 46 → ⊥
truth_has_none true has =
    let h = member_has IsLetter (codes "true") 46 (more 116 _ (omega arith) (more 114 _ (omega arith) (more 117 _ (omega arith)
    (more 101 _ (omega arith) none)))) has in
    omega (arith, h)
truth_has_none false has =
    let h = member_has IsLetter (codes "false") 46 (more 102 _ (omega arith) (more 97 _ (omega arith) (more 108 _ (omega arith)
    (more 115 _ (omega arith) (more 101 _ (omega arith) none))))) has in
    omega (arith, h)

-- a text with a point is that of a span
pub point_read : (v : Value) (w : List ℕ) (r : Option Value) → IsSmall v → w ≡ value_text v → Contains w 46 →
    ((s : Span) → IsSmallSpan s → w ≡ span_text s → r ≡ Some (value.Span s)) → r ≡ Some v
point_read (value.Int z) w r small e has read =
    absurd (member_has NoDot (signed_decimal z) 46 (signed_each no_dot_digit (λ h. omega (arith, h)) z small)
    (subst (λ (u : List ℕ). Contains u 46) e has) refl)
point_read (value.Bool b) w r small e has read = absurd (truth_has_none b (subst (λ (u : List ℕ). Contains u 46) e has))
point_read (value.Span s) w r small e has read = read s small e

-- a text without a point, which is none of a truth value, is that of an integer
pub record IsInteger (v : Value) (w : List ℕ) : Type 0 where
  pub number : ℤ
  pub is : v ≡ value.Int number
  pub small : mag number < integers_end
  pub text : w ≡ signed_decimal number

pub integer_read : (v : Value) (w : List ℕ) → IsSmall v → w ≡ value_text v → (Contains w 46 → ⊥) → (w ≡ codes "true" → ⊥) →
    (w ≡ codes "false" → ⊥) → IsInteger v w
integer_read (value.Int z) w small e no_point not_true not_false = record { number = z; is = refl; small = small; text = e }
integer_read (value.Bool true) w small e no_point not_true not_false = absurd (not_true e)
integer_read (value.Bool false) w small e no_point not_true not_false = absurd (not_false e)
integer_read (value.Span s) w small e no_point not_true not_false =
    absurd (no_point (subst (λ (u : List ℕ). Contains u 46) (sym e)
    (Contains-append_right (decimal s.begin) (46 ∷ (46 ∷ decimal s.end)) 46 (contains_first 46 (46 ∷ decimal s.end)))))

pub truth_read : (b : Bool) (v : Value) (w : List ℕ) → IsSmall v → w ≡ value_text v → w ≡ value_text (value.Bool b) →
    Some (value.Bool b) ≡ Some v
truth_read b v w small e is = ap Some (value_told (value.Bool b) v tt small (sym is ∙ e))

pub not_when_false : (P : Type 0) (b : Bool) → (P → b ≡ true) → b ≡ false → P → ⊥
not_when_false P b f is p = let e : true ≡ false = sym (f p) ∙ is in cc
