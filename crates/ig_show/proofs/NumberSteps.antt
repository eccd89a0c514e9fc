-- What the strings of the library add; numbers and ranges.
use Rattle.std.proofs.Common.{◌≡◌, ◌∙◌, ap, sym, subst, ℕ, suc, ◌+◌, ◌<◌, ◌≤◌, List, [], ◌∷◌, ◌++◌, true, refl, length, drop, append_assoc, Ok, Err, Result, arith}
use Rattle.std.specs.Prelude.{OnOk, chars, IsUtf8, encode_utf8, is_ok, if◌then◌else◌, flat_map, ℤ, pos, negsuc, ◌^◌}
use Rattle.std.specs.Fmt.{signed_decimal}
use Rattle.std.proofs.lemmas.Str.{chars-append, chars-nil, chars_past_char}
use Rattle.std.proofs.lemmas.List.{append-nil, at_drop_more, drop_all}
use Rattle.std.proofs.lemmas.Bool.{ne_eqb}
use Rattle.std.proofs.Math.Utf8.{scalar}
use Rattle.std.proofs.Math.ListN.{get_or}
use lib.Signed.{mag}
use Rattle.ig_show.proofs.Numerals.{decimal_is_numeral}
use Rattle.ig_show.specs.Pieces.{Piece, text}
use Rattle.ig_show.specs.Signs.{integer_pieces}
use Rattle.ig_show.specs.Spelling.{class_character, range_spelling}
use Rattle.ig_show.specs.Appending.{Appends}

grows : {a b : List ℕ} (t : List ℕ) → IsUtf8 a → b ≡ a ++ t → Appends a b (chars t)
grows {a} {b} t u e =
    record { grown = λ s. ap (λ z. chars z ++ s) e ∙ (rw (chars-append a t u) (append_assoc (chars a) (chars t) s)) }

pub pushed : {T E : Type 0} {a b : List ℕ} (t : List ℕ) (r : Result T E) → IsUtf8 a → b ≡ (if is_ok r then a ++ t else a) → OnOk r (Appends a b (chars t))
pushed t (Ok v) u e = grows t u e
pushed t (Err v) u e = tt

character_spelled : (c : ℕ) → scalar c ≡ true → chars (encode_utf8 c) ≡ c ∷ []
character_spelled c s =
    let u : IsUtf8 (encode_utf8 c) = (c ∷ [], (rw s refl, append-nil (encode_utf8 c))) in
    chars_past_char (encode_utf8 c) [] c u (sym (append-nil (encode_utf8 c))) ∙ ap (λ z. c ∷ z) chars-nil

pub pushed_character : {T E : Type 0} {a b : List ℕ} (c : ℕ) (r : Result T E) → scalar c ≡ true → IsUtf8 a → b ≡ (if is_ok r then a ++ encode_utf8 c else a) → OnOk r (Appends a b (c ∷ []))
pushed_character {T} {E} {a} {b} c r s u e =
    subst (λ z. OnOk r (Appends a b z)) (character_spelled c s) (pushed (encode_utf8 c) r u e)

pub two_ends : (a b : ℕ) → (a ≡ b → ⊥) → class_character a ++ 45 ∷ class_character b ≡ range_spelling (a, b)
two_ends a b n = rw (ne_eqb a b n) refl

pub integer_text : (z : ℤ) (w : List ℕ) → mag z < 2 ^ 63 → w ≡ signed_decimal z → (ps : List Piece) → text (integer_pieces z ps) ≡ w ++ text ps
integer_text (pos n) w h e ps = rw (e, decimal_is_numeral n (omega arith)) refl
integer_text (negsuc n) w h e ps = rw (e, decimal_is_numeral (suc n) (omega arith)) refl
