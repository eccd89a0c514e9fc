-- Texts of ASCII characters, and texts compared by their bytes and by their characters.
use Rattle.std.proofs.Common.{◌≡◌, ◌∙◌, ℕ, zero, suc, ◌+◌, ◌<◌, List, [], ◌∷◌, Bool, true, ◌&&◌, nat_lt, refl, sym, ap, arith, lit<, false}
use Rattle.std.specs.Prelude.{chars, IsUtf8, encode_utf8_all, ◌≢◌}
use Rattle.std.specs.Str.{IsAscii}
use Rattle.std.specs.Cmp.Lexicographic.{bytes_decides}
use Rattle.std.proofs.lemmas.Bool.{and_parts}
use Rattle.std.proofs.lemmas.Bool.Decides.{nat_tests, same_from_decides}
use Rattle.std.proofs.lemmas.Str.{encodes-chars, IsUtf8-from_ascii, chars-IsAscii}
use Rattle.ig_text.specs.Words.{is_word, is_digit}

-- the character of a number below ten is a digit
pub digit_test : (n : ℕ) → n < 10 → is_digit (48 + n) ≡ true
digit_test n h = grind (arith, nat_tests)

-- only ASCII characters
abbrev pub ascii : List ℕ → Bool
ascii [] = true
ascii (b ∷ bs) = nat_lt b 128 && ascii bs

-- the test says so
pub ascii_at : (bs : List ℕ) → ascii bs ≡ true → IsAscii bs
ascii_at [] e i = lit< tt
ascii_at (b ∷ bs) e zero = let t = (and_parts (nat_lt b 128) (ascii bs) e).0 in grind (arith, nat_tests)
ascii_at (b ∷ bs) e (suc i) = ascii_at bs (and_parts (nat_lt b 128) (ascii bs) e).1 i

-- a text of ASCII characters is their codes
pub ascii_chars : (text : List ℕ) → ascii text ≡ true → chars text ≡ text
ascii_chars text a = chars-IsAscii text (ascii_at text a)

-- texts with equal characters have equal bytes
pub texts_equal : (xs ys : List ℕ) → IsUtf8 xs → IsUtf8 ys → chars xs ≡ chars ys → xs ≡ ys
texts_equal xs ys u v e = sym (encodes-chars xs u) ∙ ap encode_utf8_all e ∙ encodes-chars ys v

-- the bytes of a text are those of its characters
pub word_bytes : (bytes name : List ℕ) → IsUtf8 bytes → chars bytes ≡ name → bytes ≡ encode_utf8_all name
word_bytes bytes name u e = sym (encodes-chars bytes u) ∙ ap encode_utf8_all e

-- texts are compared by their bytes as by their characters
pub words_equal : (xs ys a b : List ℕ) (r : Bool) → IsUtf8 xs → IsUtf8 ys → chars xs ≡ a → chars ys ≡ b →
    r ≡ is_word xs ys → r ≡ is_word a b
words_equal xs ys a b r u v e f h =
    same_from_decides r (is_word a b) (
      (λ t. sym e ∙ ap chars ((bytes_decides xs ys).0 (sym h ∙ t)) ∙ f),
      (λ q. h ∙ (bytes_decides xs ys).1 (texts_equal xs ys u v (e ∙ q ∙ sym f))),
    )
    (bytes_decides a b)

-- a word of ASCII characters is compared with bytes or with characters alike
pub word_of_chars : (w text : List ℕ) → ascii w ≡ true → IsUtf8 text → is_word w text ≡ is_word w (chars text)
word_of_chars w text a u =
    words_equal w text w (chars text) (is_word w text) (IsUtf8-from_ascii w (ascii_at w a)) u (ascii_chars w a) refl refl

-- and so in turn
pub chars_of_word : (w text : List ℕ) → ascii w ≡ true → IsUtf8 text → is_word w text ≡ is_word (chars text) w
chars_of_word w text a u =
    same_from_decides (is_word w text) (is_word (chars text) w) (
      (λ t. ap chars (sym ((bytes_decides w text).0 t)) ∙ ascii_chars w a),
      (λ e. (bytes_decides w text).1
          (texts_equal w text (IsUtf8-from_ascii w (ascii_at w a)) u (ascii_chars w a ∙ sym e))),
    )
    (bytes_decides (chars text) w)

-- words that differ are not one word
pub differs : (a b : List ℕ) → a ≢ b → is_word a b ≡ false
differs a b other = go (is_word a b) refl
  where
    go : (t : Bool) → is_word a b ≡ t → t ≡ false
    go true e = absurd (other ((bytes_decides a b).0 e))
    go false e = refl

-- a word is that word
pub itself : (a : List ℕ) → is_word a a ≡ true
itself a = (bytes_decides a a).1 refl
