-- Names of added declarations, as the program makes them.
use Rattle.std.proofs.Common.{◌≡◌, ◌∙◌, ℕ, ◌<◌, ◌^◌, List, [], ◌∷◌, ◌++◌, refl, ap}
use Rattle.std.specs.Prelude.{chars, IsUtf8, decimal}
use Rattle.std.proofs.lemmas.Str.{chars-append, chars-IsAscii, IsAscii-append}
use Rattle.std.proofs.lemmas.Fmt.{IsAscii-decimal}
use Rattle.ig_text.proofs.Characters.{ascii_at}

-- a name, the sign and the number, as text
pub named : (text name : List ℕ) (k : ℕ) → k < 2 ^ 64 → IsUtf8 text → chars text ≡ name →
    chars (text ++ (35 ∷ decimal k)) ≡ name ++ 35 ∷ decimal k
named text name k l u e =
    chars-append text (35 ∷ decimal k) u ∙
    ap (λ z. chars text ++ z) (chars-IsAscii (35 ∷ decimal k)
    (IsAscii-append (35 ∷ []) (decimal k) (ascii_at (35 ∷ []) refl) (IsAscii-decimal k l))) ∙
    ap (λ z. z ++ 35 ∷ decimal k) e
