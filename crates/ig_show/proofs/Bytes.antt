-- What is added in characters, as bytes.
use Rattle.std.proofs.Common.{◌≡◌, ◌∙◌, ap, sym, ℕ, List, [], ◌++◌}
use Rattle.std.specs.Prelude.{chars, IsUtf8, encode_utf8_all}
use Rattle.std.proofs.lemmas.Str.{encodes-append, encodes-chars}
use Rattle.std.proofs.lemmas.List.{append-nil}
use Rattle.ig_show.specs.Pieces.{Piece, text}
use Rattle.ig_show.specs.Appending.{Adds}

pub added_bytes : {a b : List ℕ} (f : List Piece → List Piece) → IsUtf8 a → IsUtf8 b → Adds a b f → b ≡ a ++ encode_utf8_all (text (f []))
added_bytes {a} {b} f was is p =
    let grown : chars b ≡ chars a ++ text (f []) = sym (append-nil (chars b)) ∙ p.grown [] in
    sym (encodes-chars b is) ∙ ap encode_utf8_all grown ∙
    encodes-append (chars a) (text (f [])) ∙ ap (λ z. z ++ encode_utf8_all (text (f []))) (encodes-chars a was)
