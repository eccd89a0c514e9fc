-- Words that are given as texts.
use Rattle.std.proofs.Common.{◌≡◌, ◌↔◌, ℕ, List, Bool, IsTrue, sym, ap, ◌∙◌}
use Rattle.std.specs.Prelude.{chars, encode_utf8_all, nat_eq, IsUtf8}
use Rattle.std.specs.Cmp.Lexicographic.{pointwise, bytes_decides}
use Rattle.std.proofs.lemmas.Str.{encodes-chars}

pub spells_name : (result : Bool) (bytes text word : List ℕ) → result ≡ pointwise nat_eq bytes text → chars bytes ≡ word →
    IsUtf8 bytes → IsUtf8 text → IsTrue result ↔ (word ≡ chars text)
spells_name result bytes text word is spelled utf8 text_utf8 = (
  λ t. sym spelled ∙ ap chars ((bytes_decides bytes text).0 (sym is ∙ t)),
  λ e.
      is ∙ (bytes_decides bytes text).1
      (sym (encodes-chars bytes utf8) ∙ ap encode_utf8_all (spelled ∙ e) ∙ encodes-chars text text_utf8),
)
