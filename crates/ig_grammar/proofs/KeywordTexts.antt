-- Texts among keywords, by their bytes and by their characters.
use Rattle.std.proofs.Common.{◌&&◌, ◌||◌, ◌≡◌, List, [], ◌∷◌, ℕ, Bool, true, refl, ◌∙◌, map}
use Rattle.std.specs.Prelude.{bytes_eq, chars, IsUtf8}
use Rattle.std.specs.List.{list_any}
use Rattle.std.proofs.lemmas.Bool.{and_parts}
use Rattle.ig_text.specs.Words.{is_word}
use Rattle.ig_text.proofs.Characters.{ascii, chars_of_word}
use Rattle.ig_grammar.specs.Name.{is_keyword}
use Rattle.ig_grammar.specs.declared.keywords.TheConstants.{KEYWORDS}

abbrev all_ascii : List (List ℕ) → Bool
all_ascii [] = true
all_ascii (w ∷ ws) = ascii w && all_ascii ws

any_test : {X : Type 0} (now : X → List ℕ) (words : List X) (text : List ℕ) → all_ascii (map now words) ≡ true →
    IsUtf8 text → list_any (λ k. bytes_eq (now k) text) words ≡ list_any (is_word (chars text)) (map now words)
any_test now [] text a u = refl
any_test now (w ∷ words) text a u =
    let p = and_parts (ascii (now w)) (all_ascii (map now words)) a in
    λ i. chars_of_word (now w) text p.0 u i || any_test now words text p.1 u i

pub keyword_test : (text : List ℕ) (r : Bool) → IsUtf8 text → r ≡ list_any (λ k. bytes_eq k.now text) KEYWORDS →
    r ≡ is_keyword (chars text)
keyword_test text r u h = h ∙ any_test (λ k. k.now) KEYWORDS text refl u
