-- The text of a cause and of a place, added piece by piece.
use Rattle.std.proofs.Common.{◌≡◌, ℕ, List, ◌++◌, ap, ◌∙◌}
use Rattle.std.proofs.lemmas.List.{append_assoc}
use Rattle.std.specs.Prelude.{codes}
use Rattle.std.specs.Fmt.{decimal}
use Rattle.ig_grammar.specs.declared.place.Place.{Place}
use Rattle.ig_command_sources.specs.Texts.{place_text}

-- a text, and a number behind it
numbered : (old now text digits rest : List ℕ) → now ≡ old ++ (text ++ digits) → now ++ rest ≡ old ++ (text ++ (digits ++ rest))
numbered old now text digits rest e =
    ap (λ (z : List ℕ). z ++ rest) e ∙ append_assoc old (text ++ digits) rest ∙
    ap (λ (z : List ℕ). old ++ z) (append_assoc text digits rest)

pub cause_added : (old one two three cause : List ℕ) (place : Place) → one ≡ old ++ cause →
    two ≡ one ++ (codes " at declaration " ++ decimal place.decl) → three ≡ two ++ (codes ", alternative " ++ decimal place.alt) →
    three ++ (codes ", symbol " ++ decimal place.symbol) ≡ old ++ (cause ++ place_text place)
cause_added old one two three cause place at_cause at_decl at_alt =
    let last : List ℕ = codes ", symbol " ++ decimal place.symbol in
    let others : List ℕ = codes ", alternative " ++ (decimal place.alt ++ last) in
    numbered two three (codes ", alternative ") (decimal place.alt) last at_alt ∙
    numbered one two (codes " at declaration ") (decimal place.decl) others at_decl ∙
    ap (λ (z : List ℕ). z ++ place_text place) at_cause ∙ append_assoc old cause (place_text place)
