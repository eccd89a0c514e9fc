-- The line of a load, piece by piece.
use Rattle.std.proofs.Common.{◌≡◌, ℕ, List, [], ◌++◌, refl, ◌∙◌}
use Rattle.std.specs.Prelude.{codes}
use Rattle.std.specs.Fmt.{decimal}
use Rattle.std.proofs.lemmas.List.{append_assoc}
use Rattle.ig_load.specs.Line.{answer_text, summary_text}
use Rattle.ig_load.specs.declared.summary.Summary.{Summary}

-- one piece more of the whole
more : (whole out next piece rest : List ℕ) → next ≡ out ++ piece → out ++ (piece ++ rest) ≡ whole → next ++ rest ≡ whole
more whole out next piece rest is sofar = rw is (append_assoc out piece rest ∙ sofar)

-- what is pushed in five pieces
pub line_is : (s : Summary) (a b c d e f : List ℕ) → a ≡ [] → b ≡ a ++ (codes "items " ++ decimal s.items) →
    c ≡ b ++ (codes " nodes " ++ decimal s.nodes) → d ≡ c ++ (codes " ambiguous " ++ answer_text s.ambiguous) →
    e ≡ d ++ (codes " cyclic " ++ answer_text s.cyclic) → f ≡ e ++ codes "\n" → f ≡ summary_text s
line_is s a b c d e f is_a is_b is_c is_d is_e is_f =
    let whole = summary_text s in
    let cyclic = answer_text s.cyclic ++ codes "\n" in
    let ambiguous = answer_text s.ambiguous ++ (codes " cyclic " ++ cyclic) in
    let nodes = decimal s.nodes ++ (codes " ambiguous " ++ ambiguous) in
    let one = more whole a b (codes "items " ++ decimal s.items) (codes " nodes " ++ nodes) is_b (rw is_a refl) in
    let two = more whole b c (codes " nodes " ++ decimal s.nodes) (codes " ambiguous " ++ ambiguous) is_c one in
    let three = more whole c d (codes " ambiguous " ++ answer_text s.ambiguous) (codes " cyclic " ++ cyclic) is_d two in
    is_f ∙ more whole d e (codes " cyclic " ++ answer_text s.cyclic) (codes "\n") is_e three
