-- Where a text stands at the front of some bytes.
use Rattle.std.proofs.Common.{◌≡◌, Bor, ℕ, ◌<◌, ◌++◌, List, Option, Some, None, MatchOption, refl, ap, ◌∙◌, subst, length, take, drop, arith}
use Rattle.std.specs.List.{IsSplitAt}
use Rattle.std.proofs.lemmas.List.{length-append}
use Rattle.ig_forest_reader.proofs.Leading.{cut_there, cut_whole}

-- what a cut behind as many bytes as the text has says
abbrev pub Split : List ℕ → List ℕ → Option (Bor (List ℕ) × Bor (List ℕ)) → Type 0
Split bytes text r = MatchOption r (length bytes < length text) (λ p. IsSplitAt bytes (length text) p.0.now p.1.now)

pub too_short : (bytes text us : List ℕ) (r : Option (Bor (List ℕ) × Bor (List ℕ))) → Split bytes text r → r ≡ None →
    bytes ≡ text ++ us → ⊥
too_short bytes text us r cases is e =
    let less : length bytes < length text = subst (Split bytes text) is cases in
    let long = ap length e ∙ length-append text us in
    omega (arith, less, long)

-- the front and the rest
pub split_there : (bytes text : List ℕ) (r : Option (Bor (List ℕ) × Bor (List ℕ))) (p : Bor (List ℕ) × Bor (List ℕ)) →
    Split bytes text r → r ≡ Some p →
    (bytes ≡ p.0.now ++ p.1.now) × (p.0.now ≡ take (length text) bytes) × (p.1.now ≡ drop (length text) bytes)
split_there bytes text r p cases is =
    let cut : IsSplitAt bytes (length text) p.0.now p.1.now = subst (Split bytes text) is cases in
    (cut_whole bytes p.0.now p.1.now (length text) cut.1 cut.2, cut.1, cut.2)

pub split_told : (bytes text us front rest : List ℕ) →
    (bytes ≡ front ++ rest) × (front ≡ take (length text) bytes) × (rest ≡ drop (length text) bytes) → bytes ≡ text ++ us →
    (front ≡ text) × (rest ≡ us)
split_told bytes text us front rest split e = cut_there bytes text us front rest (length text) split.1 split.2 refl e
