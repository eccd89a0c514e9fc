-- A call that fetches once.
use Rattle.std.proofs.Common.{◌≡◌, ℕ, List, [], ◌∷◌, ◌++◌, All, drop, length, sym, ◌∙◌, ap, subst}
use Rattle.std.proofs.Math.Seq.{drop-append_seam}
use Rattle.std.proofs.lemmas.List.Elements.{All-head, All-nil, All-push}
use Rattle.ig_outside.specs.Fetch.{Agrees, Given}
use Rattle.ig_outside.specs.States.{ShelfState}
use Rattle.ig_outside.specs.Told.{Told}
use Rattle.ig_command_endings.specs.Change.{OnlyFetches, change}

one_given : (old new : List Given) (one : Given) → new ≡ old ++ one ∷ [] → drop (length old) new ≡ one ∷ []
one_given old new one e = ap (drop (length old)) e ∙ drop-append_seam old (one ∷ [])

-- what may be told agrees with the fetch
pub agrees : (told : List ℕ → Told) (old new : List Given) (one : Given) → new ≡ old ++ one ∷ [] →
    All (Agrees told) (drop (length old) new) → Agrees told one
agrees told old new one e all =
    All-head (Agrees told) one [] (subst (All (Agrees told)) (one_given old new one e) all)

pub only_one : (old new : ShelfState) (one : Given) → new.given ≡ old.given ++ one ∷ [] → Agrees old.holds one →
    ((name : List ℕ) → new.holds name ≡ old.holds name) → OnlyFetches (change old new)
only_one old new one e agree same =
    let given = one_given old.given new.given one e in
    record {
      recorded = e ∙ ap (λ (z : List Given). old.given ++ z) (sym given);
      as_told = subst (All (Agrees old.holds)) (sym given)
          (All-push (Agrees old.holds) [] one (All-nil (Agrees old.holds)) agree);
      same = same;
    }
