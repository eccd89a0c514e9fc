-- What calls gave that fetch one after another.
use Rattle.std.proofs.Common.{◌≡◌, ℕ, List, [], ◌++◌, All, drop, length, refl, sym, ◌∙◌, ap, subst}
use Rattle.std.proofs.Math.Seq.{drop-append_seam, drop-length, take-append_seam}
use Rattle.std.proofs.lemmas.List.{append-nil, append_assoc}
use Rattle.std.proofs.lemmas.List.Elements.{All-append, All-drop, All-nil, All-take}
use Rattle.ig_outside.specs.Fetch.{Agrees, Given}
use Rattle.ig_outside.specs.States.{ShelfState}
use Rattle.ig_outside.specs.Told.{Told}
use Rattle.ig_command_endings.specs.Change.{MayTell, OnlyFetches, change, given_by}
use Rattle.ig_tool.proofs.Fetching.{same_holds}

-- a call that doesn't fetch
pub only_none : (shelf : ShelfState) → OnlyFetches (change shelf shelf)
only_none shelf =
    let none : given_by (change shelf shelf) ≡ [] = drop-length shelf.given in
    record {
      recorded = sym (append-nil shelf.given) ∙ ap (λ (z : List Given). shelf.given ++ z) (sym none);
      as_told = subst (All (Agrees shelf.holds)) (sym none) (All-nil (Agrees shelf.holds));
      same = λ name. refl;
    }

module _ (old mid new : ShelfState) (a : OnlyFetches (change old mid)) (b : OnlyFetches (change mid new)) where
  abbrev early : List Given
  early = given_by (change old mid)

  abbrev late : List Given
  late = given_by (change mid new)

  all_given : new.given ≡ old.given ++ (early ++ late)
  all_given = b.recorded ∙ ap (λ (z : List Given). z ++ late) a.recorded ∙ append_assoc old.given early late

  in_turn : given_by (change old new) ≡ early ++ late
  in_turn = ap (drop (length old.given)) all_given ∙ drop-append_seam old.given (early ++ late)

  -- what agrees with all fetches agrees with those of each call
  pub first : (told : List ℕ → Told) → MayTell told (change old new) → MayTell told (change old mid)
  first told all =
      subst (All (Agrees told)) (take-append_seam early late)
      (All-take (Agrees told) (length early) (early ++ late) (subst (All (Agrees told)) in_turn all))

  pub second : (told : List ℕ → Told) → MayTell told (change old new) → MayTell told (change mid new)
  second told all =
      subst (All (Agrees told)) (drop-append_seam early late)
      (All-drop (Agrees told) (length early) (early ++ late) (subst (All (Agrees told)) in_turn all))

  pub only_both : OnlyFetches (change old new)
  only_both =
      let told : All (Agrees old.holds) late =
      subst (λ (z : List ℕ → Told). All (Agrees z) late) (same_holds mid.holds old.holds a.same) b.as_told in
      record {
        recorded = all_given ∙ ap (λ (z : List Given). old.given ++ z) (sym in_turn);
        as_told = subst (All (Agrees old.holds)) (sym in_turn) (All-append (Agrees old.holds) early late a.as_told told);
        same = λ name. b.same name ∙ a.same name;
      }
