-- Texts of patterns, sorted by bytes, each once.
use Rattle.std.proofs.Common.{◌≡◌, ℕ, List, [], map, Contains, IsPermutation, IsSorted, sym, subst}
use Rattle.std.specs.Prelude.{string_bytes, String}
use Rattle.std.specs.Cmp.Lexicographic.{texts_ties, nat_list_cmp_total}
use Rattle.std.specs.List.Retain.{IsFiltered, DiffersFromLast}
use Rattle.std.specs.String.{string_cmp, string_eq}
use Rattle.std.proofs.lemmas.Map.Lookups.{exact_bytes}
use Rattle.ig_text.specs.declared.pattern.Pattern.{Pattern}
use Rattle.ig_text.proofs.Lists.{mapped_in, unmapped_in}
use Rattle.ig_text.proofs.Once.{kept_once, once_members, once_order}
use Rattle.ig_show.specs.CanonicalText.{pattern_bytes}
use Rattle.ig_show_trees.specs.ReportText.{AreTextsOf}

pub are_texts : {Z : Type 0} (patterns : List Pattern) (xs ys zs : List (String Z)) → map string_bytes xs ≡ map pattern_bytes patterns →
    IsPermutation xs ys → IsSorted string_cmp ys → IsFiltered (DiffersFromLast string_eq) [] ys zs →
    AreTextsOf patterns (map string_bytes zs)
are_texts {Z} patterns xs ys zs is moved sorted filtered =
    let bytes : String Z → List ℕ = λ s. string_bytes s in
    let kept = kept_once string_eq _ (λ x y. texts_ties (bytes x) (bytes y)) ys zs filtered in
    let members = once_members bytes nat_list_cmp_total exact_bytes xs ys zs moved kept in
    record {
      members = λ text. (
        λ c. unmapped_in pattern_bytes patterns text (subst (λ v. Contains v text) is ((members text).0 c)),
        λ (p, among, e). (members text).1
            (subst (λ v. Contains v text) (sym is) (subst (Contains (map pattern_bytes patterns)) e (mapped_in pattern_bytes patterns p among))),
      );
      order = once_order bytes nat_list_cmp_total exact_bytes ys zs sorted kept;
    }
