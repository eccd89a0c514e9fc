-- What the bytes begin with, part by part.
use Rattle.std.proofs.Common.{◌≡◌, ℕ, ◌++◌, List, [], ◌∷◌, Option, Some, None, Bor, MatchOption, sym, ap, ◌∙◌}
use Rattle.std.specs.Prelude.{codes, flat_map}
use Rattle.std.specs.Fmt.{decimal}
use Rattle.std.proofs.lemmas.List.{append_assoc, append-nil}
use Rattle.std.proofs.lemmas.Grind.{flat_map-append}
use Rattle.ig_expr.specs.declared.value.Value.{Value}
use Rattle.ig_show_texts.specs.Listed.{comma_separated}
use Rattle.ig_show_texts.specs.TagText.{tag_text}
use Rattle.ig_show_texts.specs.ValueText.{places_text, value_text}
use Rattle.ig_forest_tables.specs.declared.entry.Child.{Child}
use Rattle.ig_forest_tables.specs.declared.entry.Choice.{Choice}
use Rattle.ig_forest_tables.specs.declared.entry.Entry.TheVariants.{Pass, Take}
use Rattle.ig_show_texts.specs.ForestText.{child_text, choice_text, entry_text}
use Rattle.ig_forest_reader.proofs.Telling.{places_joined}
use Rattle.ig_forest_reader.proofs.TellingLines.{pass_joined, take_joined}

-- a part, and what stands after it
pub behind_part : (bytes part behind text rest : List ℕ) → bytes ≡ part ++ behind → behind ≡ text ++ rest →
    bytes ≡ part ++ (text ++ rest)
behind_part bytes part behind text rest e f = e ∙ ap (λ (z : List ℕ). part ++ z) f

pub places_spelled : (bytes behind second rest : List ℕ) (i j : ℕ) → bytes ≡ decimal i ++ behind →
    behind ≡ codes ".." ++ second → second ≡ decimal j ++ rest → bytes ≡ places_text i j ++ rest
places_spelled bytes behind second rest i j e f g =
    behind_part bytes (decimal i) behind (codes "..") second e f ∙
    ap (λ (z : List ℕ). decimal i ++ (46 ∷ (46 ∷ z))) g ∙ sym (places_joined i j rest)

-- what a reader of what stands behind a word gives
pub from_behind : {A : Type 0} (shown : A → List ℕ) (word bytes behind : List ℕ) (r : Option (A × Bor (List ℕ))) →
    bytes ≡ word ++ behind → MatchOption r (Unit {0}) (λ x. word ++ behind ≡ shown x.0 ++ x.1.now) →
    MatchOption r (Unit {0}) (λ x. bytes ≡ shown x.0 ++ x.1.now)
from_behind shown word bytes behind None e m = tt
from_behind shown word bytes behind (Some x) e m = e ∙ m

pub pass_spelled : (bytes rest : List ℕ) (i : ℕ) → bytes ≡ decimal i ++ (10 ∷ rest) →
    codes "pass " ++ bytes ≡ entry_text (Pass i) ++ rest
pass_spelled bytes rest i e = ap (λ (z : List ℕ). codes "pass " ++ z) e ∙ sym (pass_joined i rest)

pub take_spelled : (bytes behind second rest : List ℕ) (i : ℕ) (x : Child) → bytes ≡ decimal i ++ behind →
    behind ≡ codes " " ++ second → second ≡ child_text x ++ (10 ∷ rest) →
    codes "take " ++ bytes ≡ entry_text (Take i x) ++ rest
take_spelled bytes behind second rest i x e f g =
    ap (λ (z : List ℕ). codes "take " ++ z)
    (behind_part bytes (decimal i) behind (codes " ") second e f ∙ ap (λ (z : List ℕ). decimal i ++ (32 ∷ z)) g) ∙
    sym (take_joined i x rest)

pub choice_spelled : (bytes begun word behind second rest name : List ℕ) (c : Choice) → bytes ≡ codes "alt " ++ begun →
    begun ≡ word ++ behind → word ≡ tag_text name c.tag → behind ≡ codes " " ++ second → second ≡ decimal c.item ++ (10 ∷ rest) →
    bytes ≡ choice_text name c ++ rest
choice_spelled bytes begun word behind second rest name c e f g h i =
    e ∙ ap (λ (z : List ℕ). codes "alt " ++ z)
    (f ∙ ap (λ (z : List ℕ). z ++ behind) g ∙ ap (λ (z : List ℕ). tag_text name c.tag ++ z) (h ∙ ap (λ (z : List ℕ). 32 ∷ z) i) ∙
    sym (append_assoc (tag_text name c.tag) (32 ∷ (decimal c.item ++ (10 ∷ []))) rest ∙
    ap (λ (z : List ℕ). tag_text name c.tag ++ (32 ∷ z)) (append_assoc (decimal c.item) (10 ∷ []) rest)))

-- texts one after another, and one more
pub one_more_text : {A : Type 0} (shown : A → List ℕ) (bytes here behind : List ℕ) (xs : List A) (x : A) →
    bytes ≡ flat_map shown xs ++ here → here ≡ shown x ++ behind → bytes ≡ flat_map shown (xs ++ x ∷ []) ++ behind
one_more_text shown bytes here behind xs x e f =
    e ∙ ap (λ (z : List ℕ). flat_map shown xs ++ z) f ∙ sym (append_assoc (flat_map shown xs) (shown x) behind) ∙
    ap (λ (z : List ℕ). z ++ behind)
    (ap (λ (z : List ℕ). flat_map shown xs ++ z) (sym (append-nil (shown x))) ∙ sym (flat_map-append shown xs (x ∷ [])))

-- a first value, and others after it
pub first_spelled : (bytes behind rest : List ℕ) (x : Value) (xs : List Value) → bytes ≡ value_text x ++ behind →
    behind ≡ flat_map (λ y. codes "," ++ value_text y) xs ++ rest → bytes ≡ comma_separated value_text (x ∷ xs) ++ rest
first_spelled bytes behind rest x xs e f =
    e ∙ ap (λ (z : List ℕ). value_text x ++ z) f ∙
    sym (append_assoc (value_text x) (flat_map (λ y. codes "," ++ value_text y) xs) rest)
