-- Texts of lists that a loop writes.
use Rattle.std.proofs.Common.{◌≡◌, ◌∙◌, ap, sym, ℕ, ◌≤◌, List, [], ◌∷◌, ◌++◌, refl, length, take, append_assoc, map}
use Rattle.std.specs.Prelude.{flat_map, codes}
use Rattle.std.proofs.lemmas.List.{take_all}
use Rattle.ig_show_texts.specs.Listed.{comma_separated}

-- the first member, then each other one behind a comma
pub listed_whole : {A : Type 0} (shown : A → List ℕ) {xs others : List A} {x : A} (a : List ℕ) {b c : List ℕ} (i : ℕ) → xs ≡ x ∷ others → b ≡ a ++ shown x →
    length others ≤ i → c ≡ b ++ flat_map (λ y. codes "," ++ shown y) (take i others) → c ≡ a ++ comma_separated shown xs
listed_whole {A} shown {xs} {others} {x} a {b} {c} i parts first all written =
    written ∙ ap (λ z. b ++ flat_map (λ y. codes "," ++ shown y) z) (take_all i others all) ∙
    ap (λ z. z ++ flat_map (λ y. codes "," ++ shown y) others) first ∙
    append_assoc a (shown x) (flat_map (λ y. codes "," ++ shown y) others) ∙ ap (λ z. a ++ comma_separated shown z) (sym parts)

-- the texts of what the members stand for
flat_map-map : {A B : Type 0} (shown : B → List ℕ) (f : A → B) (xs : List A) → flat_map shown (map f xs) ≡ flat_map (λ x. shown (f x)) xs
flat_map-map shown f [] = refl
flat_map-map shown f (x ∷ xs) = ap (λ z. shown (f x) ++ z) (flat_map-map shown f xs)

pub mapped_whole : {A B : Type 0} (shown : B → List ℕ) (f : A → B) (xs : List A) (i : ℕ) → length xs ≤ i →
    flat_map (λ x. shown (f x)) (take i xs) ≡ flat_map shown (map f xs)
mapped_whole shown f xs i all = ap (flat_map (λ x. shown (f x))) (take_all i xs all) ∙ sym (flat_map-map shown f xs)

pub listed-map : {A B : Type 0} (shown : B → List ℕ) (f : A → B) (xs : List A) → comma_separated (λ x. shown (f x)) xs ≡ comma_separated shown (map f xs)
listed-map shown f [] = refl
listed-map shown f (x ∷ xs) = ap (λ z. shown (f x) ++ z) (sym (flat_map-map (λ y. codes "," ++ shown y) f xs))
