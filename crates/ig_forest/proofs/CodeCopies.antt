-- The names of nonterminals, copied one by one.
use Rattle.std.proofs.Common.{◌≡◌, ℕ, suc, ◌+◌, ◌<◌, ◌≤◌, List, [], ◌∷◌, ◌++◌, Some, length, map, take, slice_get, sym, ap, ◌∙◌, arith}
use Rattle.std.specs.Prelude.{option_map}
use Rattle.std.proofs.lemmas.List.{map-append, take_all}
use Rattle.std.proofs.lemmas.Option.{same_Some}
use Rattle.ig_text.proofs.Lists.{get_within, take_step}
use Rattle.ig_item.specs.declared.core_grammar.Nonterminal.{Nonterminal}

-- one more row
row_next : {X Y : Type 0} (f : X → Y) (done more : List Y) (row : Y) (xs : List X) (k : ℕ) (x : X) → more ≡ done ++ row ∷ [] →
    done ≡ map f (take k xs) → slice_get xs k ≡ Some x → row ≡ f x → more ≡ map f (take (k + 1) xs)
row_next f done more row xs k x more_is so_far at is =
    let one : k + 1 ≡ suc k = omega arith in
    more_is ∙ ap (λ (z : List _). z ++ row ∷ []) so_far ∙ ap (λ (z : _). map f (take k xs) ++ z ∷ []) is ∙
    sym (map-append f (take k xs) (x ∷ [])) ∙ ap (map f) (sym (take_step xs k x at) ∙ ap (λ n. take n xs) (sym one))

-- one more name
pub name_next : (core : List Nonterminal) (done more : List (List ℕ)) (name copy : List ℕ) (k n : ℕ) → k < n → n ≡ length core →
    more ≡ done ++ copy ∷ [] → copy ≡ name →
    Some name ≡ option_map (λ z. z.name) (slice_get core k) → done ≡ map (λ z. z.name) (take k core) →
    more ≡ map (λ z. z.name) (take (k + 1) core)
name_next core done more name copy k n lt long more_is copied named so_far =
    let (z, at) = get_within core k (omega (arith, lt, long)) in
    let e : name ≡ z.name = same_Some name z.name (named ∙ ap (option_map (λ (m : Nonterminal). m.name)) at) in
    row_next (λ (m : Nonterminal). m.name) done more copy core k z more_is so_far at (copied ∙ e)

pub names_all : (core : List Nonterminal) (names : List (List ℕ)) (k n : ℕ) → n ≡ length core → n ≤ k → names ≡ map (λ z. z.name) (take k core) →
    names ≡ map (λ z. z.name) core
names_all core names k n long le so_far = so_far ∙ ap (map (λ (m : Nonterminal). m.name)) (take_all k core (omega (arith, long, le)))
