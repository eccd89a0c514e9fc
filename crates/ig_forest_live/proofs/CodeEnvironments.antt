-- The ordered table of lists of values, and places in it.
use Rattle.std.proofs.Common.{◌≡◌, ℕ, ◌+◌, ◌<◌, List, [], ◌∷◌, ◌++◌, Some, Less, Equal, Greater, Bool, Bor, length, map, take, get_or, slice_get, Contains, IsPermutation, IsSorted, sym, ap, ◌∙◌, subst}
use Rattle.std.specs.declared.cmp.Ordering.{Ordering}
use Rattle.std.specs.Cmp.Lexicographic.{slice_cmp, pointwise, lists_ties}
use Rattle.std.specs.List.{dedup}
use Rattle.std.specs.List.Retain.{IsFiltered, DiffersFromLast}
use Rattle.std.specs.List.Sorted.{IsStrictlySortedBy, IsNonDecreasingBy, IsPartitionPoint}
use Rattle.std.specs.Ordering.{ordering_index, eq_by_cmp}
use Rattle.std.proofs.lemmas.List.{map-append}
use Rattle.std.proofs.lemmas.List.Filters.{dedup_is}
use Rattle.std.proofs.lemmas.Option.{slice_get-get_or}
use Rattle.ig_text.proofs.Lists.{contains_from_at, mapped_at, take_at}
use Rattle.ig_expr.specs.declared.value.Value.{Value}
use Rattle.ig_expr.specs.contracts.value.ValuePartialEq.TheImpl as value_eq
use Rattle.ig_expr.specs.contracts.value.ValueOrd.TheImpl.Laws as value_laws
use Rattle.ig_forest_live.specs.Lists.{AreLists, ArePlaces}
use Rattle.ig_expr.specs.ValueOrder.{values_cmp}
use Rattle.ig_expr.specs.Ordered.{value_derived, values_as, list_total, list_exact}
use Rattle.ig_forest_live.specs.Once.{IsOnce}
use Rattle.ig_forest_live.proofs.CodeSorted.{not_found, once_by}

abbrev pub now_of : Bor (List Value) → List Value
now_of l = l.now

pub found_place : (lists : List (Bor (List Value))) (list : Bor (List Value)) (k : ℕ) → k < length lists →
    ((d : Bor (List Value)) → slice_cmp value_derived (get_or lists k d).now list.now ≡ Equal) →
    slice_get (map now_of lists) k ≡ Some list.now
found_place lists list k lt equal =
    let same : slice_cmp value_derived (get_or lists k list).now list.now ≡ Equal = equal list in
    let tied : values_cmp (get_or lists k list).now list.now ≡ Equal = subst (λ r. slice_cmp r (get_or lists k list).now list.now ≡ Equal) values_as same in
    mapped_at now_of lists k (get_or lists k list) (slice_get-get_or lists k list lt) ∙ ap Some (list_exact _ _ tied)

pub no_place : (lists : List (Bor (List Value))) (list : Bor (List Value)) (i : ℕ) → IsStrictlySortedBy values_cmp (map now_of lists) →
    (IsNonDecreasingBy (λ y. ordering_index (slice_cmp value_derived y.now list.now)) lists →
    IsPartitionPoint (λ y. slice_cmp value_derived y.now list.now ≡ Less) (λ y. slice_cmp value_derived y.now list.now ≡ Greater) lists i) →
    Contains (map now_of lists) list.now → ⊥
no_place lists list i order found =
    not_found now_of list_total lists list.now i order
    (subst (λ r. IsNonDecreasingBy (λ (y : Bor (List Value)). ordering_index (slice_cmp r y.now list.now)) lists →
    IsPartitionPoint (λ (y : Bor (List Value)). slice_cmp r y.now list.now ≡ Less) (λ (y : Bor (List Value)). slice_cmp r y.now list.now ≡ Greater) lists i)
    values_as found)

pub map_next : {X Y : Type 0} (f : X → Y) (done more : List X) (x : X) (ys : List Y) (k : ℕ) (y : Y) → more ≡ done ++ x ∷ [] →
    map f done ≡ take k ys → slice_get ys k ≡ Some y → f x ≡ y → map f more ≡ take (k + 1) ys
map_next f done more x ys k y more_is so_far at is =
    ap (map f) more_is ∙ map-append f done (x ∷ []) ∙ ap (λ (z : List _). z ++ f x ∷ []) so_far ∙
    ap (λ (z : _). take k ys ++ z ∷ []) is ∙ sym (take_at ys k y at)

pub are_lists : (environments : List (List Value)) (xs ys zs : List (Bor (List Value))) → map now_of xs ≡ environments →
    IsPermutation xs ys → IsSorted (λ x y. slice_cmp value_derived x.now y.now) ys →
    IsFiltered (DiffersFromLast (λ x y. pointwise (value_eq.eq-value).it x.now y.now)) [] ys zs →
    AreLists environments (map now_of zs)
are_lists environments xs ys zs is moved sorted filtered =
    let E : Bor (List Value) → Bor (List Value) → Bool = λ x y. pointwise (value_eq.eq-value).it x.now y.now in
    let kept : zs ≡ dedup E ys = dedup_is E ys zs filtered in
    let F : Bor (List Value) → Bor (List Value) → Bool = eq_by_cmp (λ x y. values_cmp x.now y.now) in
    let derived : E ≡ eq_by_cmp (λ x y. slice_cmp value_derived x.now y.now) =
    (λ i x y. lists_ties value_derived value_laws.matches_eq-law x.now y.now i) in
    let same : E ≡ F = derived ∙ ap (λ (r : Value → Value → Ordering). eq_by_cmp (λ (x y : Bor (List Value)). slice_cmp r x.now y.now)) values_as in
    let once : IsOnce values_cmp (map now_of xs) (map now_of zs) =
    once_by now_of list_total list_exact xs ys zs moved
    (subst (λ (r : Value → Value → Ordering). IsSorted (λ (x y : Bor (List Value)). slice_cmp r x.now y.now) ys) values_as sorted)
    (kept ∙ ap (λ (e : Bor (List Value) → Bor (List Value) → Bool). dedup e ys) same) in
    subst (λ (v : List (List Value)). AreLists v (map now_of zs)) is (record { members = once.members; order = once.order })

-- one more place
pub place_next : (environments lists : List (List Value)) (places more : List ℕ) (k place : ℕ) (list : List Value) →
    more ≡ places ++ place ∷ [] → ArePlaces (take k environments) lists places → slice_get environments k ≡ Some list →
    slice_get lists place ≡ Some list → ArePlaces (take (k + 1) environments) lists more
place_next environments lists places more k place list more_is so_far at is =
    ap (map (slice_get lists)) more_is ∙ map-append (slice_get lists) places (place ∷ []) ∙
    ap (λ (z : List _). z ++ slice_get lists place ∷ []) so_far ∙
    ap (λ (z : _). map Some (take k environments) ++ z ∷ []) is ∙
    sym (map-append Some (take k environments) (list ∷ [])) ∙
    ap (map Some) (sym (take_at environments k list at))

pub is_placed : (environments lists : List (List Value)) (k : ℕ) (list : List Value) → AreLists environments lists →
    slice_get environments k ≡ Some list → Contains lists list
is_placed environments lists k list are at = (are.members list).1 (contains_from_at environments k list at)
