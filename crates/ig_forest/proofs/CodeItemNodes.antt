-- The entries of live items, made from their ways.
use Rattle.std.proofs.Common.{◌≡◌, ◌↔◌, ◌⊎◌, inl, inr, ℕ, ◌+◌, ◌<◌, ◌≤◌, List, [], ◌∷◌, ◌++◌, Some, Less, length, map, get_or, slice_get, Contains, IsPermutation, IsSorted, refl, sym, ap, ◌∙◌, subst, arith}
use Rattle.std.specs.List.{dedup, AllAdjacentBelow}
use Rattle.std.specs.List.Sorted.{IsStrictlySortedBy}
use Rattle.std.specs.Ordering.{nat_cmp, eq_by_cmp}
use Rattle.std.proofs.Math.ListN.{set}
use Rattle.std.proofs.lemmas.Bool.Decides.{Decides-eqb}
use Rattle.std.proofs.lemmas.Cmp.{nat_cmp_total}
use Rattle.std.proofs.lemmas.List.{get_or-set_same, get_or-set_other, length-set}
use Rattle.std.proofs.lemmas.List.Elements.{Contains-append_left, Contains-push, Contains-push_cases}
use Rattle.std.proofs.lemmas.List.Kept.{Contains-from_dedup, IsStrictlySortedBy-dedup}
use Rattle.std.proofs.lemmas.List.Sorted.{Contains-permutation, IsPermutation-sym}
use Rattle.std.proofs.lemmas.Map.Keys.{sorted_from_all_adjacent}
use Rattle.std.proofs.lemmas.Map.Lookups.{exact_unsigned}
use Rattle.std.proofs.lemmas.Map.Made.{IsDistinct-from_AllPairs, is_member-Decides}
use Rattle.std.proofs.lemmas.Map.Steps.{length-le_from_distinct_below}
use Rattle.std.proofs.lemmas.Option.{same_Some, slice_get-get_or, slice_get_within, get_or_from_slice_get}
use Rattle.ig_text.proofs.Lists.{at_from_contains, contains_from_at, mapped_in, unmapped_in, none_in_nil}
use Rattle.ig_text.proofs.Once.{once_members}
use Rattle.ig_text.proofs.Orders.{below_or_at}
use Rattle.ig_text.proofs.Rising.{one_sorted}
use Rattle.ig_item.specs.WellKinded.{NoneTwice}
use Rattle.ig_item.specs.Ways.{WayTo, found, again}
use Rattle.ig_item.specs.declared.ways.Way.{Way}
use Rattle.ig_item.specs.declared.ways.Way.TheVariants as way
use Rattle.ig_item.specs.declared.ways.FurtherWay.{FurtherWay}
use Rattle.ig_forest_tables.specs.Orders.{entry_cmp, previous}
use Rattle.ig_forest.specs.CodeItemNodes.{AreNumbers, AreFromOne, AreSources, AreEntriesOf, AddsItem, WayFits, entry_by, further_entry}
use Rattle.ig_forest_live.specs.Rows.{item_at, row_of}
use Rattle.ig_forest_live.specs.Once.{IsOnce}
use Rattle.ig_forest_tables.specs.StoredItems.{StoredItem}
use Rattle.ig_forest_tables.specs.declared.entry.Entry.{Entry}
use Rattle.ig_forest_tables.specs.declared.entry.Entry.TheVariants.{Begin}
use Rattle.ig_forest_live.specs.declared.rows.ItemRow.{ItemRow}
use Rattle.ig_forest.specs.declared.item_nodes.Sources.{Sources}
use Rattle.ig_forest.proofs.TotalOrders.{entry_total}

-- different numbers below count are no more than that
pub few_numbers : (xs : List ℕ) (count : ℕ) → NoneTwice xs → ((k : ℕ) → Contains xs k → k < count) → length xs ≤ count
few_numbers xs count once below =
    length-le_from_distinct_below xs count (IsDistinct-from_AllPairs Decides-eqb xs apart)
    (λ q e. below q ((is_member-Decides Decides-eqb xs q).0 e))
  where
    apart : (i j d : ℕ) → i < j → j < length xs → get_or xs i d ≡ get_or xs j d → ⊥
    apart i j d l m same =
        let e = once i j (get_or xs j d) (slice_get-get_or xs i d (omega (arith, l, m)) ∙ ap Some same) (slice_get-get_or xs j d m) in
        omega (arith, e, l)

-- the first places have their numbers
pub record AreNumbersUpTo (order : List ℕ) (count : ℕ) (numbers : List ℕ) : Type 0 where
  pub below : (place k : ℕ) → place < count → slice_get order place ≡ Some k → slice_get numbers k ≡ Some place

module _ (order : List ℕ) (once : NoneTwice order) where
  pub numbers_begin : (numbers : List ℕ) → AreNumbersUpTo order 0 numbers
  numbers_begin numbers = record { below = λ p k lt at. absurd (omega (arith, lt)) }

  pub numbers_next : (numbers : List ℕ) (count d : ℕ) → count < length order → get_or order count d < length numbers →
      AreNumbersUpTo order count numbers →
      AreNumbersUpTo order (count + 1) (set numbers (get_or order count d) count)
  numbers_next numbers count d lt within so_far = record { below = below }
    where
      here : ℕ
      here = get_or order count d

      long : length (set numbers here count) ≡ length numbers
      long = length-set numbers here count

      kept : (p k : ℕ) → p < count → slice_get order p ≡ Some k → slice_get (set numbers here count) k ≡ Some p
      kept p k low at =
          let old = so_far.below p k low at in
          let inside = slice_get_within numbers k p old in
          let other : k ≡ here → ⊥ = λ e.
          let same = once p count here (at ∙ ap Some e) (slice_get-get_or order count d lt) in omega (arith, same, low) in
          slice_get-get_or (set numbers here count) k 0 (omega (arith, long, inside)) ∙
          ap Some (get_or-set_other numbers here k count 0 other ∙ get_or_from_slice_get numbers k p 0 old)

      below : (p k : ℕ) → p < count + 1 → slice_get order p ≡ Some k → slice_get (set numbers here count) k ≡ Some p
      below p k low at = elim (below_or_at p count low) [
        | inl lower ↦ kept p k lower at
        | inr same ↦
            let e : here ≡ k = get_or_from_slice_get order count k d (ap (slice_get order) (sym same) ∙ at) in
            ap (slice_get (set numbers here count)) (sym e) ∙ slice_get-get_or (set numbers here count) here 0 (omega (arith, long, within)) ∙
            ap Some (get_or-set_same numbers here count 0 within ∙ sym same)
      ]

  pub numbers_all : (numbers : List ℕ) (count : ℕ) → length order ≤ count → AreNumbersUpTo order count numbers → AreNumbers order numbers
  numbers_all numbers count le so_far place k at =
      so_far.below place k (let w = slice_get_within order place k at in omega (arith, w, le)) at

-- entries that are sorted by their previous items, one of each
pub sorted_once : (xs ys zs : List Entry) → AreFromOne xs → IsPermutation xs ys → IsSorted (λ e f. nat_cmp (previous e) (previous f)) ys →
    zs ≡ dedup (eq_by_cmp (λ e f. nat_cmp (previous e) (previous f))) ys → IsOnce entry_cmp xs zs
sorted_once xs ys zs one moved sorted is = record {
  members = λ e. (
    λ c. from e c,
    λ c.
        let (z, among, same) = unmapped_in previous zs (previous e) ((images (previous e)).1 (mapped_in previous xs e c)) in
        subst (Contains zs) (one z e (from z among) c same) among,
  );
  order =
      subst (λ (v : List Entry). IsStrictlySortedBy entry_cmp v) (sym is) (IsStrictlySortedBy-dedup entry_total (λ x y. refl) ys sorted);
}
  where
    images : (k : ℕ) → Contains (map previous zs) k ↔ Contains (map previous xs) k
    images = once_members previous nat_cmp_total exact_unsigned xs ys zs moved is

    from : (e : Entry) → Contains zs e → Contains xs e
    from e c =
        Contains-permutation ys xs e (IsPermutation-sym xs ys moved)
        (Contains-from_dedup (eq_by_cmp (λ x y. nat_cmp (previous x) (previous y))) ys e (subst (λ (z : List Entry). Contains z e) is c))

-- entries that rise are there once, in order
pub once_rising : (entries shown : List Entry) → shown ≡ entries → AllAdjacentBelow (λ e f. entry_cmp e f ≡ Less) shown (length shown) →
    IsOnce entry_cmp entries entries
once_rising entries shown is rising = record {
  members = λ e. (λ c. c, λ c. c);
  order =
      subst (λ (v : List Entry). IsStrictlySortedBy entry_cmp v) is
      (sorted_from_all_adjacent entry_total shown Begin (λ k lt. rising k Begin lt));
}

-- what is from that place on is it, or from the next one on
below_or_at_first : (k begin place : ℕ) → place + 1 ≡ begin → place ≤ k → (begin ≤ k) ⊎ (k ≡ place)
below_or_at_first k begin place next from = elim (below_or_at place k (omega (arith, from))) [
  | inl lt ↦ inl (omega (arith, lt, next))
  | inr at ↦ inr (sym at)
]

-- the entries of the further ways from that place on to before the other one
pub record AreGathered (s : Sources) (further : List FurtherWay) (begin end : ℕ) (es : List Entry) : Type 0 where
  pub members : (e : Entry) → Contains es e ↔ ((k : ℕ) × (more : FurtherWay) × (begin ≤ k) × (k < end) × (slice_get further k ≡ Some more) ×
      (e ≡ further_entry s more))

module _ (s : Sources) (further : List FurtherWay) where
  pub gathered_none : (place : ℕ) (es : List Entry) → es ≡ [] → AreGathered s further place place es
  gathered_none place es is = record {
    members = λ e. (
      λ c. absurd (none_in_nil e (subst (λ (v : List Entry). Contains v e) is c)),
      λ h. absurd (let low = h.2 in let high = h.3 in omega (arith, low, high)),
    );
  }

  -- a further place, on either side
  pub gathered_next : (begin end first last place : ℕ) (d : FurtherWay) (es more : List Entry) → place < length further →
      ((k : ℕ) → first ≤ k → k < last → ((begin ≤ k) × (k < end)) ⊎ (k ≡ place)) →
      ((k : ℕ) → begin ≤ k → k < end → (first ≤ k) × (k < last)) → first ≤ place → place < last →
      more ≡ es ++ further_entry s (get_or further place d) ∷ [] →
      AreGathered s further begin end es → AreGathered s further first last more
  gathered_next begin end first last place d es more lt cases kept low high is so_far = record {
    members = λ e. (
      λ c. elim (Contains-push_cases es new e (subst (λ (v : List Entry). Contains v e) is c)) [
        | inl old ↦
            let h = (so_far.members e).0 old in
            let within = kept h.0 h.2 h.3 in
            (h.0, h.1, within.0, within.1, h.4, h.5)
        | inr same ↦ (place, here, low, high, slice_get-get_or further place d lt, sym same)
      ],
      λ h. subst (λ (v : List Entry). Contains v e) (sym is) (added e h.0 h.1 h.2 h.3 h.4 h.5),
    );
  }
    where
      here : FurtherWay
      here = get_or further place d

      new : Entry
      new = further_entry s here

      added : (e : Entry) (k : ℕ) (way : FurtherWay) → first ≤ k → k < last → slice_get further k ≡ Some way → e ≡ further_entry s way →
          Contains (es ++ new ∷ []) e
      added e k way from to at e_is = elim (cases k from to) [
        | inl old ↦ Contains-append_left es (new ∷ []) e ((so_far.members e).1 (k, way, old.0, old.1, at, e_is))
        | inr same ↦
            let one : here ≡ way = get_or_from_slice_get further place way d (ap (slice_get further) (sym same) ∙ at) in
            subst (Contains (es ++ new ∷ [])) (ap (further_entry s) one ∙ sym e_is) (Contains-push es new)
      ]

  -- the place before the first one, or that behind the last one
  pub gathered_beside : (begin turn place first : ℕ) (d : FurtherWay) (es more : List Entry) → (place + 1 ≡ begin) ⊎ (place ≡ begin + turn) →
      place < length further → begin + turn ≤ length further → (begin ≤ place → first ≡ begin) → (place < begin → first ≡ place) →
      more ≡ es ++ further_entry s (get_or further place d) ∷ [] → AreGathered s further begin (begin + turn) es →
      (first + (turn + 1) ≤ length further) × AreGathered s further first (first + (turn + 1)) more
  gathered_beside begin turn place first d es more (inl before) there within same other is so_far =
      let here : first ≡ place = other (omega (arith, before)) in (
        omega (arith, here, before, within),
        gathered_next begin (begin + turn) first (first + (turn + 1)) place d es more there
            (λ k from to. elim (below_or_at_first k begin place before (omega (arith, from, here))) [
              | inl above ↦ inl (above, omega (arith, to, here, before))
              | inr at ↦ inr at
            ])
            (λ k from to. (omega (arith, from, here, before), omega (arith, to, here, before)))
            (omega (arith, here)) (omega (arith, here)) is so_far,
      )
  gathered_beside begin turn place first d es more (inr behind) there within same other is so_far =
      let here : first ≡ begin = same (omega (arith, behind)) in (
        omega (arith, here, behind, there),
        gathered_next begin (begin + turn) first (first + (turn + 1)) place d es more there
            (λ k from to. elim (below_or_at k (begin + turn) (omega (arith, to, here))) [
              | inl below ↦ inl (omega (arith, from, here), below)
              | inr at ↦ inr (omega (arith, at, behind))
            ])
            (λ k from to. (omega (arith, from, here), omega (arith, to, here)))
            (omega (arith, here, behind)) (omega (arith, here, behind)) is so_far,
      )

  pub gathered_all : (begin end : ℕ) (es : List Entry) → begin ≡ 0 → length further ≤ end → AreGathered s further begin end es →
      (e : Entry) → Contains es e ↔ ((more : FurtherWay) × Contains further more × (e ≡ further_entry s more))
  gathered_all begin end es none all gathered e = (
    λ c.
        let h = (gathered.members e).0 c in
        (h.1, contains_from_at further h.0 h.1 h.4, h.5),
    λ h.
        let at = at_from_contains further h.0 h.1 in
        let lt = slice_get_within further at.0 h.0 at.1 in
        (gathered.members e).1 (at.0, h.0, omega (arith, none), omega (arith, all, lt), at.1, h.2),
  )

-- the entry of the first way behind those of the further ones
module _ (s : Sources) (k position : ℕ) (first : Way) (at : slice_get s.links.now.ways.firsts k ≡ Some first) (further : List FurtherWay)
    (further_is : (more : FurtherWay) → Contains further more ↔ (Contains s.links.now.ways.further more × (more.item ≡ k)))
    (es : List Entry) (es_are : (e : Entry) → Contains es e ↔ ((more : FurtherWay) × Contains further more × (e ≡ further_entry s more))) where
  abbrev pub OfWay : Entry → Type 0
  OfWay e = (way : Way) × WayTo s.links.now.ways k way × (e ≡ entry_by s position way)

  back : (e : Entry) (way : Way) → WayTo s.links.now.ways k way → e ≡ entry_by s position way → Contains (es ++ entry_by s position first ∷ []) e
  back e way (found here) is =
      let same : first ≡ way = same_Some first way (sym at ∙ here) in
      let f : e ≡ entry_by s position first = is ∙ ap (entry_by s position) (sym same) in
      subst (Contains (es ++ entry_by s position first ∷ [])) (sym f) (Contains-push es (entry_by s position first))
  back e way (again more among item way_is) is =
      let f : e ≡ further_entry s more = is ∙ ap (entry_by s position) way_is in
      Contains-append_left es (entry_by s position first ∷ []) e ((es_are e).1 (more, (further_is more).1 (among, item), f))

  pub all_gathered : (e : Entry) → Contains (es ++ entry_by s position first ∷ []) e ↔ OfWay e
  all_gathered e = (
    λ c. elim (Contains-push_cases es (entry_by s position first) e c) [
      | inl old ↦
          let h = (es_are e).0 old in
          let more = (further_is h.0).0 h.1 in
          (way.Node h.0.prev h.0.done, again h.0 more.0 more.1 refl, h.2)
      | inr same ↦ (first, found at, sym same)
    ],
    λ h. back e h.0 h.1 h.2,
  )

module _ (s : Sources) (are : AreSources s) (k : ℕ) (live : Contains s.order.now k) where
  abbrev place_of : ℕ
  place_of = (item_at s.found.items.now k).position

  -- the entries of the ways to an item are from different previous items
  pub from_one : (es : List Entry) → ((e : Entry) → Contains es e → (way : Way) × WayTo s.links.now.ways k way × (e ≡ entry_by s place_of way)) →
      AreFromOne es
  from_one es of e f c d same =
      let (v, to_v, e_is) = of e c in
      let (w, to_w, f_is) = of f d in
      e_is ∙ are.one k place_of v w live to_v to_w (sym (ap previous e_is) ∙ same ∙ ap previous f_is) ∙ sym f_is

  pub further_fits : (further : List FurtherWay) → ((more : FurtherWay) → Contains further more ↔
      (Contains s.links.now.ways.further more × (more.item ≡ k))) →
      (more : FurtherWay) → Contains further more → WayFits s (way.Node more.prev more.done)
  further_fits further is more c =
      let h = (is more).0 c in are.fit k (way.Node more.prev more.done) live (again more h.0 h.1 refl)

  -- the row of the item with the entries of its ways
  module _ (row : ItemRow) (row_is : row ≡ row_of s.found.items.now s.found.keys.now s.found.places.now k) (first : Way)
      (at : slice_get s.links.now.ways.firsts k ≡ Some first) (entry : Entry) (entry_is : entry ≡ entry_by s row.position first)
      (further : List FurtherWay)
      (further_is : (more : FurtherWay) → Contains further more ↔ (Contains s.links.now.ways.further more × (more.item ≡ k))) where
    entry_here : entry_by s place_of first ≡ entry
    entry_here = sym (entry_is ∙ ap (λ (r : ItemRow). entry_by s r.position first) row_is)

    members_of : (es more : List Entry) → more ≡ es ++ entry ∷ [] →
        ((e : Entry) → Contains es e ↔ ((way : FurtherWay) × Contains further way × (e ≡ further_entry s way))) →
        (e : Entry) → Contains more e ↔ ((way : Way) × WayTo s.links.now.ways k way × (e ≡ entry_by s place_of way))
    members_of es more is es_are e =
        let both : es ++ entry_by s place_of first ∷ [] ≡ more = ap (λ (z : Entry). es ++ z ∷ []) entry_here ∙ sym is in
        let all = all_gathered s k place_of first at further further_is es es_are e in (
          λ c. all.0 (subst (λ (v : List Entry). Contains v e) (sym both) c),
          λ h. subst (λ (v : List Entry). Contains v e) both (all.1 h),
        )

    pub adds_one : length further ≡ 0 → (before after : List StoredItem) → after ≡ before ++ record { row = row; entries = entry ∷ [] } ∷ [] →
        AddsItem s k before after
    adds_one none before after is = record {
      stored = record { row = row; entries = entry ∷ [] };
      is =
          record {
            row = row_is;
            entries = record { members = members_of [] (entry ∷ []) refl no_more; order = one_sorted entry_cmp entry };
          };
      added = is;
    }
      where
        no_more : (e : Entry) → Contains [] e ↔ ((way : FurtherWay) × Contains further way × (e ≡ further_entry s way))
        no_more e = (λ c. absurd (let lt = c.1 in omega (arith, lt)), λ h. absurd (let lt = h.1.1 in omega (arith, lt, none)))

    module _ (es more : List Entry) (es_are : (e : Entry) → Contains es e ↔ ((way : FurtherWay) × Contains further way × (e ≡ further_entry s way)))
        (more_is : more ≡ es ++ entry ∷ []) where
      pub one_of_each : AreFromOne more
      one_of_each = from_one more (λ e c. (members_of es more more_is es_are e).0 c)

      pub adds_all : (sorted lent : List Entry) → IsOnce entry_cmp more sorted → lent ≡ sorted → (before after : List StoredItem) →
          after ≡ before ++ record { row = row; entries = lent } ∷ [] → AddsItem s k before after
      adds_all sorted lent once lent_is before after is = record {
        stored = record { row = row; entries = lent };
        is =
            record {
              row = row_is;
              entries =
                  subst (AreEntriesOf s k) (sym lent_is)
                  (record {
                    members = λ e.
                        let of = members_of es more more_is es_are e in
                        (λ c. of.0 ((once.members e).0 c), λ h. (once.members e).1 (of.1 h));
                    order = once.order;
                  });
            };
        added = is;
      }
