-- Entries that stand side by side in one list, which grows at its end.
use Rattle.std.proofs.Common.{◌≡◌, inl, inr, ℕ, ◌+◌, List, [], ◌∷◌, ◌++◌, Some, None, length, map, Contains, slice_get, sym, ap, ◌∙◌, subst, arith, length-append}
use Rattle.std.specs.Prelude.{option_map}
use Rattle.std.proofs.lemmas.Option.{slice_get-map}
use Rattle.std.proofs.lemmas.List.{map-append}
use Rattle.std.proofs.lemmas.List.Elements.{Contains-push_cases}
use Rattle.ig_text.proofs.Lists.{contains_from_at, range_left, range_right, same_map, mapped_at}
use Rattle.ig_forest_tables.specs.declared.entry.Entry.{Entry}
use Rattle.ig_forest_live.specs.declared.rows.ItemRow.{ItemRow}
use Rattle.ig_forest_tables.specs.declared.item_table.Part.{Part}
use Rattle.ig_forest_tables.specs.StoredItems.{StoredItem, entries_in, item_in, IsPartOf, ArePartsOf}

pub no_parts : (entries : List Entry) (parts : List Part) → parts ≡ [] → ArePartsOf entries parts
no_parts entries parts none part c = let d = subst (λ (z : List Part). Contains z part) none c in absurd (let lt = d.1 in omega (arith, lt))

pub no_items : (entries : List Entry) (parts : List Part) → parts ≡ [] → map (item_in entries) parts ≡ []
no_items entries parts none = ap (map (item_in entries)) none

-- items as entries are added
pub items_left : (entries more : List Entry) (parts : List Part) → ArePartsOf entries parts →
    map (item_in (entries ++ more)) parts ≡ map (item_in entries) parts
items_left entries more parts are =
    same_map (item_in (entries ++ more)) (item_in entries) parts
    (λ part c.
    let p = are part c in
    ap (λ (z : List Entry). record { row = part.row; entries = z }) (range_left entries more part.begin part.end p.onward p.within))

pub parts_left : (entries es more : List Entry) (parts ps : List Part) → ArePartsOf entries parts → es ≡ entries ++ more → ps ≡ parts → ArePartsOf es ps
parts_left entries es more parts ps are es_is ps_is part c =
    let p = are part (subst (λ (z : List Part). Contains z part) ps_is c) in
    subst (λ (z : List Entry). IsPartOf z part) (sym es_is)
    (record { onward = p.onward; within = let n = length-append entries more in let w = p.within in omega (arith, n, w) })

-- a part is added
pub parts_more : (entries es more : List Entry) (parts ps : List Part) (row : ItemRow) (b e : ℕ) → ArePartsOf entries parts →
    b ≡ length entries → e ≡ length entries + length more → es ≡ entries ++ more →
    ps ≡ parts ++ record { row = row; begin = b; end = e } ∷ [] → ArePartsOf es ps
parts_more entries es more parts ps row b e are b_is e_is es_is ps_is part c =
    let n = length-append entries more in
    let new : Part = record { row = row; begin = b; end = e } in
    subst (λ (z : List Entry). IsPartOf z part) (sym es_is)
    (elim (Contains-push_cases parts new part (subst (λ (z : List Part). Contains z part) ps_is c)) [
      | inl old ↦ let p = are part old in let w = p.within in record { onward = p.onward; within = omega (arith, n, w) }
      | inr same ↦
          subst (λ (z : Part). IsPartOf (entries ++ more) z) same
          (record { onward = omega (arith, b_is, e_is); within = omega (arith, e_is, n) })
    ])

pub items_more : (entries es more : List Entry) (parts ps : List Part) (row : ItemRow) (b e : ℕ) (all : List StoredItem) → ArePartsOf entries parts →
    b ≡ length entries → e ≡ length entries + length more → es ≡ entries ++ more →
    ps ≡ parts ++ record { row = row; begin = b; end = e } ∷ [] → map (item_in entries) parts ≡ all →
    map (item_in es) ps ≡ all ++ record { row = row; entries = more } ∷ []
items_more entries es more parts ps row b e all are b_is e_is es_is ps_is all_is =
    let new : Part = record { row = row; begin = b; end = e } in
    let shown : List Entry → StoredItem = λ z. record { row = row; entries = z } in
    ap (λ (z : List Part). map (item_in es) z) ps_is ∙ ap (λ (z : List Entry). map (item_in z) (parts ++ new ∷ [])) es_is ∙
    map-append (item_in (entries ++ more)) parts (new ∷ []) ∙
    ap (λ (zs : List StoredItem). zs ++ item_in (entries ++ more) new ∷ []) (items_left entries more parts are) ∙
    ap (λ (z : List Entry). map (item_in entries) parts ++ shown z ∷ []) (range_right entries more b e b_is e_is) ∙
    ap (λ (zs : List StoredItem). zs ++ shown more ∷ []) all_is

-- what is read
pub part_within : (entries es : List Entry) (parts ps : List Part) (k : ℕ) (part : Part) → ArePartsOf entries parts → es ≡ entries →
    ps ≡ parts → Some part ≡ slice_get ps k → IsPartOf es part
part_within entries es parts ps k part are es_is ps_is e =
    subst (λ (z : List Entry). IsPartOf z part) (sym es_is)
    (are part (contains_from_at parts k part (ap (λ (z : List Part). slice_get z k) (sym ps_is) ∙ sym e)))

pub item_got : (entries es got : List Entry) (parts ps : List Part) (k : ℕ) (part : Part) (all : List StoredItem) →
    es ≡ entries → ps ≡ parts → Some part ≡ slice_get ps k → got ≡ entries_in es part → map (item_in entries) parts ≡ all →
    Some (record { row = part.row; entries = got }) ≡ slice_get all k
item_got entries es got parts ps k part all es_is ps_is e got_is all_is =
    let shown : List Entry → StoredItem = λ z. record { row = part.row; entries = z } in
    ap (λ (z : List Entry). Some (shown z)) (got_is ∙ ap (λ (z : List Entry). entries_in z part) es_is) ∙
    sym (mapped_at (item_in entries) parts k part (ap (λ (z : List Part). slice_get z k) (sym ps_is) ∙ sym e)) ∙
    ap (λ (z : List StoredItem). slice_get z k) all_is

pub item_lacks : (entries : List Entry) (parts ps : List Part) (k : ℕ) (all : List StoredItem) → ps ≡ parts → None ≡ slice_get ps k →
    map (item_in entries) parts ≡ all → None ≡ slice_get all k
item_lacks entries parts ps k all ps_is e all_is =
    sym (slice_get-map (item_in entries) parts k ∙ ap (option_map (item_in entries)) (ap (λ (z : List Part). slice_get z k) (sym ps_is) ∙ sym e)) ∙
    ap (λ (z : List StoredItem). slice_get z k) all_is
