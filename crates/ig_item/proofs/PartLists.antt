-- Lists that stand side by side in one list, which grows at its end.
use Rattle.std.proofs.Common.{◌≡◌, ℕ, zero, suc, ◌+◌, List, [], ◌∷◌, ◌++◌, Some, None, length, map, Contains, slice_get, ⊎_elim, sym, ap, ◌∙◌, subst, arith, length-append}
use Rattle.std.specs.Prelude.{slice_range, option_map, slice_index_or}
use Rattle.std.proofs.lemmas.List.{map-append}
use Rattle.std.proofs.lemmas.Option.{slice_get-map, slice_get-get_or, get_or_from_slice_get}
use Rattle.ig_text.proofs.Lists.{at_from_contains, contains_from_at, sides, range_left, range_right, same_map, only_one}
use Rattle.ig_expr.specs.declared.value.Value.{Value}
use Rattle.ig_item.specs.declared.environment_table.Part.{Part}
use Rattle.ig_item.specs.declared.items.Instance.{Instance}
use Rattle.ig_item.specs.declared.items.InstanceKey.{InstanceKey}
use Rattle.ig_item.specs.Tables.{HaveValues, instance_by}
use Rattle.ig_item.specs.Parts.{values_in, IsPartOf, ArePartsOf}

module _ {X : Type 0} where
  -- a member of a list with one more at its end
  pub of_pushed : (P : X → Type 0) (xs : List X) (y x : X) → ((z : X) → Contains xs z → P z) → P y → Contains (xs ++ y ∷ []) x → P x
  of_pushed P xs y x each last c =
      let at = at_from_contains (xs ++ y ∷ []) x c in
      ⊎_elim (λ (e : slice_get xs at.0 ≡ Some x). each x (contains_from_at xs at.0 x e))
      (λ (h : (m : ℕ) × (at.0 ≡ length xs + m) × (slice_get (y ∷ []) m ≡ Some x)). subst P (only_one y x h.0 h.2) last)
      (sides xs (y ∷ []) at.0 x at.1)

-- parts of values that grow
pub part_left : (values more : List Value) (part : Part) → IsPartOf values part → IsPartOf (values ++ more) part
part_left values more part p =
    record { onward = p.onward; within = let e = length-append values more in omega (arith, e, p.within) }

pub parts_left : (values more : List Value) (parts : List Part) → ArePartsOf values parts → ArePartsOf (values ++ more) parts
parts_left values more parts are part c = part_left values more part (are part c)

pub part_right : (values more : List Value) (b e : ℕ) → b ≡ length values → e ≡ length values + length more →
    IsPartOf (values ++ more) (record { begin = b; end = e })
part_right values more b e b_is e_is =
    record { onward = omega (arith, b_is, e_is); within = let n = length-append values more in omega (arith, e_is, n) }

pub parts_pushed : (values more : List Value) (parts : List Part) (b e : ℕ) → ArePartsOf values parts → b ≡ length values →
    e ≡ length values + length more → ArePartsOf (values ++ more) (parts ++ record { begin = b; end = e } ∷ [])
parts_pushed values more parts b e are b_is e_is part c =
    of_pushed (IsPartOf (values ++ more)) parts (record { begin = b; end = e }) part (parts_left values more parts are)
    (part_right values more b e b_is e_is) c

-- the lists stay as values are added
pub lists_left : (values more : List Value) (parts : List Part) → ArePartsOf values parts →
    map (values_in (values ++ more)) parts ≡ map (values_in values) parts
lists_left values more parts are =
    same_map (values_in (values ++ more)) (values_in values) parts
    (λ part c. let p = are part c in range_left values more part.begin part.end p.onward p.within)

-- a list is added
pub lists_pushed : (values more : List Value) (parts : List Part) (b e : ℕ) → ArePartsOf values parts → b ≡ length values →
    e ≡ length values + length more →
    map (values_in (values ++ more)) (parts ++ record { begin = b; end = e } ∷ []) ≡ map (values_in values) parts ++ more ∷ []
lists_pushed values more parts b e are b_is e_is =
    let m = map-append (values_in (values ++ more)) parts (record { begin = b; end = e } ∷ []) in
    let l = lists_left values more parts are in
    let r = range_right values more b e b_is e_is in
    m ∙ ap (λ (zs : List (List Value)). zs ++ slice_range (values ++ more) b e ∷ []) l ∙
    ap (λ (z : List Value). map (values_in values) parts ++ z ∷ []) r

-- the list of a part
pub list_at : (values : List Value) (parts : List Part) (k : ℕ) (part : Part) → slice_get parts k ≡ Some part →
    slice_get (map (values_in values) parts) k ≡ Some (values_in values part)
list_at values parts k part e = slice_get-map (values_in values) parts k ∙ ap (option_map (values_in values)) e

pub part_within : (values vs : List Value) (parts ps : List Part) (k : ℕ) (part : Part) → ArePartsOf values parts → vs ≡ values →
    ps ≡ parts → Some part ≡ slice_get ps k → IsPartOf vs part
part_within values vs parts ps k part are vs_is ps_is e =
    subst (λ (z : List Value). IsPartOf z part) (sym vs_is)
    (are part (contains_from_at parts k part (ap (λ (z : List Part). slice_get z k) (sym ps_is) ∙ sym e)))

pub values_got : (values vs ws : List Value) (parts ps : List Part) (k : ℕ) (part : Part) (all : List (List Value)) →
    vs ≡ values → ps ≡ parts → Some part ≡ slice_get ps k → ws ≡ values_in vs part → map (values_in values) parts ≡ all →
    Some ws ≡ slice_get all k
values_got values vs ws parts ps k part all vs_is ps_is e ws_is all_is =
    ap Some (ws_is ∙ ap (λ (z : List Value). values_in z part) vs_is) ∙
    sym (list_at values parts k part (ap (λ (z : List Part). slice_get z k) (sym ps_is) ∙ sym e)) ∙
    ap (λ (z : List (List Value)). slice_get z k) all_is

-- an instance whose values are in the table
pub instance_got : (environments : List (List Value)) (keys ks : List InstanceKey) (k : ℕ) (key : InstanceKey) (values : List Value)
    (all : List Instance) → ks ≡ keys → Some key ≡ slice_get ks k → Some values ≡ slice_get environments key.env →
    map (instance_by environments) keys ≡ all →
    Some (record { nonterminal = key.nonterminal; values = values; start = key.start }) ≡ slice_get all k
instance_got environments keys ks k key values all ks_is e v all_is =
    let at : slice_get keys k ≡ Some key = ap (λ (z : List InstanceKey). slice_get z k) (sym ks_is) ∙ sym e in
    let values_are : slice_index_or environments key.env [] ≡ values = get_or_from_slice_get environments key.env values [] (sym v) in
    ap (λ (z : List Value). Some (record { nonterminal = key.nonterminal; values = z; start = key.start })) (sym values_are) ∙
    ap (option_map (instance_by environments)) (sym at) ∙ sym (slice_get-map (instance_by environments) keys k) ∙
    ap (λ (z : List Instance). slice_get z k) all_is

pub values_there : (environments : List (List Value)) (keys ks : List InstanceKey) (k : ℕ) (key : InstanceKey) →
    HaveValues environments keys → ks ≡ keys → Some key ≡ slice_get ks k → None ≡ slice_get environments key.env → ⊥
values_there environments keys ks k key have ks_is e none =
    let at : slice_get keys k ≡ Some key = ap (λ (z : List InstanceKey). slice_get z k) (sym ks_is) ∙ sym e in
    let lt = have key (contains_from_at keys k key at) in
    let some = slice_get-get_or environments key.env [] lt in
    let no : None ≡ Some (slice_index_or environments key.env []) = none ∙ some in
    cc

-- tables that are as they were
pub lists_same : (values vs more : List Value) (parts ps : List Part) (all : List (List Value)) → ArePartsOf values parts →
    vs ≡ values ++ more → ps ≡ parts → map (values_in values) parts ≡ all → map (values_in vs) ps ≡ all
lists_same values vs more parts ps all are vs_is ps_is all_is =
    ap (λ (z : List Part). map (values_in vs) z) ps_is ∙ ap (λ (z : List Value). map (values_in z) parts) vs_is ∙
    lists_left values more parts are ∙ all_is

pub parts_more : (values vs more : List Value) (parts ps : List Part) (b e : ℕ) → ArePartsOf values parts →
    b ≡ length values → e ≡ length values + length more → vs ≡ values ++ more →
    ps ≡ parts ++ record { begin = b; end = e } ∷ [] → ArePartsOf vs ps
parts_more values vs more parts ps b e are b_is e_is vs_is ps_is =
    subst (λ (z : List Value). ArePartsOf z ps) (sym vs_is)
    (subst (ArePartsOf (values ++ more)) (sym ps_is) (parts_pushed values more parts b e are b_is e_is))

pub lists_more : (values vs more : List Value) (parts ps : List Part) (b e : ℕ) (all : List (List Value)) → ArePartsOf values parts →
    b ≡ length values → e ≡ length values + length more → vs ≡ values ++ more →
    ps ≡ parts ++ record { begin = b; end = e } ∷ [] → map (values_in values) parts ≡ all →
    map (values_in vs) ps ≡ all ++ more ∷ []
lists_more values vs more parts ps b e all are b_is e_is vs_is ps_is all_is =
    ap (λ (z : List Part). map (values_in vs) z) ps_is ∙
    ap (λ (z : List Value). map (values_in z) (parts ++ record { begin = b; end = e } ∷ [])) vs_is ∙
    lists_pushed values more parts b e are b_is e_is ∙ ap (λ (z : List (List Value)). z ++ more ∷ []) all_is
