-- The first complete item of the root over the whole text.
use Rattle.std.proofs.Common.{◌≡◌, ◌↔◌, inl, inr, ℕ, ◌+◌, ◌<◌, ◌≤◌, List, [], ◌==◌, Some, Bool, true, false, length, get_or, slice_get, Contains, sym, ap, ◌∙◌, subst, arith}
use Rattle.std.specs.Prelude.{IsTrue, slice_index_or}
use Rattle.std.proofs.lemmas.Bool.Decides.{nat_tests}
use Rattle.std.proofs.lemmas.List.{length-map, nil_from_length}
use Rattle.std.proofs.lemmas.List.Elements.{Contains-get_or}
use Rattle.std.proofs.lemmas.Option.{get_or_from_slice_get, same_Some, slice_get-get_or, slice_get_within}
use Rattle.ig_text.specs.Input.{Input}
use Rattle.ig_text.proofs.Lists.{at_from_contains, contains_from_at, mapped_at}
use Rattle.ig_text.proofs.Orders.{below_or_at, le_or_lt}
use Rattle.ig_item.specs.Gives.{Completes, NodeKey}
use Rattle.ig_item.specs.Items.{Item, Reachable, RootIsComplete, root_instance}
use Rattle.ig_item.specs.Recorded.{IsRecorded, Recording}
use Rattle.ig_item.specs.Tables.{AreTables, Tables, instance_of, item_of, items_of}
use Rattle.ig_item.specs.Ways.{IsEnd}
use Rattle.ig_item.specs.declared.core_grammar.Nonterminal.{Nonterminal}
use Rattle.ig_item.specs.declared.items.Instance.{Instance}
use Rattle.ig_item.specs.declared.items.InstanceView.{InstanceView}
use Rattle.ig_item.specs.declared.items.Item as stored
use Rattle.ig_forest_live.specs.Live.{root_key}
use Rattle.ig_forest_live.specs.FirstRoot.{IsFirstRoot}

abbrev key_to : ℕ → NodeKey
key_to end = record { instance = root_instance; end = end }

-- what tells the root
module _ (view : InstanceView) where
  pub is_the_root : view.nonterminal ≤ 0 → view.start ≤ 0 → view.values.now ≡ [] → instance_of view ≡ root_instance
  is_the_root n s v =
      let a : view.nonterminal ≡ 0 = omega (arith, n) in
      let b : view.start ≡ 0 = omega (arith, s) in
      λ i. record { nonterminal = a i; values = v i; start = b i }

is_zero : (n : ℕ) (b : Bool) → b ≡ (n == 0) → b ≡ true → n ≡ 0
is_zero n b e t = grind (arith, nat_tests)

pub told_by_values : (view : InstanceView) (b : Bool) → view.nonterminal ≤ 0 → view.start ≤ 0 → b ≡ (length view.values.now == 0) →
    IsTrue b ↔ (instance_of view ≡ root_instance)
told_by_values view b n s is = (
  λ t. is_the_root view n s (nil_from_length view.values.now (is_zero (length view.values.now) b is t)),
  λ e. is ∙ ap (λ (i : Instance). length i.values == 0) e,
)

-- an instance by its number
pub root_by_view : (instances : List Instance) (n : ℕ) (view : InstanceView) (b : Bool) → Some (instance_of view) ≡ slice_get instances n →
    IsTrue b ↔ (instance_of view ≡ root_instance) → IsTrue b ↔ (slice_index_or instances n root_instance ≡ root_instance)
root_by_view instances n view b at told =
    let same : slice_index_or instances n root_instance ≡ instance_of view = get_or_from_slice_get instances n (instance_of view) root_instance
    (sym at) in
    (λ t. same ∙ told.0 t, λ e. told.1 (sym same ∙ e))

-- the loop over the items
module _ (r : Recording) (is : IsRecorded r) where
  abbrev Known : Item → Type 0
  Known = Reachable r.core r.text

  abbrev pub IsRootEnd : ℕ → Type 0
  IsRootEnd k = IsEnd r.core Known (items_of r.tables) (root_key r.text) k

  pub found_root : (k : ℕ) (x : stored.Item) → slice_get r.tables.items k ≡ Some x → Completes r.core (item_of r.tables x) (root_key r.text) →
      IsRootEnd k
  found_root k x at c = record {
    item = item_of r.tables x;
    there = mapped_at (item_of r.tables) r.tables.items k x at;
    is_known = (is.reachable (item_of r.tables x)).0 (contains_from_at (items_of r.tables) k (item_of r.tables x)
        (mapped_at (item_of r.tables) r.tables.items k x at));
    completes = c;
  }

  pub no_root_before : (k : ℕ) (x : stored.Item) → slice_get r.tables.items k ≡ Some x →
      (Completes r.core (item_of r.tables x) (root_key r.text) → ⊥) →
      ((j : ℕ) → j < k → IsRootEnd j → ⊥) → (j : ℕ) → j < k + 1 → IsRootEnd j → ⊥
  no_root_before k x at not before j lt e =
      elim (below_or_at j k lt) [
        | inl low ↦ before j low e
        | inr same ↦
            let here = mapped_at (item_of r.tables) r.tables.items k x at in
            let item : e.item ≡ item_of r.tables x = same_Some e.item (item_of r.tables x)
            (sym e.there ∙ ap (slice_get (items_of r.tables)) same ∙ here) in
            not (subst (λ (z : Item). Completes r.core z (root_key r.text)) item e.completes)
      ]

  pub is_first_root : (k : ℕ) (x : stored.Item) → slice_get r.tables.items k ≡ Some x → Completes r.core (item_of r.tables x) (root_key r.text) →
      ((j : ℕ) → j < k → IsRootEnd j → ⊥) → IsFirstRoot r k
  is_first_root k x at c before = record {
    end = found_root k x at c;
    least = λ j e. not_below j e;
  }
    where
      not_below : (j : ℕ) → IsRootEnd j → k ≤ j
      not_below j e = elim (le_or_lt k j) [ inl le ↦ le | inr lt ↦ absurd (before j lt e) ]

  pub no_root : (k : ℕ) → length r.tables.items ≤ k → ((j : ℕ) → j < k → IsRootEnd j → ⊥) → RootIsComplete r.core r.text → ⊥
  no_root k le before root =
      let (j, at) = at_from_contains (items_of r.tables) root.item ((is.reachable root.item).1 root.reachable) in
      let lt = slice_get_within (items_of r.tables) j root.item at in
      let n = length-map r.tables.items (item_of r.tables) in
      before j (omega (arith, lt, n, le))
      (record {
        item = root.item;
        there = at;
        is_known = root.reachable;
        completes = record { complete = root.root.complete; instance = root.root.of_root; end = root.to_end };
      })

  -- what the code reads
  pub item_read : (items : List stored.Item) (k : ℕ) (d : stored.Item) → items ≡ r.tables.items → k < length items →
      slice_get r.tables.items k ≡ Some (get_or items k d)
  item_read items k d items_are lt = ap (λ (z : List stored.Item). slice_get z k) (sym items_are) ∙ slice_get-get_or items k d lt

-- the number of an item of a recording names an instance
pub instance_read : (r : Recording) (tables : Tables) (items : List stored.Item) (k : ℕ) (d : stored.Item) → tables ≡ r.tables →
    items ≡ tables.items → AreTables tables →
    k < length items → (get_or items k d).instance < length tables.instances
instance_read r tables items k d tables_are items_are are lt =
    are.instances_there (get_or items k d) (subst (λ (z : List stored.Item). Contains z (get_or items k d)) items_are (Contains-get_or items k d lt))

-- the test of the code at an item
module _ (r : Recording) (is : IsRecorded r) (tables : Tables) (items : List stored.Item) (core : List Nonterminal) (text : Input) (end : ℕ)
    (tables_are : tables ≡ r.tables) (items_are : items ≡ tables.items) (core_is : core ≡ r.core) (text_is : text ≡ r.text)
    (end_is : end ≡ length text.characters)
    (k : ℕ) (d : stored.Item) (lt : k < length items) (b : Bool) (told : IsTrue b ↔
    Completes core (item_of tables (get_or items k d)) (key_to end)) where
  read : slice_get r.tables.items k ≡ Some (get_or items k d)
  read = item_read r is items k d (items_are ∙ ap (λ (z : Tables). z.items) tables_are) lt

  moved : Completes core (item_of tables (get_or items k d)) (key_to end) ≡ Completes r.core (item_of r.tables (get_or items k d)) (root_key r.text)
  moved =
      let ends : end ≡ length r.text.characters = end_is ∙ ap (λ (z : Input). length z.characters) text_is in
      λ i. Completes (core_is i) (item_of (tables_are i) (get_or items k d)) (key_to (ends i))

  pub first_here : b ≡ true → ((j : ℕ) → j < k → IsRootEnd r is j → ⊥) → IsFirstRoot r k
  first_here t before = is_first_root r is k (get_or items k d) read (subst (λ (T : Type 0). T) moved (told.0 t)) before

  pub none_here : b ≡ false → ((j : ℕ) → j < k → IsRootEnd r is j → ⊥) → (j : ℕ) → j < k + 1 → IsRootEnd r is j → ⊥
  none_here f before =
      no_root_before r is k (get_or items k d) read
      (λ c. let t : b ≡ true = told.1 (subst (λ (T : Type 0). T) (sym moved) c) in cc) before
