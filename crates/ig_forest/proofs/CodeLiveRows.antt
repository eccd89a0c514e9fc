-- The rows of a run's items by number, and of the live ones in order.
use Rattle.std.proofs.Common.{◌≡◌, ◌↔◌, ℕ, ◌<◌, List, [], true, Some, length, map, slice_get, Contains, refl, sym, ap, ◌∙◌, subst, arith}
use Rattle.std.specs.Prelude.{slice_index, slice_index_or}
use Rattle.std.proofs.lemmas.List.{length-map}
use Rattle.std.proofs.lemmas.List.Elements.{Contains-get_or}
use Rattle.std.proofs.lemmas.Option.{get_or_from_slice_get, slice_get-get_or, slice_get_within}
use Rattle.ig_text.specs.Input.{Input}
use Rattle.ig_text.proofs.Lists.{at_from_contains, get_within, unmapped_at, mapped_in, unmapped_in, mapped_at}
use Rattle.ig_expr.specs.declared.value.Value.{Value}
use Rattle.ig_item.specs.Items.{Item, IsComplete, root_instance}
use Rattle.ig_item.specs.Tables.{AreTables, HaveValues, Tables, instance_by, item_of, items_of}
use Rattle.ig_item.specs.WellKinded.{NoneTwice}
use Rattle.ig_item.specs.declared.core_grammar.Nonterminal.{Nonterminal}
use Rattle.ig_item.specs.declared.items.InstanceKey.{InstanceKey}
use Rattle.ig_forest_live.specs.Live.{IsLive}
use Rattle.ig_forest_live.specs.Lists.{ArePlaces}
use Rattle.ig_forest.specs.CodeTables.{AreRows, RowFits, item_by}
use Rattle.ig_forest_tables.specs.Tables.{list_at}
use Rattle.ig_forest_live.specs.Rows.{row_cmp}
use Rattle.ig_forest_live.specs.Rows.{AreApart, IsThere, item_at, key_at, no_item, no_key, number_cmp, row_of}
use Rattle.ig_forest_live.specs.LiveOrder.{AreLiveInOrder}
use Rattle.ig_forest_live.specs.Marks.{is_live}
use Rattle.ig_forest.specs.CodeNodes.{MarkComplete, rows_of}
use Rattle.ig_forest_live.specs.declared.mark.Mark.{Mark}
use Rattle.ig_forest_live.specs.declared.mark.Mark.TheVariants.{Complete}
use Rattle.ig_forest_live.specs.declared.rows.ItemRow.{ItemRow}
use Rattle.ig_forest.proofs.CodeGives.{complete_from_last, last_from_complete}
use Rattle.ig_forest.proofs.CodeLiveNumbers.{marked_within}
use Rattle.ig_forest.proofs.CodeSorted.{strict_map}

same_item : (x y : Item) → x.instance ≡ y.instance → x.alternative ≡ y.alternative → x.dot ≡ y.dot → x.env ≡ y.env →
    x.position ≡ y.position → x ≡ y
same_item x y p q r s t = λ i. record { instance = p i; alternative = q i; dot = r i; env = s i; position = t i }

module _ (tables : Tables) (keys : List InstanceKey) (lists : List (List Value)) (places : List ℕ) (are : AreTables tables)
    (instances : map (instance_by tables.environments) keys ≡ tables.instances) (values : HaveValues tables.environments keys)
    (placed : ArePlaces tables.environments lists places) where
  keys_long : length keys ≡ length tables.instances
  keys_long = sym (length-map keys (instance_by tables.environments)) ∙ ap length instances

  places_long : length places ≡ length tables.environments
  places_long = sym (length-map places (λ n. slice_get lists n)) ∙ ap length placed ∙ length-map tables.environments Some

  -- each environment stands at its place among the lists
  list_there : (n : ℕ) → n < length places → slice_get lists (slice_index places n) ≡ Some (slice_index_or tables.environments n [])
  list_there n lt =
      let here = mapped_at (λ p. slice_get lists p) places n (slice_index places n) (slice_get-get_or places n 0 lt) in
      let (list, at, is) = unmapped_at Some tables.environments n (slice_get lists (slice_index places n)) (sym (ap (λ z. slice_get z n) placed) ∙ here) in
      sym is ∙ ap Some (sym (get_or_from_slice_get tables.environments n list [] at))

  -- all that an item names is there
  pub are_there : (k : ℕ) → k < length tables.items → IsThere tables.items keys places k
  are_there k lt =
      let among = Contains-get_or tables.items k no_item lt in
      let instance = are.instances_there (item_at tables.items k) among in
      let env = are.environments_there (item_at tables.items k) among in
      let long = keys_long in
      let wide = places_long in
      let within : (item_at tables.items k).instance < length keys = omega (arith, instance, long) in
      let value = values (key_at keys (item_at tables.items k)) (Contains-get_or keys (item_at tables.items k).instance no_key within) in
      record { item = lt; instance = within; values = omega (arith, value, wide); env = omega (arith, env, wide) }

  -- a row is that of the item of its number
  row_item : (k : ℕ) → k < length tables.items → item_by lists (row_of tables.items keys places k) ≡ item_of tables (item_at tables.items k)
  row_item k lt =
      let there = are_there k lt in
      let x = item_at tables.items k in
      let key = key_at keys x in
      let at : slice_get tables.instances x.instance ≡ Some (instance_by tables.environments key) =
      ap (λ z. slice_get z x.instance) (sym instances) ∙
      mapped_at (instance_by tables.environments) keys x.instance key (slice_get-get_or keys x.instance no_key there.instance) in
      let named : slice_index_or tables.instances x.instance root_instance ≡ instance_by tables.environments key =
      get_or_from_slice_get tables.instances x.instance (instance_by tables.environments key) root_instance at in
      let valued : list_at lists (slice_index places key.env) ≡ slice_index_or tables.environments key.env [] =
      get_or_from_slice_get lists (slice_index places key.env) (slice_index_or tables.environments key.env []) [] (list_there key.env there.values) in
      let env : list_at lists (slice_index places x.env) ≡ slice_index_or tables.environments x.env [] =
      get_or_from_slice_get lists (slice_index places x.env) (slice_index_or tables.environments x.env []) [] (list_there x.env there.env) in
      let instance : (item_by lists (row_of tables.items keys places k)).instance ≡ instance_by tables.environments key =
      (λ i. record { nonterminal = key.nonterminal; values = valued i; start = key.start }) in
      same_item (item_by lists (row_of tables.items keys places k)) (item_of tables x) (instance ∙ sym named) refl refl env refl

  pub row_meant : (k : ℕ) (x : Item) → slice_get (items_of tables) k ≡ Some x → item_by lists (row_of tables.items keys places k) ≡ x
  row_meant k x at =
      let (s, at_s, is) = unmapped_at (item_of tables) tables.items k x at in
      row_item k (slice_get_within tables.items k s at_s) ∙ ap (item_of tables) (get_or_from_slice_get tables.items k s no_item at_s) ∙ is

  -- what a row names is there
  pub row_fits : (k : ℕ) → k < length tables.items → RowFits lists (row_of tables.items keys places k)
  row_fits k lt =
      let there = are_there k lt in
      let x = item_at tables.items k in
      let key = key_at keys x in
      record {
        values = slice_get_within lists (slice_index places key.env) (slice_index_or tables.environments key.env []) (list_there key.env there.values);
        env = slice_get_within lists (slice_index places x.env) (slice_index_or tables.environments x.env []) (list_there x.env there.env);
      }

  meant_at : (k : ℕ) → k < length tables.items → slice_get (items_of tables) k ≡ Some (item_of tables (item_at tables.items k))
  meant_at k lt = mapped_at (item_of tables) tables.items k (item_at tables.items k) (slice_get-get_or tables.items k no_item lt)

  -- the rows tell the items apart
  pub are_apart : NoneTwice (items_of tables) → AreApart tables.items keys places
  are_apart once j k within_j within_k same =
      once j k (item_of tables (item_at tables.items k))
      (meant_at j within_j ∙ ap Some (sym (row_item j within_j) ∙ ap (item_by lists) same ∙ row_item k within_k)) (meant_at k within_k)

  module _ (core : List Nonterminal) (text : Input) (marks : List Mark) (long : length marks ≡ length (items_of tables))
      (live : (k : ℕ) (x : Item) → slice_get (items_of tables) k ≡ Some x → (slice_get (map is_live marks) k ≡ Some true) ↔ IsLive core text x) where
    marked_item : (k : ℕ) → k < length marks → (x : Item) × (slice_get (items_of tables) k ≡ Some x)
    marked_item k lt = get_within (items_of tables) k (let l = long in omega (arith, lt, l))

    pub there_by_marks : (k : ℕ) → k < length marks → IsThere tables.items keys places k
    there_by_marks k lt = are_there k (let l = long in let m = length-map tables.items (item_of tables) in omega (arith, lt, l, m))

    -- marks of items are marks of their rows
    pub mark_complete : ((k : ℕ) (x : Item) → slice_get (items_of tables) k ≡ Some x →
        (slice_get marks k ≡ Some Complete) ↔ (IsLive core text x × IsComplete core x)) → MarkComplete core tables.items keys places marks
    mark_complete complete k = (
      λ e.
          let (x, at) = marked_item k (slice_get_within marks k Complete e) in
          let is = (complete k x at).0 e in (
            (live k x at).1 is.0,
            last_from_complete core lists (row_of tables.items keys places k) (subst (IsComplete core) (sym (row_meant k x at)) is.1),
          ),
      λ h.
          let (x, at) = marked_item k (marked_within marks k h.0) in
          (complete k x at).1
          ((live k x at).0 h.0, subst (IsComplete core) (row_meant k x at) (complete_from_last core lists (row_of tables.items keys places k) h.1)),
    )

    -- the rows in order are those of the live items
    pub live_rows : (order : List ℕ) → AreLiveInOrder marks (number_cmp tables.items keys places) order →
        ((x : Item) → IsLive core text x → Contains (items_of tables) x) →
        AreRows (IsLive core text) lists (rows_of tables.items keys places order)
    live_rows order in_order all = record {
      fit =
          λ row c.
          let (k, among, is) = unmapped_in (row_of tables.items keys places) order row c in
          let lt = there_by_marks k (marked_within marks k ((in_order.members k).0 among)) in
          subst (RowFits lists) is (row_fits k lt.item);
      sound =
          λ row c.
          let (k, among, is) = unmapped_in (row_of tables.items keys places) order row c in
          let marked = (in_order.members k).0 among in
          let (x, at) = marked_item k (marked_within marks k marked) in
          subst (λ (z : ItemRow). IsLive core text (item_by lists z)) is (subst (IsLive core text) (sym (row_meant k x at)) ((live k x at).0 marked));
      complete =
          λ x l.
          let (k, at) = at_from_contains (items_of tables) x (all x l) in (
            row_of tables.items keys places k,
            mapped_in (row_of tables.items keys places) order k ((in_order.members k).1 ((live k x at).1 l)),
            row_meant k x at,
          );
      order =
          strict_map (row_of tables.items keys places) (number_cmp tables.items keys places) row_cmp (λ k. Unit {0}) (λ j k p q e. e) order (λ k c. tt)
          in_order.order_is;
    }
