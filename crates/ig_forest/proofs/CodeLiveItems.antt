-- The live items of what was recorded make the reduced forest.
use Rattle.std.proofs.Common.{◌≡◌, ◌↔◌, ℕ, ◌<◌, List, Some, true, Bor, length, map, slice_get, Contains, refl, sym, ap, ◌∙◌, subst, subst₂, arith}
use Rattle.std.specs.Prelude.{slice_index}
use Rattle.std.proofs.lemmas.List.{length-map}
use Rattle.std.proofs.lemmas.Option.{slice_get_within, get_or_from_slice_get}
use Rattle.ig_text.specs.Input.{Input}
use Rattle.ig_text.proofs.Lists.{at_from_contains, get_within, contains_from_at, unmapped_at, mapped_in, mapped_at, map_twice}
use Rattle.ig_text.proofs.Pairwise.{same_length, each_mapped, each_right}
use Rattle.ig_text.proofs.Rising.{one_place}
use Rattle.ig_text.specs.Pairwise.{Each}
use Rattle.ig_expr.specs.declared.value.Value.{Value}
use Rattle.ig_item.specs.Laws.{EnvironmentsFit, StandsBeforeOne}
use Rattle.ig_item.specs.WellKinded.{IsWellKinded, NoneTwice}
use Rattle.ig_item.specs.Items.{Item, Reachable}
use Rattle.ig_item.specs.Gives.{NodeKey}
use Rattle.ig_item.specs.Recorded.{AreReachable, IsRecorded, Recording}
use Rattle.ig_item.specs.Tables.{AreTables, HaveValues, Tables, instance_by, items_of, item_of}
use Rattle.ig_item.specs.Ways.{AreWays, IsFirstEnd, WayTo}
use Rattle.ig_item.specs.declared.ways.Way.{Way}
use Rattle.ig_item.specs.declared.core_grammar.Nonterminal.{Nonterminal}
use Rattle.ig_item.specs.declared.items.Item as stored
use Rattle.ig_forest_live.specs.Live as live
use Rattle.ig_forest_live.specs.Live.{IsLive}
use Rattle.ig_forest_tables.specs.Orders.{choice_cmp, node_cmp}
use Rattle.ig_forest.specs.Reduced.{IsEntry, IsItemNode, IsReduced}
use Rattle.ig_forest_live.specs.Live.{root_key}
use Rattle.ig_forest_tables.specs.Tables.{FitsTables, forest_by, item_node_by}
use Rattle.ig_forest.specs.CodeItemNodes.{AreSources, AreNumbers, IsStoredItem, entry_by}
use Rattle.ig_forest.specs.CodeLiveItems.{AreFound, AreLiveItems, items_in, lists_in}
use Rattle.ig_forest_live.specs.Rows.{AreApart, IsThere, item_at, number_cmp, row_of}
use Rattle.ig_forest_live.specs.LiveOrder.{AreLiveInOrder}
use Rattle.ig_forest_live.specs.Marks.{is_live}
use Rattle.ig_forest_tables.specs.StoredNodes.{rows_in, StoredNode}
use Rattle.ig_forest.specs.CodeNodes.{AreNodesWith, MarkComplete, rows_of}
use Rattle.ig_forest_tables.specs.StoredItems.{StoredItem}
use Rattle.ig_forest_live.specs.Lists.{AreLists, ArePlaces}
use Rattle.ig_forest.specs.CodeTables.{AreRows, RowFits, item_by, key_by}
use Rattle.ig_forest_live.specs.Marks.{AreMarks}
use Rattle.ig_forest_live.specs.Links.{IsSameRun}
use Rattle.ig_forest.specs.declared.builder.LiveItems.{LiveItems}
use Rattle.ig_forest_live.specs.declared.found.Found.{Found}
use Rattle.ig_forest_live.specs.declared.mark.Mark.{Mark}
use Rattle.ig_forest_tables.specs.declared.entry.Entry.{Entry}
use Rattle.ig_forest.specs.declared.item_nodes.Sources.{Sources}
use Rattle.ig_forest_live.specs.declared.rows.ItemRow.{ItemRow}
use Rattle.ig_forest.proofs.Liveness.{live_is_reachable}
use Rattle.ig_forest.proofs.TotalOrders.{node_total}
use Rattle.ig_forest.proofs.CodeItemNodes.{few_numbers}
use Rattle.ig_forest.proofs.CodeLiveNumbers.{number_total}
use Rattle.ig_forest.proofs.CodeLiveRows as rows
use Rattle.ig_forest.proofs.CodeMembers.{are_items}
use Rattle.ig_forest.proofs.CodeNodesReduced.{each_node, name_within, named, node_numbered, nodes_are, nodes_listed, nodes_named}
use Rattle.ig_forest.proofs.CodeWayEntries.{AreOfRun, are_sources, entries_are}

-- what the builder reads of a recording
module _ (tables : Tables) (lists : List (List Value)) (found : Found) (are : AreFound tables lists found) where
  pub found_there : (marks : List Mark) → length marks ≡ length (items_of tables) → (k : ℕ) → k < length marks →
      IsThere found.items.now found.keys.now found.places.now k
  found_there marks long k lt =
      let n = length-map tables.items (item_of tables) in
      subst (λ (z : List stored.Item). IsThere z found.keys.now found.places.now k) (sym are.items)
      (rows.are_there tables found.keys.now lists found.places.now are.are_tables are.instances are.values are.places k (omega (arith, lt, long, n)))

  pub found_apart : NoneTwice (items_of tables) → AreApart found.items.now found.keys.now found.places.now
  found_apart once =
      subst (λ (z : List stored.Item). AreApart z found.keys.now found.places.now) (sym are.items)
      (rows.are_apart tables found.keys.now lists found.places.now are.are_tables are.instances are.values are.places once)

pub are_found : (tables : Tables) (found : Found) (lent read : List (Bor (List Value))) (places : List ℕ) → found.items.now ≡ tables.items →
    AreTables tables →
    map (instance_by tables.environments) found.keys.now ≡ tables.instances → HaveValues tables.environments found.keys.now → lent ≡ read →
    AreLists tables.environments (map (λ z. z.now) read) → found.places.now ≡ places → ArePlaces tables.environments (map (λ z. z.now) lent) places →
    AreFound tables (map (λ z. z.now) lent) found
are_found tables found lent read places items are instances values lent_is lists places_is placed = record {
  items = items;
  instances = instances;
  values = values;
  are_tables = are;
  are_lists = subst (λ (z : List (Bor (List Value))). AreLists tables.environments (map (λ y. y.now) z)) (sym lent_is) lists;
  places = subst (ArePlaces tables.environments (map (λ z. z.now) lent)) (sym places_is) placed;
}

pub are_live_items : (l : LiveItems) (r : Recording) (tables : Tables) (marks : List Mark) (order : List ℕ) → IsSameRun r l.links.now →
    IsRecorded l.links.now →
    l.core.now ≡ r.core → l.text.now ≡ r.text → tables ≡ r.tables → AreFound tables (lists_in l) l.found →
    AreMarks l.links.now.core l.links.now.text (items_of l.links.now.tables) marks → l.marks.now ≡ marks →
    AreLiveInOrder l.marks.now (number_cmp l.found.items.now l.found.keys.now l.found.places.now) order → l.order.now ≡ order → AreLiveItems l
are_live_items l r tables marks order same is core_is text_is tables_are found marked marks_are ordered order_is = record {
  reachable = subst₂ (λ (c : List Nonterminal) (t : Input). AreReachable c t s.tables) cores texts is.reachable;
  once = is.once;
  ways = subst₂ (λ (c : List Nonterminal) (t : Input). AreWays c t (items_of s.tables) s.ways) cores texts is.are_ways;
  found = subst (λ (z : Tables). AreFound z (lists_in l) l.found) (tables_are ∙ sym same.tables) found;
  marks =
      subst₂ (λ (c : List Nonterminal) (t : Input). AreMarks c t (items_of s.tables) l.marks.now) cores texts
      (subst (AreMarks s.core s.text (items_of s.tables)) (sym marks_are) marked);
  order = subst (AreLiveInOrder l.marks.now (number_cmp l.found.items.now l.found.keys.now l.found.places.now)) (sym order_is) ordered;
}
  where
    s : Recording
    s = l.links.now

    cores : s.core ≡ l.core.now
    cores = same.core ∙ sym core_is

    texts : s.text ≡ l.text.now
    texts = same.text ∙ sym text_is

module _ (l : LiveItems) (are : AreLiveItems l) where
  abbrev core : List Nonterminal
  core = l.core.now

  abbrev text : Input
  text = l.text.now

  abbrev items : List Item
  items = items_in l

  abbrev L : List (List Value)
  L = lists_in l

  abbrev row : ℕ → ItemRow
  row k = row_of l.found.items.now l.found.keys.now l.found.places.now k

  abbrev pub live_rows : List ItemRow
  live_rows = rows_of l.found.items.now l.found.keys.now l.found.places.now l.order.now

  abbrev placed : List Item
  placed = map (item_by L) live_rows

  -- the items that the code reads are those of the tables
  by_tables : (P : List stored.Item → Type 0) → P l.links.now.tables.items → P l.found.items.now
  by_tables P h = subst P (sym are.found.items) h

  pub few_marks : length l.marks.now < 4294967296
  few_marks =
      let a = are.marks.long in
      let f = are.found.are_tables.few_items in
      let n = length-map l.links.now.tables.items (item_of l.links.now.tables) in
      omega (arith, a, f, n)

  pub there_marks : (k : ℕ) → k < length l.marks.now → IsThere l.found.items.now l.found.keys.now l.found.places.now k
  there_marks k lt =
      by_tables (λ z. IsThere z l.found.keys.now l.found.places.now k)
      (rows.there_by_marks l.links.now.tables l.found.keys.now L l.found.places.now are.found.are_tables are.found.instances are.found.values
      are.found.places
      core text l.marks.now are.marks.long are.marks.live k lt)

  pub complete_marks : MarkComplete core l.found.items.now l.found.keys.now l.found.places.now l.marks.now
  complete_marks =
      by_tables (λ z. MarkComplete core z l.found.keys.now l.found.places.now l.marks.now)
      (rows.mark_complete l.links.now.tables l.found.keys.now L l.found.places.now are.found.are_tables are.found.instances are.found.values
      are.found.places
      core text l.marks.now are.marks.long are.marks.live are.marks.complete)

  pub are_live_rows : AreRows (IsLive core text) L live_rows
  are_live_rows =
      by_tables (λ z. AreRows (IsLive core text) L (rows_of z l.found.keys.now l.found.places.now l.order.now))
      (rows.live_rows l.links.now.tables l.found.keys.now L l.found.places.now are.found.are_tables are.found.instances are.found.values
      are.found.places
      core text l.marks.now are.marks.long are.marks.live l.order.now
      (subst (λ (z : List stored.Item). AreLiveInOrder l.marks.now (number_cmp z l.found.keys.now l.found.places.now) l.order.now) are.found.items
      are.order)
      (λ x h. (are.reachable x).1 (live_is_reachable core text x h)))

  row_meant : (k : ℕ) (x : Item) → slice_get items k ≡ Some x → item_by L (row k) ≡ x
  row_meant k x at =
      by_tables (λ z. item_by L (row_of z l.found.keys.now l.found.places.now k) ≡ x)
      (rows.row_meant l.links.now.tables l.found.keys.now L l.found.places.now are.found.are_tables are.found.instances are.found.values
      are.found.places k x at)

  -- the numbers in order
  pub order_below : (k : ℕ) → Contains l.order.now k → k < length l.marks.now
  order_below k c =
      let lt = slice_get_within (map is_live l.marks.now) k true ((are.order.members k).0 c) in
      let n = length-map l.marks.now is_live in
      omega (arith, lt, n)

  pub order_once : NoneTwice l.order.now
  order_once i j k at_i at_j =
      one_place (number_cmp l.found.items.now l.found.keys.now l.found.places.now)
      (number_total l.found.items.now l.found.keys.now l.found.places.now) l.order.now i j k are.order.order_is at_i at_j

  order_members : (k : ℕ) (x : Item) → slice_get items k ≡ Some x → Contains l.order.now k ↔ IsLive core text x
  order_members k x at = (
    λ c. (are.marks.live k x at).0 ((are.order.members k).0 c),
    λ h. (are.order.members k).1 ((are.marks.live k x at).1 h),
  )

  few_order : length l.order.now < 4294967296
  few_order =
      let a = few_numbers l.order.now (length l.marks.now) order_once order_below in let b = few_marks in omega (arith, a, b)

  -- the item of a number in the order
  record LiveItem (k : ℕ) : Type 0 where
    pub item : Item
    pub at : slice_get items k ≡ Some item
    pub is_live : IsLive core text item
    pub meant : item_by L (row k) ≡ item

  live_item : (k : ℕ) → Contains l.order.now k → LiveItem k
  live_item k c =
      let lt = order_below k c in
      let n = are.marks.long in
      let (x, at) = get_within items k (omega (arith, lt, n)) in
      record { item = x; at = at; is_live = (order_members k x at).0 c; meant = row_meant k x at }

  placed_at : (p k : ℕ) (x : Item) → slice_get l.order.now p ≡ Some k → slice_get items k ≡ Some x → slice_get placed p ≡ Some x
  placed_at p k x at item = mapped_at (item_by L) live_rows p (row k) (mapped_at row l.order.now p k at) ∙ ap Some (row_meant k x item)

  placed_by : (p : ℕ) (x : Item) → slice_get placed p ≡ Some x → (k : ℕ) × (slice_get l.order.now p ≡ Some k) × (slice_get items k ≡ Some x)
  placed_by p x at =
      let (r, at_r, is) = unmapped_at (item_by L) live_rows p x at in
      let (k, at_k, row_is) = unmapped_at row l.order.now p r at_r in
      let i = live_item k (contains_from_at l.order.now p k at_k) in
      (k, at_k, i.at ∙ ap Some (sym i.meant ∙ ap (item_by L) row_is ∙ is))

  module _ (numbers nodes : Bor (List ℕ)) (ns ms : List ℕ) (numbers_is : numbers.now ≡ ns) (nodes_is : nodes.now ≡ ms)
      (long : length ns ≡ length l.marks.now)
      (places_are : AreNumbers l.order.now ns) (table : List StoredNode) (with_places : AreNodesWith choice_cmp core live_rows table ms) where
    numbers_are : AreNumbers l.order.now numbers.now
    numbers_are = subst (AreNumbers l.order.now) (sym numbers_is) places_are

    with_nodes : AreNodesWith choice_cmp core live_rows table nodes.now
    with_nodes = subst (AreNodesWith choice_cmp core live_rows table) (sym nodes_is) with_places

    abbrev S : Sources
    S = record { found = l.found; links = l.links; order = l.order; numbers = numbers; nodes = nodes }

    abbrev keys : List NodeKey
    keys = map (key_by L) (rows_in table)

    pub of_run : AreOfRun core text S items placed keys
    of_run = record {
      ways = are.ways;
      once = are.once;
      long = ap length numbers_is ∙ long ∙ are.marks.long;
      raw_long = ap length are.found.items ∙ sym (length-map l.links.now.tables.items (item_of l.links.now.tables));
      positions = λ k x at. ap (λ (z : Item). z.position) (row_meant k x at);
      there = λ k c. there_marks k (order_below k c);
      members = order_members;
      placed_at = placed_at;
      placed_by = placed_by;
      numbers = numbers_are;
      nodes_long = with_nodes.long ∙ length-map l.order.now row;
      nodes = λ p k x key at item completes.
          (node_numbered core L are.found.are_lists.order live_rows are_live_rows.fit table nodes.now with_nodes p x key (placed_at p k x at item)
          completes).1;
      keys_once = λ i j key at_i at_j.
          one_place node_cmp node_total keys i j key (nodes_are core L are.found.are_lists.order live_rows are_live_rows.fit table nodes.now
          with_nodes).order at_i at_j;
    }

    pub entry_sources : StandsBeforeOne → AreSources S
    entry_sources = are_sources core text S items placed keys of_run

    -- the number of the root
    module _ (root : ℕ) (first : IsFirstEnd core (Reachable core text) items (root_key text) root) where
      record RootAt : Type 0 where
        pub place : ℕ
        pub order : slice_get l.order.now place ≡ Some root
        pub number : slice_get numbers.now root ≡ Some place

      root_at : RootAt
      root_at =
          let e = first.end in
          let h : IsLive core text e.item =
          live.root e.item e.is_known (record { of_root = e.completes.instance; complete = e.completes.complete }) e.completes.end in
          let (place, at) = at_from_contains l.order.now root ((order_members root e.item e.there).1 h) in
          record { place = place; order = at; number = numbers_are place root at }

      pub root_within : root < length numbers.now
      root_within = slice_get_within numbers.now root root_at.place root_at.number

      number_is : slice_index numbers.now root ≡ root_at.place
      number_is = get_or_from_slice_get numbers.now root root_at.place 0 root_at.number

      pub node_within : slice_index numbers.now root < length nodes.now
      node_within =
          let i = number_is in
          let lt = slice_get_within l.order.now root_at.place root root_at.order in
          let n = of_run.nodes_long in
          omega (arith, i, lt, n)

      pub root_node : (v : ℕ) → v ≡ slice_index nodes.now (slice_index numbers.now root) → slice_get keys v ≡ Some (root_key text)
      root_node v is =
          ap (slice_get keys) is ∙
          subst (λ (p : ℕ). slice_get keys (slice_index nodes.now p) ≡ Some (root_key text)) (sym number_is)
          (of_run.nodes root_at.place root first.end.item (root_key text) root_at.order first.end.there first.end.completes)

    -- the forest of these parts
    module _ (fit : EnvironmentsFit) (kinded : IsWellKinded core) (names : List (List ℕ)) (names_are : names ≡ map (λ z. z.name) core)
        (stored : List StoredItem) (each : Each (IsStoredItem S) l.order.now stored) (root : ℕ) (root_is : slice_get keys root ≡ Some (root_key text))
        (lists : List (List Value)) (lists_are : lists ≡ L) where
      nonterminal_at : (k : ℕ) → Contains l.order.now k → (nonterminal : Nonterminal) × (slice_get core (row k).nonterminal ≡ Some nonterminal)
      nonterminal_at k c =
          let i = live_item k c in
          let f = fit core text i.item kinded (live_is_reachable core text i.item i.is_live) in
          (f.nonterminal, subst (λ (z : Item). slice_get core z.instance.nonterminal ≡ Some f.nonterminal) (sym i.meant) f.has.there)

      is_item : (k : ℕ) (n : StoredItem) → Contains l.order.now k → IsStoredItem S k n →
          IsItemNode core text placed keys (item_by L (row k)) (item_node_by names L n)
      is_item k n c p =
          subst (λ (r : ItemRow). IsItemNode core text placed keys (item_by L (row k))
          (item_node_by names L (record { row = r; entries = n.entries }))) (sym p.row)
          (let i = live_item k c in
          let (nonterminal, at) = nonterminal_at k c in record {
            name = named core names (row k).nonterminal nonterminal names_are at;
            item = refl;
            entries = λ e.
                let of = subst (λ (z : Item). OfWay k e ↔ IsEntry core text placed keys z e) (sym i.meant)
                (entries_are core text S items placed keys of_run k i.item e i.at c) in
                (λ d. of.0 ((p.entries.members e).0 d), λ h. (p.entries.members e).1 (of.1 h));
            order = p.entries.order;
          })
        where
          OfWay : ℕ → Entry → Type 0
          OfWay j e = (w : Way) × WayTo S.links.now.ways j w × (e ≡ entry_by S (item_at S.found.items.now j).position w)

      pub is_reduced : IsReduced core text (forest_by root names lists table stored)
      is_reduced =
          subst (λ (z : List (List Value)). IsReduced core text (forest_by root names z table stored)) (sym lists_are)
          (record {
            items = placed;
            keys = keys;
            are_items = are_items L are.found.are_lists.order core text live_rows are_live_rows;
            are_nodes = nodes_are core L are.found.are_lists.order live_rows are_live_rows.fit table nodes.now with_nodes;
            item_nodes =
                subst (λ (z : List Item). Each (IsItemNode core text placed keys) z (map (item_node_by names L) stored))
                (sym (map_twice row (item_by L) l.order.now))
                (each_mapped (IsStoredItem S) (IsItemNode core text placed keys) (λ k. item_by L (row k)) (item_node_by names L) l.order.now
                stored is_item each);
            nodes = each_node core L are.found.are_lists.order live_rows are_live_rows.fit table nodes.now with_nodes names names_are;
            root = root_is;
          })

      item_row : (it : StoredItem) → Contains stored it → (k : ℕ) × Contains l.order.now k × (it.row ≡ row k)
      item_row it c = let (k, among, p) = each_right (IsStoredItem S) l.order.now stored each it c in (k, among, p.row)

      row_fits : (it : StoredItem) → Contains stored it → RowFits L it.row
      row_fits it c =
          let (k, among, is) = item_row it c in
          subst (RowFits L) (sym is) (are_live_rows.fit (row k) (mapped_in row l.order.now k among))

      pub fits_tables : FitsTables names lists table stored
      fits_tables =
          subst (λ (z : List (List Value)). FitsTables names z table stored) (sym lists_are)
          (record {
            nodes_named = nodes_named core L are.found.are_lists.order live_rows are_live_rows.fit table nodes.now with_nodes names names_are;
            nodes_listed = nodes_listed core L are.found.are_lists.order live_rows are_live_rows.fit table nodes.now with_nodes;
            items_named = λ it c.
                let (k, among, is) = item_row it c in
                let (nonterminal, at) = nonterminal_at k among in
                subst (λ (r : ItemRow). r.nonterminal < length names) (sym is) (name_within core names (row k).nonterminal nonterminal names_are at);
            items_listed = λ it c. (row_fits it c).values;
            envs_listed = λ it c. (row_fits it c).env;
            few_nodes = let a = with_nodes.few in let b = length-map l.order.now row in let f = few_order in omega (arith, a, b, f);
            few_items = let a = same_length each in let f = few_order in omega (arith, a, f);
          })
