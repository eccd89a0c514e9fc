-- The nodes that one pass makes are those of the reduced forest.
use Rattle.std.proofs.Common.{◌≡◌, ℕ, ◌<◌, List, [], Some, length, map, slice_get, Contains, refl, sym, ap, ◌∙◌, subst}
use Rattle.std.specs.Prelude.{option_map, slice_index}
use Rattle.std.specs.List.Sorted.{IsStrictlySortedBy}
use Rattle.std.proofs.lemmas.Option.{get_or_from_slice_get, slice_get_within}
use Rattle.ig_text.proofs.Lists.{contains_from_at, unmapped_at, mapped_in, mapped_at, map_twice}
use Rattle.ig_text.proofs.Pairwise.{each_from}
use Rattle.ig_text.specs.Pairwise.{Each}
use Rattle.ig_expr.specs.declared.value.Value.{Value}
use Rattle.ig_item.specs.Items.{Item}
use Rattle.ig_item.specs.Gives.{NodeKey, Completes}
use Rattle.ig_item.specs.declared.core_grammar.Nonterminal.{Nonterminal}
use Rattle.ig_forest_tables.specs.Orders.{choice_cmp}
use Rattle.ig_forest.specs.Reduced.{AreNodes, IsChoice, IsNamed, IsNode}
use Rattle.ig_forest.specs.CodeTables.{RowFits, item_by, key_by, node_of}
use Rattle.ig_expr.specs.ValueOrder.{values_cmp}
use Rattle.ig_forest_tables.specs.Tables.{name_at, node_by}
use Rattle.ig_forest.specs.CodeDone.{IsChoiceRow, IsTagged}
use Rattle.ig_forest_tables.specs.StoredNodes.{rows_in, StoredNode}
use Rattle.ig_forest.specs.CodeNodes.{AreNodesWith}
use Rattle.ig_forest_tables.specs.declared.entry.Choice.{Choice}
use Rattle.ig_forest_live.specs.declared.rows.ItemRow.{ItemRow}
use Rattle.ig_forest_tables.specs.declared.node_rows.NodeRow.{NodeRow}
use Rattle.ig_forest.proofs.CodeGives.{complete_from_last, last_from_complete, same_list_place}
use Rattle.ig_forest.proofs.CodeMembers.{are_nodes, nodes_fit}

-- the name by its number is the nonterminal's
pub named : (core : List Nonterminal) (names : List (List ℕ)) (n : ℕ) (nonterminal : Nonterminal) → names ≡ map (λ z. z.name) core →
    slice_get core n ≡ Some nonterminal → IsNamed core n (name_at names n)
named core names n nonterminal is at =
    let a : slice_get names n ≡ Some nonterminal.name =
    ap (λ (z : List (List ℕ)). slice_get z n) is ∙ mapped_at (λ (z : Nonterminal). z.name) core n nonterminal at in
    ap (option_map (λ (z : Nonterminal). z.name)) at ∙ ap Some (sym (get_or_from_slice_get names n nonterminal.name [] a))

pub name_within : (core : List Nonterminal) (names : List (List ℕ)) (n : ℕ) (nonterminal : Nonterminal) → names ≡ map (λ z. z.name) core →
    slice_get core n ≡ Some nonterminal → n < length names
name_within core names n nonterminal is at =
    slice_get_within names n nonterminal.name
    (ap (λ (z : List (List ℕ)). slice_get z n) is ∙ mapped_at (λ (z : Nonterminal). z.name) core n nonterminal at)

module _ (core : List Nonterminal) (lists : List (List Value)) (sorted : IsStrictlySortedBy values_cmp lists) (rows : List ItemRow)
    (fit : (row : ItemRow) → Contains rows row → RowFits lists row) (table : List StoredNode) (numbers : List ℕ)
    (are : AreNodesWith choice_cmp core rows table numbers) where
  abbrev TheItems : List Item
  TheItems = map (item_by lists) rows

  abbrev TheKeys : List NodeKey
  TheKeys = map (key_by lists) (rows_in table)

  -- a choice by rows is one by items
  choice_to : (node : NodeRow) (c : Choice) → IsChoiceRow core rows node c → IsChoice core TheItems (key_by lists node) c
  choice_to node c h = record {
    item = item_by lists h.row;
    numbered = mapped_at (item_by lists) rows c.item h.row h.numbered;
    completes =
        record {
          complete = complete_from_last core lists h.row h.tag.last;
          instance = ap (λ (z : NodeRow). (key_by lists z).instance) h.node_is;
          end = ap (λ (z : NodeRow). z.end) h.node_is;
        };
    tagged = h.tag.tagged;
  }

  -- the node of a row whose item belongs to the node's key
  node_from_key : (row : ItemRow) (node : NodeRow) → RowFits lists row → node.values < length lists →
      Completes core (item_by lists row) (key_by lists node) → node_of row ≡ node
  node_from_key row node fits there complete =
      let values = same_list_place lists row.values node.values sorted fits.values there (ap (λ z. z.values) complete.instance) in
      λ i. record {
        start = ap (λ z. z.start) complete.instance i;
        end = complete.end i;
        nonterminal = ap (λ z. z.nonterminal) complete.instance i;
        values = values i;
      }

  choice_back : (node : NodeRow) (c : Choice) → node.values < length lists → IsChoice core TheItems (key_by lists node) c → IsChoiceRow core rows node c
  choice_back node c there h =
      let (row, at, is) = unmapped_at (item_by lists) rows c.item h.item h.numbered in
      let complete = subst (λ (z : Item). Completes core z (key_by lists node)) (sym is) h.completes in
      let tagged : IsTagged core row c.tag =
      subst
      (λ (z : Item).
      (m : Completes core z (key_by lists node)) → c.tag ≡ m.complete.alternative.tag → (item_by lists row ≡ z) → IsTagged core row c.tag) is
      (λ m t e. record { last = last_from_complete core lists row m.complete; tagged = t }) h.completes h.tagged is in
      record {
        row = row;
        numbered = at;
        node_is = node_from_key row node (fit row (contains_from_at rows c.item row at)) there complete;
        tag = tagged;
      }

  node_row : (n : StoredNode) → Contains table n → Contains (rows_in table) n.row
  node_row n c = mapped_in (λ (m : StoredNode). m.row) table n c

  -- what the nodes name is there
  pub nodes_listed : (n : StoredNode) → Contains table n → n.row.values < length lists
  nodes_listed n c = nodes_fit lists sorted core rows (rows_in table) fit are.nodes n.row (node_row n c)

  node_nonterminal : (n : StoredNode) → Contains table n → (nonterminal : Nonterminal) × (slice_get core n.row.nonterminal ≡ Some nonterminal)
  node_nonterminal n c =
      let (row, among, done) = (are.nodes.members n.row).0 (node_row n c) in
      (done.last.nonterminal, subst (λ (z : NodeRow). slice_get core z.nonterminal ≡ Some done.last.nonterminal) done.node_is done.last.has.there)

  pub nodes_named : (names : List (List ℕ)) → names ≡ map (λ z. z.name) core → (n : StoredNode) → Contains table n → n.row.nonterminal < length names
  nodes_named names names_are n c = let (m, at) = node_nonterminal n c in name_within core names n.row.nonterminal m names_are at

  pub nodes_are : AreNodes core TheItems TheKeys
  nodes_are = are_nodes lists sorted core rows (rows_in table) fit are.nodes

  is_node : (names : List (List ℕ)) → names ≡ map (λ z. z.name) core → (n : StoredNode) → Contains table n →
      IsNode core TheItems (key_by lists n.row) (node_by names lists n)
  is_node names names_are n c =
      let h = are.choices n c in
      let (nonterminal, at) = node_nonterminal n c in record {
        name = named core names n.row.nonterminal nonterminal names_are at;
        nonterminal = refl;
        values = refl;
        begin = refl;
        end = refl;
        choices = λ choice. (
          λ d. choice_to n.row choice ((h.members choice).0 d),
          λ d. (h.members choice).1 (choice_back n.row choice (nodes_listed n c) d),
        );
        order = h.order;
      }

  -- each node is that of its key
  pub each_node : (names : List (List ℕ)) → names ≡ map (λ z. z.name) core →
      Each (IsNode core TheItems) TheKeys (map (node_by names lists) table)
  each_node names names_are =
      subst (λ (z : List NodeKey). Each (IsNode core TheItems) z (map (node_by names lists) table))
      (sym (map_twice (λ (n : StoredNode). n.row) (key_by lists) table))
      (each_from (IsNode core TheItems) (λ (n : StoredNode). key_by lists n.row) (node_by names lists) table (is_node names names_are))

  -- the number at the place of a complete item is that of its node
  pub node_numbered : (k : ℕ) (x : Item) (key : NodeKey) → slice_get TheItems k ≡ Some x → Completes core x key →
      (k < length numbers) × (slice_get TheKeys (slice_index numbers k) ≡ Some key)
  node_numbered k x key at completes =
      let (row, at_row, is) = unmapped_at (item_by lists) rows k x at in
      let done : Completes core (item_by lists row) key = subst (λ (z : Item). Completes core z key) (sym is) completes in
      let n = are.numbered k row at_row (last_from_complete core lists row done.complete) in
      let here : key_by lists (node_of row) ≡ key = (λ i. record { instance = done.instance i; end = done.end i }) in
      let number : slice_index numbers k ≡ n.number = get_or_from_slice_get numbers k n.number _ n.there in (
        slice_get_within numbers k n.number n.there,
        ap (slice_get TheKeys) number ∙ mapped_at (key_by lists) (rows_in table) n.number (node_of row) n.node ∙ ap Some here,
      )
