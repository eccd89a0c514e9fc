-- Rows in order are items and nodes in order.
use Rattle.std.proofs.Common.{◌≡◌, inl, inr, ℕ, ◌<◌, List, [], Equal, Greater, length, map, Contains, refl, sym, ap, ap₂, ◌∙◌, subst}
use Rattle.std.specs.declared.cmp.Ordering.{Ordering}
use Rattle.std.specs.List.Sorted.{IsStrictlySortedBy}
use Rattle.std.specs.Ordering.{nat_cmp, ordering_then, ordering_reverse}
use Rattle.std.proofs.lemmas.Cmp.{tied_itself}
use Rattle.std.proofs.lemmas.Option.{slice_get-get_or}
use Rattle.std.proofs.lemmas.Bool.{cases_order}
use Rattle.ig_text.specs.Input.{Input}
use Rattle.ig_text.proofs.Lists.{mapped_in, unmapped_in}
use Rattle.ig_text.proofs.Rising.{rises}
use Rattle.ig_text.proofs.Sorted.{less_number, greater_number, equal_number}
use Rattle.ig_expr.specs.declared.value.Value.{Value}
use Rattle.ig_item.specs.Items.{Item}
use Rattle.ig_item.specs.declared.core_grammar.Nonterminal.{Nonterminal}
use Rattle.ig_item.specs.Gives.{NodeKey, Completes}
use Rattle.ig_forest_live.specs.Live.{IsLive}
use Rattle.ig_forest_tables.specs.Orders.{item_cmp, node_cmp}
use Rattle.ig_forest.specs.Reduced.{AreItems, AreNodes}
use Rattle.ig_forest.specs.CodeTables.{RowFits, AreRows, item_by, key_by, node_of, node_row_cmp}
use Rattle.ig_forest_tables.specs.Tables.{list_at}
use Rattle.ig_expr.specs.ValueOrder.{values_cmp}
use Rattle.ig_forest_live.specs.Rows.{row_cmp}
use Rattle.ig_forest.specs.CodeDone.{AreNodesOf}
use Rattle.ig_forest_live.specs.declared.rows.ItemRow.{ItemRow}
use Rattle.ig_forest_tables.specs.declared.node_rows.NodeRow.{NodeRow}
use Rattle.ig_expr.specs.Ordered.{list_total}
use Rattle.ig_forest.proofs.CodeSorted.{strict_map}
use Rattle.ig_forest.proofs.CodeGives.{complete_from_last, last_from_complete}

-- places have the order of their lists
pub rank : (lists : List (List Value)) (a b : ℕ) → IsStrictlySortedBy values_cmp lists → a < length lists → b < length lists →
    nat_cmp a b ≡ values_cmp (list_at lists a) (list_at lists b)
rank lists a b sorted la lb =
    let at_a = slice_get-get_or lists a [] la in
    let at_b = slice_get-get_or lists b [] lb in
    elim (cases_order a b) [
      | inr (inl lt) ↦ less_number a b lt ∙ sym (rises values_cmp lists a b (list_at lists a) (list_at lists b) sorted at_a at_b lt)
      | inl e ↦
          let n = equal_number a b e in
          let m : values_cmp (list_at lists a) (list_at lists b) ≡ Equal =
          ap (λ z. values_cmp (list_at lists a) (list_at lists z)) (sym e) ∙ tied_itself list_total (list_at lists a) in
          n ∙ sym m
      | inr (inr gt) ↦
          let n = greater_number a b gt in
          let r = rises values_cmp lists b a (list_at lists b) (list_at lists a) sorted at_b at_a gt in
          let m : values_cmp (list_at lists a) (list_at lists b) ≡ Greater = list_total.antisymm (list_at lists a) (list_at lists b) ∙ ap ordering_reverse r in
          n ∙ sym m
    ]

module _ (lists : List (List Value)) (sorted : IsStrictlySortedBy values_cmp lists) where
  row_as_item : (x y : ItemRow) → RowFits lists x → RowFits lists y → row_cmp x y ≡ item_cmp (item_by lists x) (item_by lists y)
  row_as_item x y fx fy =
      let v = rank lists x.values y.values sorted fx.values fy.values in
      let e = rank lists x.env y.env sorted fx.env fy.env in
      ap₂
      (λ (p q : Ordering).
      ordering_then (nat_cmp x.start y.start)
      (ordering_then (nat_cmp x.position y.position)
      (ordering_then (nat_cmp x.nonterminal y.nonterminal)
      (ordering_then p (ordering_then (nat_cmp x.alternative y.alternative) (ordering_then (nat_cmp x.dot y.dot) q)))))) v e

  pub are_items : (core : List Nonterminal) (text : Input) (rows : List ItemRow) → AreRows (IsLive core text) lists rows → AreItems core text (map (item_by lists) rows)
  are_items core text rows are = record {
    members = λ x. (
      λ c. let (row, among, is) = unmapped_in (item_by lists) rows x c in subst (IsLive core text) is (are.sound row among),
      λ l. let (row, among, is) = are.complete x l in subst (Contains (map (item_by lists) rows)) is (mapped_in (item_by lists) rows row among),
    );
    order =
        strict_map (item_by lists) row_cmp item_cmp (RowFits lists) (λ x y fx fy e. sym (row_as_item x y fx fy) ∙ e) rows are.fit are.order;
  }

  node_as_key : (x y : NodeRow) → x.values < length lists → y.values < length lists → node_row_cmp x y ≡ node_cmp (key_by lists x) (key_by lists y)
  node_as_key x y fx fy =
      ap
      (λ (p : Ordering).
      ordering_then (nat_cmp x.start y.start) (ordering_then (nat_cmp x.end y.end) (ordering_then (nat_cmp x.nonterminal y.nonterminal) p)))
      (rank lists x.values y.values sorted fx fy)

  pub nodes_fit : (core : List Nonterminal) (rows : List ItemRow) (nodes : List NodeRow) → ((row : ItemRow) → Contains rows row → RowFits lists row) →
      AreNodesOf core rows nodes → (node : NodeRow) → Contains nodes node → node.values < length lists
  nodes_fit core rows nodes fit are node c =
      let (row, among, is) = (are.members node).0 c in subst (λ (z : NodeRow). z.values < length lists) is.node_is (fit row among).values

  pub are_nodes : (core : List Nonterminal) (rows : List ItemRow) (nodes : List NodeRow) → ((row : ItemRow) → Contains rows row → RowFits lists row) →
      AreNodesOf core rows nodes → AreNodes core (map (item_by lists) rows) (map (key_by lists) nodes)
  are_nodes core rows nodes fit are = record {
    members = λ key. (
      λ c.
          let (node, among, is) = unmapped_in (key_by lists) nodes key c in
          let (row, row_among, done) = (are.members node).0 among in
          let e : key_by lists (node_of row) ≡ key = ap (key_by lists) done.node_is ∙ is in (
            item_by lists row,
            mapped_in (item_by lists) rows row row_among,
            record {
              complete = complete_from_last core lists row done.last;
              instance = ap (λ (z : NodeKey). z.instance) e;
              end = ap (λ (z : NodeKey). z.end) e;
            },
          ),
      λ h.
          let (row, among, is) = unmapped_in (item_by lists) rows h.0 h.1 in
          let c : Completes core (item_by lists row) key = subst (λ (z : Item). Completes core z key) (sym is) h.2 in
          let e : key_by lists (node_of row) ≡ key = (λ i. record { instance = c.instance i; end = c.end i }) in
          subst (Contains (map (key_by lists) nodes)) e
          (mapped_in (key_by lists) nodes (node_of row)
          ((are.members (node_of row)).1 (row, among, record { last = last_from_complete core lists row c.complete; node_is = refl }))),
    );
    order =
        strict_map (key_by lists) node_row_cmp node_cmp (λ (z : NodeRow). z.values < length lists) (λ x y fx fy e. sym (node_as_key x y fx fy) ∙ e) nodes
        (nodes_fit core rows nodes fit are) are.order;
  }
