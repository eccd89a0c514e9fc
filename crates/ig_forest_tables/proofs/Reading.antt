-- What the readers of a forest read.
use Rattle.std.proofs.Common.{◌≡◌, ℕ, ◌<◌, List, Some, None, length, slice_get, sym, ap, ◌∙◌}
use Rattle.std.specs.Prelude.{option_map}
use Rattle.std.proofs.lemmas.Option.{slice_get-get_or, slice_get-map, get_or_from_slice_get, none-some}
use Rattle.ig_text.proofs.Lists.{mapped_at}
use Rattle.ig_expr.specs.declared.value.Value.{Value}
use Rattle.ig_forest_tables.specs.Forest as parts
use Rattle.ig_forest_tables.specs.Tables.{list_at}
use Rattle.ig_forest_tables.specs.Tables.{node_by, item_node_by, forest_by, name_at}
use Rattle.ig_forest_tables.specs.declared.entry.Choice.{Choice}
use Rattle.ig_forest_tables.specs.declared.entry.Entry.{Entry}
use Rattle.ig_forest_tables.specs.StoredNodes.{StoredNode}
use Rattle.ig_forest_tables.specs.StoredItems.{StoredItem}

pub there_not : {X : Type 0} (xs : List X) (d : X) (n : ℕ) → n < length xs → None ≡ slice_get xs n → ⊥
there_not xs d n lt none = none-some _ (none ∙ slice_get-get_or xs n d lt)

pub read_at : {X : Type 0} (xs ys : List X) (k : ℕ) (x : X) → ys ≡ xs → Some x ≡ slice_get ys k → slice_get xs k ≡ Some x
read_at xs ys k x e at = ap (λ (z : List _). slice_get z k) (sym e) ∙ sym at

pub read_none : {X : Type 0} (xs ys : List X) (k : ℕ) → ys ≡ xs → None ≡ slice_get ys k → slice_get xs k ≡ None
read_none xs ys k e at = ap (λ (z : List _). slice_get z k) (sym e) ∙ sym at

module _ (root : ℕ) (names : List (List ℕ)) (lists : List (List Value)) (nodes : List StoredNode) (items : List StoredItem) (f : parts.Forest)
    (is : forest_by root names lists nodes items ≡ f) where
  pub node_absent : (k : ℕ) → slice_get nodes k ≡ None → None ≡ slice_get f.nodes k
  node_absent k none =
      sym (slice_get-map (node_by names lists) nodes k ∙ ap (option_map (node_by names lists)) none) ∙ ap (λ (z : parts.Forest). slice_get z.nodes k) is

  pub item_absent : (k : ℕ) → slice_get items k ≡ None → None ≡ slice_get f.items k
  item_absent k none =
      sym (slice_get-map (item_node_by names lists) items k ∙ ap (option_map (item_node_by names lists)) none) ∙ ap (λ (z : parts.Forest). slice_get z.items k) is

  pub node_read : (k : ℕ) (n : StoredNode) (name : List ℕ) (values : List Value) (cs : List Choice) → slice_get nodes k ≡ Some n → Some name ≡ slice_get names n.row.nonterminal →
      Some values ≡ slice_get lists n.row.values → cs ≡ n.alternatives →
      Some (record { name = name; nonterminal = n.row.nonterminal; values = values; span = record { begin = n.row.start; end = n.row.end }; alternatives = cs }) ≡
      slice_get f.nodes k
  node_read k n name values cs at name_is values_are choices =
      let a : name ≡ name_at names n.row.nonterminal = sym (get_or_from_slice_get names n.row.nonterminal name _ (sym name_is)) in
      let b : values ≡ list_at lists n.row.values = sym (get_or_from_slice_get lists n.row.values values _ (sym values_are)) in
      let node : ◌≡◌ {A = parts.Node} (record { name = name; nonterminal = n.row.nonterminal; values = values; span = record { begin = n.row.start; end = n.row.end }; alternatives = cs }) (node_by names lists n) =
      (λ i. record { name = a i; nonterminal = n.row.nonterminal; values = b i; span = record { begin = n.row.start; end = n.row.end }; alternatives = choices i }) in
      ap Some node ∙ sym (mapped_at (node_by names lists) nodes k n at) ∙ ap (λ (z : parts.Forest). slice_get z.nodes k) is

  pub item_read : (k : ℕ) (n : StoredItem) (name : List ℕ) (values env : List Value) (es : List Entry) → slice_get items k ≡ Some n → Some name ≡ slice_get names n.row.nonterminal →
      Some values ≡ slice_get lists n.row.values → Some env ≡ slice_get lists n.row.env → es ≡ n.entries →
      Some (record { name = name; nonterminal = n.row.nonterminal; values = values; start = n.row.start; alternative = n.row.alternative; dot = n.row.dot; env = env; position = n.row.position; entries = es }) ≡
      slice_get f.items k
  item_read k n name values env es at name_is values_are env_is entries =
      let a : name ≡ name_at names n.row.nonterminal = sym (get_or_from_slice_get names n.row.nonterminal name _ (sym name_is)) in
      let b : values ≡ list_at lists n.row.values = sym (get_or_from_slice_get lists n.row.values values _ (sym values_are)) in
      let c : env ≡ list_at lists n.row.env = sym (get_or_from_slice_get lists n.row.env env _ (sym env_is)) in
      let node : ◌≡◌ {A = parts.ItemNode} (record { name = name; nonterminal = n.row.nonterminal; values = values; start = n.row.start; alternative = n.row.alternative; dot = n.row.dot; env = env; position = n.row.position; entries = es }) (item_node_by names lists n) =
      (λ i. record { name = a i; nonterminal = n.row.nonterminal; values = b i; start = n.row.start; alternative = n.row.alternative; dot = n.row.dot; env = c i; position = n.row.position; entries = entries i }) in
      ap Some node ∙ sym (mapped_at (item_node_by names lists) items k n at) ∙ ap (λ (z : parts.Forest). slice_get z.items k) is
