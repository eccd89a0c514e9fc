-- A core grammar and a text have one reduced forest at most, in which no key stands twice.
use Rattle.std.proofs.Common.{◌≡◌, ℕ, List, Some, slice_get, Contains, sym, ap, ◌∙◌, subst, subst₂}
use Rattle.std.proofs.lemmas.Option.{same_Some}
use Rattle.ig_text.specs.Input.{Input}
use Rattle.ig_text.specs.declared.text.Span.{Span}
use Rattle.ig_text.specs.Pairwise.{Each}
use Rattle.ig_text.proofs.Lists.{contains_from_at}
use Rattle.ig_text.proofs.Pairwise.{same_each, key_at}
use Rattle.ig_text.proofs.Rising.{one_place, same_members}
use Rattle.ig_item.specs.Items.{Item}
use Rattle.ig_item.specs.declared.core_grammar.Nonterminal.{Nonterminal}
use Rattle.ig_forest_tables.specs.Forest.{Node, ItemNode, item_of}
use Rattle.ig_item.specs.Gives.{NodeKey, Completes}
use Rattle.ig_forest_live.specs.Live.{IsLive}
use Rattle.ig_forest_tables.specs.Orders.{item_cmp, node_cmp, choice_cmp, entry_cmp}
use Rattle.ig_forest.specs.Reduced.{IsNamed, AreNodes, IsNode, IsItemNode, IsChoice, IsEntry}
use Rattle.ig_forest_live.specs.Live.{root_key}
use Rattle.ig_forest.specs.Laws.{OnlyOne, ReducedHasNoKeyTwice, RootIsThere}
use Rattle.ig_forest.proofs.TotalOrders.{item_total, node_total, choice_total, entry_total}
use Rattle.ig_forest.proofs.Liveness.{live_is_reachable}

same_name : (core : List Nonterminal) (n : ℕ) (a b : List ℕ) → IsNamed core n a → IsNamed core n b → a ≡ b
same_name core n a b p q = same_Some a b (sym p ∙ q)

module _ (core : List Nonterminal) (text : Input) (items : List Item) (keys : List NodeKey) where
  same_item_node : (x : Item) (it other : ItemNode) → IsItemNode core text items keys x it →
      IsItemNode core text items keys x other → it ≡ other
  same_item_node x it other p q =
      let name = same_name core x.instance.nonterminal it.name other.name p.name q.name in
      let item : item_of it ≡ item_of other = p.item ∙ sym q.item in
      let entries =
      same_members entry_cmp entry_total (IsEntry core text items keys x) it.entries other.entries p.order q.order
      p.entries q.entries in
      λ i. record {
        name = name i;
        nonterminal = (item i).instance.nonterminal;
        values = (item i).instance.values;
        start = (item i).instance.start;
        alternative = (item i).alternative;
        dot = (item i).dot;
        env = (item i).env;
        position = (item i).position;
        entries = entries i;
      }

  same_node : (key : NodeKey) (node other : Node) → IsNode core items key node → IsNode core items key other → node ≡ other
  same_node key node other p q =
      let name = same_name core key.instance.nonterminal node.name other.name p.name q.name in
      let nonterminal = p.nonterminal ∙ sym q.nonterminal in
      let values = p.values ∙ sym q.values in
      let begin = p.begin ∙ sym q.begin in
      let end = p.end ∙ sym q.end in
      let alternatives =
      same_members choice_cmp choice_total (IsChoice core items key) node.alternatives other.alternatives p.order
      q.order p.choices q.choices in
      λ i. record {
        name = name i;
        nonterminal = nonterminal i;
        values = values i;
        span = record { begin = begin i; end = end i };
        alternatives = alternatives i;
      }

pub only_one : OnlyOne
only_one core text f g p q =
    let items =
    same_members item_cmp item_total (IsLive core text) p.items q.items p.are_items.order q.are_items.order
    p.are_items.members q.are_items.members in
    let q_nodes = subst (λ (xs : List Item). AreNodes core xs q.keys) (sym items) q.are_nodes in
    let keys =
    same_members node_cmp node_total (λ (key : NodeKey). (x : Item) × Contains p.items x × Completes core x key)
    p.keys q.keys p.are_nodes.order q_nodes.order p.are_nodes.members q_nodes.members in
    let root =
    one_place node_cmp node_total p.keys f.root g.root (root_key text) p.are_nodes.order p.root
    (subst (λ (ks : List NodeKey). slice_get ks g.root ≡ Some (root_key text)) (sym keys) q.root) in
    let nodes =
    same_each (IsNode core p.items) (same_node core text p.items p.keys) p.nodes
    (subst₂ (λ (xs : List Item) (ks : List NodeKey). Each (IsNode core xs) ks g.nodes) (sym items) (sym keys) q.nodes) in
    let item_nodes =
    same_each (IsItemNode core text p.items p.keys) (same_item_node core text p.items p.keys) p.item_nodes
    (subst₂ (λ (xs : List Item) (ks : List NodeKey). Each (IsItemNode core text xs ks) xs g.items) (sym items) (sym keys)
    q.item_nodes) in
    λ i. record { root = root i; nodes = nodes i; items = item_nodes i }

pub same_key : (x y : NodeKey) → x.instance.nonterminal ≡ y.instance.nonterminal → x.instance.values ≡ y.instance.values →
    x.instance.start ≡ y.instance.start → x.end ≡ y.end → x ≡ y
same_key x y n v s e =
    λ i. record { instance = record { nonterminal = n i; values = v i; start = s i }; end = e i }

pub no_key_twice : ReducedHasNoKeyTwice
no_key_twice core text f r =
    record {
      nodes =
          λ i j x y at_x at_y n v s.
          let p = key_at r.nodes i x at_x in
          let q = key_at r.nodes j y at_y in
          let a = p.2 in
          let b = q.2 in
          let same : p.0 ≡ q.0 =
          same_key p.0 q.0 (sym a.nonterminal ∙ n ∙ b.nonterminal) (sym a.values ∙ v ∙ b.values)
          (sym a.begin ∙ ap (λ (z : Span). z.begin) s ∙ b.begin) (sym a.end ∙ ap (λ (z : Span). z.end) s ∙ b.end) in
          one_place node_cmp node_total r.keys i j p.0 r.are_nodes.order p.1 (q.1 ∙ ap Some (sym same));
      items =
          λ i j x y at_x at_y e.
          let p = key_at r.item_nodes i x at_x in
          let q = key_at r.item_nodes j y at_y in
          let same : p.0 ≡ q.0 = sym p.2.item ∙ e ∙ q.2.item in
          one_place item_cmp item_total r.items i j p.0 r.are_items.order p.1 (q.1 ∙ ap Some (sym same));
    }

pub root_is_there : RootIsThere
root_is_there core text f r =
    let c = (r.are_nodes.members (root_key text)).0 (contains_from_at r.keys f.root (root_key text) r.root) in
    record {
      item = c.0;
      reachable = live_is_reachable core text c.0 ((r.are_items.members c.0).0 c.1);
      root = record { of_root = c.2.instance; complete = c.2.complete };
      to_end = c.2.end;
    }
