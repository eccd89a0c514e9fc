-- What the rules and the entries of items say, one by one.
use Rattle.std.proofs.Common.{◌≡◌, ℕ, suc, ◌≤◌, List, [], ◌∷◌, Some, slice_get, refl, sym, ap, subst, arith}
use Rattle.ig_text.specs.Input.{Input}
use Rattle.ig_text.proofs.Trees.{join-none}
use Rattle.ig_text.specs.Tree.{Tree, Trees, Leaf, none, more, one, join, height, greatest_height}
use Rattle.ig_text.specs.declared.text.Span.{Span}
use Rattle.ig_item.specs.Items.{Item, span_of}
use Rattle.ig_item.specs.CoreTrees.{HasTree}
use Rattle.ig_item.specs.declared.core_grammar.Nonterminal.{Nonterminal}
use Rattle.ig_item.specs.Gives as rules
use Rattle.ig_item.specs.Gives.{NodeKey, Taken, nothing, leaf, tree}
use Rattle.ig_forest_live.specs.Live.{Gives}
use Rattle.ig_forest.specs.Reduced as reduced
use Rattle.ig_forest.specs.Reduced.{IsEntry}
use Rattle.ig_forest_tables.specs.declared.entry.Entry.{Entry}
use Rattle.ig_forest_tables.specs.declared.entry.Entry.TheVariants.{Begin, Pass, Take}
use Rattle.ig_forest_tables.specs.declared.entry.Child.TheVariants as child
use Rattle.ig_item.specs.ItemTrees as reached
use Rattle.ig_item.specs.ItemTrees.{Comes}

pub joined_height : (ts : Trees) (t : Tree) (d : ℕ) → greatest_height ts ≤ d → height t ≤ d →
    greatest_height (join ts (one t)) ≤ d
joined_height none t d low_ts low_t = omega arith
joined_height (more s ts) t d low_ts low_t =
    let others = joined_height ts t d (omega arith) low_t in omega arith

-- the heights of both parts
pub parted_height : (ts us : Trees) (d : ℕ) → greatest_height (join ts us) ≤ d →
    (greatest_height ts ≤ d) × (greatest_height us ≤ d)
parted_height none us d low = (omega arith, low)
parted_height (more s ts) us d low = let others = parted_height ts us d (omega arith) in (omega (arith, others.0), others.1)

module _ (core : List Nonterminal) (text : Input) where
  -- the item behind has its dot one further
  pub given_dot : {prev x : Item} {taken : Taken} → Gives core text prev taken x → x.dot ≡ suc prev.dot
  given_dot (rules.test prev names e x reachable before holds is) = ap (λ (y : Item). y.dot) is
  given_dot (rules.bind prev names name e v x reachable before has is) = ap (λ (y : Item). y.dot) is
  given_dot (rules.terminal prev names what label excluded j taken x reachable before matches free t is) =
      ap (λ (y : Item). y.dot) is
  given_dot (rules.return prev done label excluded key x reachable r calls c free is) = ap (λ (y : Item). y.dot) is

  -- the trees before the dot, behind one more step
  pub comes_by_nothing : {prev x : Item} {taken : Taken} → Gives core text prev taken x → taken ≡ nothing → (ts : Trees) →
      Comes core text prev ts → Comes core text x ts
  comes_by_nothing (rules.test prev names e x reachable before holds is) t ts c =
      reached.further prev [] prev.position ts none ts x c (reached.test names e prev.position before holds refl) is
      (sym (join-none ts))
  comes_by_nothing (rules.bind prev names name e v x reachable before has is) t ts c =
      reached.further prev (v ∷ []) prev.position ts none ts x c (reached.bind names name e v prev.position before has refl) is
      (sym (join-none ts))
  comes_by_nothing (rules.terminal prev names what label excluded j taken x reachable before matches free t is) e ts c = cc
  comes_by_nothing (rules.return prev done label excluded key x reachable r calls completes free is) e ts c = cc

  pub comes_by_leaf : {prev x : Item} {taken : Taken} → Gives core text prev taken x → (span : Span) → taken ≡ leaf span →
      (ts : Trees) → Comes core text prev ts → Comes core text x (join ts (one (Leaf span.begin span.end)))
  comes_by_leaf (rules.test prev names e x reachable before holds is) span t ts c = cc
  comes_by_leaf (rules.bind prev names name e v x reachable before has is) span t ts c = cc
  comes_by_leaf (rules.terminal prev names what label excluded j taken x reachable before matches free t is) span e ts c =
      let same : span ≡ record { begin = prev.position; end = j } = cc in
      reached.further prev (span_of label prev.position j) j ts (one (Leaf prev.position j))
      (join ts (one (Leaf span.begin span.end))) x c
      (reached.terminal names what label excluded (span_of label prev.position j) j (one (Leaf prev.position j)) before
      matches free refl refl) is (ap (λ (s : Span). join ts (one (Leaf s.begin s.end))) same)
  comes_by_leaf (rules.return prev done label excluded key x reachable r calls completes free is) span e ts c = cc

  -- the tree is one of the instance, over the key's part of the text
  abbrev pub HasKeyTree : NodeKey → Tree → Type 0
  HasKeyTree key t = HasTree core text key.instance.nonterminal key.instance.values key.instance.start key.end t

  pub comes_by_tree : {prev x : Item} {taken : Taken} → Gives core text prev taken x → (key : NodeKey) → taken ≡ tree key →
      (ts : Trees) (t : Tree) → HasKeyTree key t → Comes core text prev ts → Comes core text x (join ts (one t))
  comes_by_tree (rules.test prev names e x reachable before holds is) key e1 ts t h c = cc
  comes_by_tree (rules.bind prev names name e v x reachable before has is) key e1 ts t h c = cc
  comes_by_tree (rules.terminal prev names what label excluded j taken x reachable before matches free e2 is) key e ts t h c = cc
  comes_by_tree (rules.return prev done label excluded own x reachable r calls completes free is) key e ts t h c =
      let same : key ≡ own = cc in
      let end = own.end in
      reached.further prev (span_of label prev.position end) end ts (one t) (join ts (one t)) x c
      (reached.call own.instance label excluded t (span_of label prev.position end) end (one t) calls
      (subst (λ (k : NodeKey). HasKeyTree k t) same h) free refl refl) is refl

  module _ (items : List Item) (keys : List NodeKey) where
    -- the four forms of entries
    pub begin_only : {x : Item} {e : Entry} → IsEntry core text items keys x e → e ≡ Begin → x.dot ≡ 0
    begin_only (reduced.begin e dot is) b = dot
    begin_only (reduced.pass k prev e at gives is) b = cc
    begin_only (reduced.take_leaf k prev span e at gives is) b = cc
    begin_only (reduced.take_node k v prev key e at at_v gives is) b = cc

    pub record Passed (x : Item) (k : ℕ) : Type 0 where
      pub prev : Item
      pub at : slice_get items k ≡ Some prev
      pub gives : Gives core text prev nothing x

    pub pass_only : {x : Item} {e : Entry} → IsEntry core text items keys x e → (k : ℕ) → e ≡ Pass k → Passed x k
    pass_only (reduced.begin e dot is) k b = cc
    pass_only (reduced.pass m prev e at gives is) k b =
        let same : m ≡ k = cc in
        record { prev = prev; at = subst (λ (z : ℕ). slice_get items z ≡ Some prev) same at; gives = gives }
    pass_only (reduced.take_leaf m prev span e at gives is) k b = cc
    pass_only (reduced.take_node m v prev key e at at_v gives is) k b = cc

    pub record TookLeaf (x : Item) (k : ℕ) (span : Span) : Type 0 where
      pub prev : Item
      pub at : slice_get items k ≡ Some prev
      pub gives : Gives core text prev (leaf span) x

    pub leaf_only : {x : Item} {e : Entry} → IsEntry core text items keys x e → (k : ℕ) (span : Span) →
        e ≡ Take k (child.Leaf span) → TookLeaf x k span
    leaf_only (reduced.begin e dot is) k span b = cc
    leaf_only (reduced.pass m prev e at gives is) k span b = cc
    leaf_only {x = x} (reduced.take_leaf m prev own e at gives is) k span b =
        let same : m ≡ k = cc in
        let same_span : own ≡ span = cc in
        record {
          prev = prev;
          at = subst (λ (z : ℕ). slice_get items z ≡ Some prev) same at;
          gives = subst (λ (s : Span). Gives core text prev (leaf s) x) same_span gives;
        }
    leaf_only (reduced.take_node m v prev key e at at_v gives is) k span b = cc

    pub record TookNode (x : Item) (k v : ℕ) : Type 0 where
      pub prev : Item
      pub key : NodeKey
      pub at : slice_get items k ≡ Some prev
      pub at_key : slice_get keys v ≡ Some key
      pub gives : Gives core text prev (tree key) x

    pub node_only : {x : Item} {e : Entry} → IsEntry core text items keys x e → (k v : ℕ) → e ≡ Take k (child.Node v) →
        TookNode x k v
    node_only (reduced.begin e dot is) k v b = cc
    node_only (reduced.pass m prev e at gives is) k v b = cc
    node_only (reduced.take_leaf m prev own e at gives is) k v b = cc
    node_only (reduced.take_node m w prev key e at at_w gives is) k v b =
        let same : m ≡ k = cc in
        let same_number : w ≡ v = cc in
        record {
          prev = prev;
          key = key;
          at = subst (λ (z : ℕ). slice_get items z ≡ Some prev) same at;
          at_key = subst (λ (z : ℕ). slice_get keys z ≡ Some key) same_number at_w;
          gives = gives;
        }
