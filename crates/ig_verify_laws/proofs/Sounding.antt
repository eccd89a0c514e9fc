-- The reduced forest is sound.
use Rattle.std.proofs.Common.{◌≡◌, ℕ, suc, List, All, Contains, Some, slice_get, get_or, refl, sym, ap, ◌∙◌, subst, arith}
use Rattle.std.proofs.lemmas.Option.{same_Some, slice_get-get_or}
use Rattle.ig_text.specs.Input.{Input}
use Rattle.ig_text.proofs.Lists.{contains_from_at}
use Rattle.ig_text.proofs.Pairwise.{partner, key_at}
use Rattle.ig_text.specs.Tree.{Trees}
use Rattle.ig_item.specs.Items.{Item, Reachable}
use Rattle.ig_item.specs.ItemTrees as reached
use Rattle.ig_item.specs.ItemTrees.{Comes}
use Rattle.ig_item.specs.Gives as rules
use Rattle.ig_item.specs.Gives.{NodeKey, Taken, nothing, leaf, tree, Completes, Gives}
use Rattle.ig_item.specs.Laws.{EnvironmentsFit, EnvironmentFits, ItemsAreInText, IsInText, ItemsByTrees}
use Rattle.ig_item.specs.Step.{Test, Bind, Term, Call}
use Rattle.ig_item.specs.WellKinded.{IsWellKinded}
use Rattle.ig_item.specs.declared.core_grammar.Nonterminal.{Nonterminal}
use Rattle.ig_forest_tables.specs.Forest.{Forest, Node, ItemNode, IsForest, item_of}
use Rattle.ig_forest_tables.specs.declared.entry.Choice.{Choice}
use Rattle.ig_forest_tables.specs.declared.entry.Entry.{Entry}
use Rattle.ig_verify.specs.Takes.{Takes}
use Rattle.ig_verify.specs.Sound.{ChoiceFits, ItemFits, ComesFrom, EntryFollows, NodeHolds, EntriesHold, key_of}
use Rattle.ig_forest_live.specs.Live as live
use Rattle.ig_forest_live.specs.Live.{IsLive, root_key}
use Rattle.ig_forest.specs.Reduced as reduced
use Rattle.ig_forest.specs.Reduced.{IsReduced, IsNode, IsItemNode, IsEntry, IsChoice}
use Rattle.ig_verify_laws.specs.ReducedLaws.{ReducedIsSound}

each_member : {X : Type 0} (P : X → Type 0) (xs : List X) → ((x : X) → Contains xs x → P x) → All P xs
each_member P xs h k d lt = h (get_or xs k d) (contains_from_at xs k (get_or xs k d) (slice_get-get_or xs k d lt))

module _ (core : List Nonterminal) (text : Input) where
  previous_reachable : {known : Item → Type 0} {prev x : Item} {taken : Taken} → Gives core text known prev taken x → known prev
  previous_reachable (rules.test prev names e x k before holds is) = k
  previous_reachable (rules.bind prev names name e v x k before has is) = k
  previous_reachable (rules.terminal prev names what label excluded j taken x k before matches free t is) = k
  previous_reachable (rules.return prev done label excluded key x k l calls c free is) = k

  live_reachable : (x : Item) → IsLive core text x → Reachable core text x
  live_reachable _ (live.root x reachable root end) = reachable
  live_reachable _ (live.previous x prev taken l gives) = previous_reachable gives
  live_reachable _ (live.child x prev done key l gives reachable completes) = reachable

  -- a rule takes what the step takes
  takes_of : {known : Item → Type 0} {prev x : Item} {taken : Taken} → Gives core text known prev taken x →
      Takes core text prev taken x
  takes_of (rules.test prev names e x k before holds is) =
      record { names = names; step = Test e; before = before; takes = (holds, is) }
  takes_of (rules.bind prev names name e v x k before has is) =
      record { names = names; step = Bind name e; before = before; takes = (v, has, is) }
  takes_of (rules.terminal prev names what label excluded j taken x k before matches free t is) =
      subst (λ (z : Taken). Takes core text prev z x) (sym t)
      (record { names = names; step = Term what label excluded; before = before; takes = (refl, matches, free, is) })
  takes_of (rules.return prev done label excluded key x k l calls c free is) =
      record {
        names = calls.names;
        step = Call key.instance.nonterminal calls.arguments label excluded;
        before = calls.before;
        takes = (refl, calls.here, calls.values, free, is);
      }

  -- an item of dot 0 that steps lead to
  begins : {x : Item} {ts : Trees} → Comes core text x ts → x.dot ≡ 0 → (x.position ≡ x.instance.start) × (x.env ≡ x.instance.values)
  begins (reached.begin instance a x e) dot = (
    ap (λ (y : Item). y.position) e ∙ sym (ap (λ (y : Item). y.instance.start) e),
    ap (λ (y : Item). y.env) e ∙ sym (ap (λ (y : Item). y.instance.values) e),
  )
  begins (reached.further it bound j ts us vs x comes passes is joins) dot =
      let further : x.dot ≡ suc it.dot = ap (λ (y : Item). y.dot) is in absurd (omega (arith, further, dot))

  -- a complete item of a node, under other names
  completes_as : (x y : Item) (key other : NodeKey) → x ≡ y → key ≡ other → (c : Completes core x key) →
      (d : Completes core y other) × (d.complete.alternative.tag ≡ c.complete.alternative.tag)
  completes_as x y key other p q c =
      subst (λ (k : NodeKey). (d : Completes core y k) × (d.complete.alternative.tag ≡ c.complete.alternative.tag)) q
      (subst (λ (z : Item). (d : Completes core z key) × (d.complete.alternative.tag ≡ c.complete.alternative.tag)) p (c, refl))

same_key : (key : NodeKey) (node : Node) → node.nonterminal ≡ key.instance.nonterminal → node.values ≡ key.instance.values →
    node.span.begin ≡ key.instance.start → node.span.end ≡ key.end → key ≡ key_of node
same_key key node a b c d =
    λ i. record { instance = record { nonterminal = sym a i; values = sym b i; start = sym c i }; end = sym d i }

module _ (fit : EnvironmentsFit) (in_text : ItemsAreInText) (by_trees : ItemsByTrees) (core : List Nonterminal)
    (text : Input) (well : IsWellKinded core) (f : Forest) (r : IsReduced core text f) (is : IsForest f) where
  reachable_at : (k : ℕ) (x : Item) → slice_get r.items k ≡ Some x → Reachable core text x
  reachable_at k x at = live_reachable core text x ((r.are_items.members x).0 (contains_from_at r.items k x at))

  choice_fits : (key : NodeKey) (node : Node) → IsNode core r.items key node → (choice : Choice) →
      Contains node.alternatives choice → ChoiceFits core f node choice
  choice_fits key node n choice c =
      let ch = (n.choices choice).0 c in
      let it = partner r.item_nodes choice.item ch.item ch.numbered in
      let d = completes_as core text ch.item (item_of it.0) key (key_of node) (sym it.2.item)
      (same_key key node n.nonterminal n.values n.begin n.end) ch.completes in
      record { it = it.0; there = it.1; completes = d.0; tagged = ch.tagged ∙ sym d.1 }

  node_holds : (v : ℕ) (node : Node) → slice_get f.nodes v ≡ Some node → NodeHolds core text f v node
  node_holds v node at =
      let k = key_at r.nodes v node at in
      record {
        root = λ e.
            let same : k.0 ≡ root_key text = same_Some k.0 (root_key text) (sym k.1 ∙ ap (slice_get r.keys) e ∙ r.root) in
            record {
              of_root = k.2.nonterminal ∙ ap (λ (z : NodeKey). z.instance.nonterminal) same;
              plain = k.2.values ∙ ap (λ (z : NodeKey). z.instance.values) same;
              begin = k.2.begin ∙ ap (λ (z : NodeKey). z.instance.start) same;
              end = k.2.end ∙ ap (λ (z : NodeKey). z.end) same;
            };
        choices = each_member (ChoiceFits core f node) node.alternatives (choice_fits k.0 node k.2);
      }

  item_fits : (k : ℕ) (it : ItemNode) → slice_get f.items k ≡ Some it → ItemFits core text it
  item_fits k it at =
      let x = key_at r.item_nodes k it at in
      record {
        environment = subst (EnvironmentFits core) (sym x.2.item) (fit core text x.0 well (reachable_at k x.0 x.1));
        positions = subst (IsInText text) (sym x.2.item) (in_text core text x.0 (reachable_at k x.0 x.1));
      }

  comes_from : (it : ItemNode) (k : ℕ) (prev x : Item) (taken : Taken) → item_of it ≡ x → slice_get r.items k ≡ Some prev →
      Takes core text prev taken x → ComesFrom core text f it k taken
  comes_from it k prev x taken e at takes =
      let p = partner r.item_nodes k prev at in
      record {
        before = p.0;
        there = p.1;
        takes =
            subst (λ (y : Item). Takes core text y taken (item_of it)) (sym p.2.item)
            (subst (λ (y : Item). Takes core text prev taken y) (sym e) takes);
      }

  entry_follows : (it : ItemNode) (x : Item) (e : Entry) → item_of it ≡ x → IsEntry core text r.items r.keys x e →
      EntryFollows core text f it e
  entry_follows it x e same (reduced.begin _ dot e_is) =
      subst (EntryFollows core text f it) (sym e_is) (ap (λ (y : Item). y.dot) same ∙ dot)
  entry_follows it x e same (reduced.pass k prev _ at gives e_is) =
      subst (EntryFollows core text f it) (sym e_is) (comes_from it k prev x nothing same at (takes_of core text gives))
  entry_follows it x e same (reduced.take_leaf k prev span _ at gives e_is) =
      subst (EntryFollows core text f it) (sym e_is) (comes_from it k prev x (leaf span) same at (takes_of core text gives))
  entry_follows it x e same (reduced.take_node k v prev key _ at at_v gives e_is) =
      let n = partner r.nodes v key at_v in
      let named = same_key key n.0 n.2.nonterminal n.2.values n.2.begin n.2.end in
      subst (EntryFollows core text f it) (sym e_is) (
        n.0,
        n.1,
        comes_from it k prev x (tree (key_of n.0)) same at
            (subst (λ (z : NodeKey). Takes core text prev (tree z) x) named (takes_of core text gives)),
      )

  entries_hold : (k : ℕ) (it : ItemNode) → slice_get f.items k ≡ Some it → EntriesHold core text f it
  entries_hold k it at =
      let x = key_at r.item_nodes k it at in
      record {
        begin = λ dot.
            let dot_is : x.0.dot ≡ 0 = sym (ap (λ (y : Item). y.dot) x.2.item) ∙ dot in
            let c = (by_trees core text x.0).0 (reachable_at k x.0 x.1) in
            let b = begins core text c.2 dot_is in
            record {
              entries = is.begin k it at dot;
              here = ap (λ (y : Item). y.position) x.2.item ∙ b.0 ∙ sym (ap (λ (y : Item). y.instance.start) x.2.item);
              unbound = ap (λ (y : Item). y.env) x.2.item ∙ b.1 ∙ sym (ap (λ (y : Item). y.instance.values) x.2.item);
            };
        further = λ dot.
            each_member (EntryFollows core text f it) it.entries
            (λ e c. entry_follows it x.0 e x.2.item ((x.2.entries e).0 c));
      }

pub reduced_is_sound : EnvironmentsFit → ItemsAreInText → ItemsByTrees → ReducedIsSound
reduced_is_sound fit in_text by_trees core text f well r is =
    record {
      nodes = node_holds fit in_text by_trees core text well f r is;
      items = item_fits fit in_text by_trees core text well f r is;
      entries = entries_hold fit in_text by_trees core text well f r is;
    }
