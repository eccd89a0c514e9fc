-- The reduced forest is a draft of its core grammar.
use Rattle.std.proofs.Common.{◌≡◌, ◌∙◌, ℕ, ◌<◌, ◌≤◌, ◌++◌, List, map, All, Contains, Some, length, slice_get, get_or, refl, sym, ap, subst, arith, lit<}
use Rattle.std.proofs.lemmas.List.{length-map}
use Rattle.std.proofs.lemmas.Option.{slice_get-get_or, slice_get_within}
use Rattle.ig_text.specs.Input.{Input, KeepsLimits}
use Rattle.ig_text.proofs.Lists.{at_from_contains, contains_from_at, mapped_at}
use Rattle.ig_text.proofs.Pairwise.{partner, key_at, same_length}
use Rattle.ig_text.specs.Limits.{numbers_end, most_characters}
use Rattle.ig_text.specs.declared.text.Span.{Span}
use Rattle.ig_expr.specs.declared.value.Value.{Value}
use Rattle.ig_item.specs.Core.{IsAlternative, dots}
use Rattle.ig_item.specs.Gives as rules
use Rattle.ig_item.specs.Gives.{NodeKey, Taken, leaf, tree, Completes}
use Rattle.ig_item.specs.Items.{Item, Reachable}
use Rattle.ig_item.specs.Laws.{AlternativesAreOne, EnvironmentsFit, EnvironmentsGrow, ItemsAreInText, ReachableIsClosed}
use Rattle.ig_item.specs.Limits.{most_dots}
use Rattle.ig_item.specs.declared.core_grammar.Nonterminal.{Nonterminal}
use Rattle.ig_item.specs.declared.items.Instance.{Instance}
use Rattle.ig_forest_live.specs.Live.{Gives, root_key}
use Rattle.ig_forest_tables.specs.Forest.{Forest, Node, ItemNode}
use Rattle.ig_forest_tables.specs.declared.entry.Choice.{Choice}
use Rattle.ig_forest_tables.specs.declared.entry.Entry.{Entry}
use Rattle.ig_forest.specs.Laws.{LiveIsReachable, ReducedHasNoKeyTwice, ReducedIsTrim}
use Rattle.ig_forest.specs.Reduced as reduced
use Rattle.ig_forest.specs.Reduced.{IsReduced, IsNode, IsItemNode, IsEntry, IsChoice}
use Rattle.ig_forest_reader.specs.Written.{IsDraftOf, IsItemOf, IsNamed, IsNodeOf, IsSmall, IsSmallEntry, IsSmallSpan, IsSmallTag, IsTagOf, HasFirstRoot}
use Rattle.ig_verify_laws.specs.Ranges.{IsWritable}
use Rattle.ig_verify_laws.specs.ReducedLaws.{AlternativesAreFew, ItemsAreSmall, ReducedIsDraft}
use Rattle.ig_verify_laws.proofs.Few.{at_most}
use Rattle.ig_verify_laws.proofs.Uncalled.{root_at_end, root_is_one}

pub record Given : Type 0 where
  pub few : AlternativesAreFew
  pub one : AlternativesAreOne
  pub fit : EnvironmentsFit
  pub grow : EnvironmentsGrow
  pub in_text : ItemsAreInText
  pub small : ItemsAreSmall
  pub live : LiveIsReachable
  pub twice : ReducedHasNoKeyTwice
  pub closed : ReachableIsClosed
  pub trim : ReducedIsTrim

each_member : {X : Type 0} (P : X → Type 0) (xs : List X) → ((x : X) → Contains xs x → P x) → All P xs
each_member P xs h k d lt = h (get_or xs k d) (contains_from_at xs k (get_or xs k d) (slice_get-get_or xs k d lt))

each_place : {X : Type 0} (P : X → Type 0) (xs : List X) → ((k : ℕ) (x : X) → slice_get xs k ≡ Some x → P x) → All P xs
each_place P xs h k d lt = h k (get_or xs k d) (slice_get-get_or xs k d lt)

below : (a b c : ℕ) → a ≤ b → b < c → a < c
below a b c h k = omega (arith, h, k)

-- the key of an item that completes a node
abbrev key_by : Item → NodeKey
key_by x = record { instance = x.instance; end = x.position }

same_span : (s t : Span) → s.begin ≡ t.begin → s.end ≡ t.end → s ≡ t
same_span s t e f = λ i. record { begin = e i; end = f i }

module _ (given : Given) (core : List Nonterminal) (text : Input) (w : IsWritable core)
    (short : KeepsLimits text) (f : Forest) (r : IsReduced core text f) (few : length f.items < numbers_end) where
  reachable : (x : Item) → Contains r.items x → Reachable core text x
  reachable x c = given.live core text x ((r.are_items.members x).0 c)

  reachable_at : (k : ℕ) (x : Item) → slice_get r.items k ≡ Some x → Reachable core text x
  reachable_at k x at = reachable x (contains_from_at r.items k x at)

  place_small : (p : ℕ) → p ≤ length text.characters → p < numbers_end
  place_small p h = below p (length text.characters) numbers_end h (below (length text.characters) most_characters numbers_end short.few (lit< tt))

  start_small : (x : Item) → Reachable core text x → x.instance.start < numbers_end
  start_small x reach =
      let is = given.in_text core text x reach in
      let onward = is.onward in let within = is.within in place_small x.instance.start (omega (arith, onward, within))

  position_small : (x : Item) → Reachable core text x → x.position < numbers_end
  position_small x reach = place_small x.position (given.in_text core text x reach).within

  dots_small : (n : ℕ) → n ≤ dots core → n < numbers_end
  dots_small n h = below n (dots core) numbers_end h (below (dots core) most_dots numbers_end w.well.few_dots (lit< tt))

  item_small : (k : ℕ) (x : Item) → slice_get r.items k ≡ Some x → k < numbers_end
  item_small k x at =
      let within = slice_get_within r.items k x at in
      let long = same_length r.item_nodes in omega (arith, within, long, few)

  -- the key of a node is that of one of its items
  record OfItem (key : NodeKey) : Type 0 where
    item : Item
    among : Contains r.items item
    completes : Completes core item key

  item_of_key : (v : ℕ) (key : NodeKey) → slice_get r.keys v ≡ Some key → OfItem key
  item_of_key v key at =
      let h = (r.are_nodes.members key).0 (contains_from_at r.keys v key at) in
      record { item = h.0; among = h.1; completes = h.2 }

  key_is : (x : Item) (key : NodeKey) → Completes core x key → key_by x ≡ key
  key_is x key c = λ i. record { instance = c.instance i; end = c.end i }

  keys_differ : (i j : ℕ) (key : NodeKey) → slice_get r.keys i ≡ Some key → slice_get r.keys j ≡ Some key → i ≡ j
  keys_differ i j key at also =
      let x = partner r.nodes i key at in
      let y = partner r.nodes j key also in
      (given.twice core text f r).nodes i j x.0 y.0 x.1 y.1 (x.2.nonterminal ∙ sym y.2.nonterminal) (x.2.values ∙ sym y.2.values)
      (same_span x.0.span y.0.span (x.2.begin ∙ sym y.2.begin) (x.2.end ∙ sym y.2.end))

  -- so there are no more nodes than items
  few_keys : length r.keys ≤ length (map key_by r.items)
  few_keys =
      at_most r.keys (map key_by r.items) keys_differ
      (λ v key at.
      let x = item_of_key v key at in
      let k = at_from_contains r.items x.item x.among in
      (k.0, mapped_at key_by r.items k.0 x.item k.1 ∙ ap Some (key_is x.item key x.completes)))

  few_nodes : length f.nodes < numbers_end
  few_nodes =
      let keys = few_keys in
      let mapped = length-map r.items key_by in
      let nodes = same_length r.nodes in
      let items = same_length r.item_nodes in
      omega (arith, keys, mapped, nodes, items, few)

  node_small : (v : ℕ) (key : NodeKey) → slice_get r.keys v ≡ Some key → v < numbers_end
  node_small v key at =
      let within = slice_get_within r.keys v key at in
      let nodes = same_length r.nodes in let less = few_nodes in omega (arith, within, nodes, less)

  -- a leaf is a span of the text
  leaf_small : {prev x : Item} {taken : Taken} → Gives core text prev taken x → (span : Span) → taken ≡ leaf span →
      Reachable core text x → IsSmallSpan span
  leaf_small (rules.test prev names e x k before holds is) span same reach = absurd (cc)
  leaf_small (rules.bind prev names name e v x k before has is) span same reach = absurd (cc)
  leaf_small (rules.terminal prev names what label excluded j taken x k before matches free t is) span same reach =
      let one : leaf (record { begin = prev.position; end = j }) ≡ leaf span = sym t ∙ same in
      let is_span : record { begin = prev.position; end = j } ≡ span = cc in
      subst IsSmallSpan is_span
      (record {
        begin = position_small prev k;
        end = subst (λ (p : ℕ). p < numbers_end) (ap (λ (y : Item). y.position) is) (position_small x reach);
      })
  leaf_small (rules.return prev done label excluded key x k l calls c free is) span same reach = absurd (cc)

  entry_small : (x : Item) (e : Entry) → Reachable core text x → IsEntry core text r.items r.keys x e → IsSmallEntry e
  entry_small x e reach (reduced.begin _ dot is) = subst IsSmallEntry (sym is) tt
  entry_small x e reach (reduced.pass k prev _ at gives is) = subst IsSmallEntry (sym is) (item_small k prev at)
  entry_small x e reach (reduced.take_leaf k prev span _ at gives is) =
      subst IsSmallEntry (sym is) (item_small k prev at, leaf_small gives span refl reach)
  entry_small x e reach (reduced.take_node k v prev key _ at at_v gives is) =
      subst IsSmallEntry (sym is) (item_small k prev at, node_small v key at_v)

  item_is : (k : ℕ) (it : ItemNode) → slice_get f.items k ≡ Some it → IsItemOf core it
  item_is k it at =
      let x = key_at r.item_nodes k it at in
      let reach = reachable_at k x.0 x.1 in
      let small = given.small core text x.0 short w.integers reach in
      let fits = given.fit core text x.0 w.well reach in
      let many = given.few core x.0.instance.nonterminal x.0.alternative fits.nonterminal fits.alternative fits.has in
      let within = fits.within in
      let steps = many.1 in
      record {
        named =
            subst (λ (n : ℕ). IsNamed core n it.name) (sym (ap (λ (y : Item). y.instance.nonterminal) x.2.item)) x.2.name;
        values = subst (λ (y : Item). All IsSmall y.instance.values) (sym x.2.item) small.values;
        env = subst (λ (y : Item). All IsSmall y.env) (sym x.2.item) small.env;
        start = subst (λ (y : Item). y.instance.start < numbers_end) (sym x.2.item) (start_small x.0 reach);
        alternative = subst (λ (y : Item). y.alternative < numbers_end) (sym x.2.item) (dots_small x.0.alternative many.0);
        dot =
            subst (λ (y : Item). y.dot < numbers_end) (sym x.2.item)
            (dots_small x.0.dot (omega (arith, within, steps)));
        position = subst (λ (y : Item). y.position < numbers_end) (sym x.2.item) (position_small x.0 reach);
        entries = each_member IsSmallEntry it.entries (λ e c. entry_small x.0 e reach ((x.2.entries e).0 c));
      }

  tag_is : (key : NodeKey) (node : Node) → IsNode core r.items key node → (choice : Choice) →
      Contains node.alternatives choice → IsTagOf core node.nonterminal choice
  tag_is key node n choice c =
      let ch = (n.choices choice).0 c in
      let complete = ch.completes.complete in
      record {
        a = ch.item.alternative;
        nonterminal = complete.nonterminal;
        alternative = complete.alternative;
        has =
            subst (λ (m : ℕ). IsAlternative core m ch.item.alternative complete.nonterminal complete.alternative)
            (ap (λ (i : Instance). i.nonterminal) ch.completes.instance ∙ sym n.nonterminal) complete.has;
        tag = ch.tagged;
        small =
            subst IsSmallTag (sym ch.tagged)
            (w.tags ch.item.instance.nonterminal ch.item.alternative complete.nonterminal complete.alternative complete.has);
        item = item_small choice.item ch.item ch.numbered;
      }

  node_is : (v : ℕ) (node : Node) → slice_get f.nodes v ≡ Some node → IsNodeOf core node
  node_is v node at =
      let k = key_at r.nodes v node at in
      let x = item_of_key v k.0 k.1 in
      let reach = reachable x.item x.among in
      let n = k.2 in
      record {
        named = subst (λ (m : ℕ). IsNamed core m node.name) (sym n.nonterminal) n.name;
        values =
            subst (All IsSmall) (ap (λ (i : Instance). i.values) x.completes.instance ∙ sym n.values)
            (given.small core text x.item short w.integers reach).values;
        span = record {
          begin =
              subst (λ (p : ℕ). p < numbers_end) (ap (λ (i : Instance). i.start) x.completes.instance ∙ sym n.begin)
              (start_small x.item reach);
          end = subst (λ (p : ℕ). p < numbers_end) (x.completes.end ∙ sym n.end) (position_small x.item reach);
        };
        tags = each_member (IsTagOf core node.nonterminal) node.alternatives (tag_is k.0 node n);
      }

  -- a node of the root has the root's key
  root_key_is : (v : ℕ) (key : NodeKey) → slice_get r.keys v ≡ Some key → key.instance.nonterminal ≡ 0 → key ≡ root_key text
  root_key_is v key at zero =
      let x = item_of_key v key at in
      let reach = reachable x.item x.among in
      let of_root : x.item.instance.nonterminal ≡ 0 = ap (λ (i : Instance). i.nonterminal) x.completes.instance ∙ zero in
      let instance = root_is_one core text w.uncalled x.item reach of_root in
      let end =
      root_at_end core text w.uncalled given.one x.item ((r.are_items.members x.item).0 x.among) of_root x.completes.complete in
      sym (key_is x.item key x.completes) ∙
      (λ i. record { instance = instance i; end = end i })

  first_root : HasFirstRoot f
  first_root =
      let n = partner r.nodes f.root (root_key text) r.root in
      record {
        node = n.0;
        there = n.1;
        of_root = n.2.nonterminal;
        first = λ v other less at zero.
            let k = key_at r.nodes v other at in
            let is = root_key_is v k.0 k.1 (sym k.2.nonterminal ∙ zero) in
            let same = keys_differ v f.root (root_key text) (k.1 ∙ ap Some is) r.root in
            omega (arith, less, same);
      }

  begins : (k : ℕ) (it : ItemNode) → slice_get f.items k ≡ Some it → (bound : List Value) × (it.env ≡ it.values ++ bound)
  begins k it at =
      let x = key_at r.item_nodes k it at in
      subst (λ (y : Item). (bound : List Value) × (y.env ≡ y.instance.values ++ bound)) (sym x.2.item)
      (given.grow core text x.0 (reachable_at k x.0 x.1))

  is_draft : IsDraftOf core f
  is_draft =
      record {
        draft = record { forest = (given.trim core text f w.well r).forest; begins = begins };
        few_nodes = few_nodes;
        few_items = few;
        nodes = each_place (IsNodeOf core) f.nodes node_is;
        items = each_place (IsItemOf core) f.items item_is;
        root = first_root;
      }

pub reduced_is_draft : Given → ReducedIsDraft
reduced_is_draft given core text f w short r few = is_draft given core text w short f r few
