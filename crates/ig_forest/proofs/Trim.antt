-- The reduced forest is a forest, and its items stand behind the previous ones.
use Rattle.std.proofs.Common.{◌≡◌, ◌⊎◌, inl, inr, ℕ, zero, suc, ◌<◌, ◌≤◌, List, [], ◌∷◌, Some, slice_get, refl, sym, ap, ◌∙◌, subst, arith}
use Rattle.std.specs.Ordering.{nat_cmp, ordering_then}
use Rattle.std.specs.declared.cmp.Ordering.{Ordering}
use Rattle.std.specs.declared.cmp.Ordering.TheVariants.{Less, Equal}
use Rattle.std.proofs.lemmas.Cmp.{tied_itself}
use Rattle.std.proofs.lemmas.Option.{slice_get_within, same_Some}
use Rattle.ig_text.specs.Input.{Input}
use Rattle.ig_text.proofs.Lists.{at_from_contains, contains_from_at}
use Rattle.ig_text.proofs.Matching.{match_goes}
use Rattle.ig_text.proofs.Pairwise.{key_at, partner, same_length}
use Rattle.ig_text.proofs.Rising.{same_members, one_sorted, stands_before}
use Rattle.ig_text.proofs.Sorted.{less_number, equal_number}
use Rattle.ig_expr.specs.declared.value.Value.{Value}
use Rattle.ig_item.specs.Items.{Item, past}
use Rattle.ig_item.specs.declared.core_grammar.Nonterminal.{Nonterminal}
use Rattle.ig_item.specs.Laws.{ItemsAreInText}
use Rattle.ig_forest_tables.specs.Forest.{Forest, ItemNode, IsForest, IsPrevious, EntryFits, PreviousIsBefore, PreviousAreBefore, item_of}
use Rattle.ig_item.specs.Gives as rules
use Rattle.ig_item.specs.Gives.{Taken}
use Rattle.ig_forest_live.specs.Live.{Gives, root_key}
use Rattle.ig_expr.specs.ValueOrder.{values_cmp}
use Rattle.ig_expr.specs.Ordered.{list_total}
use Rattle.ig_forest_tables.specs.Orders.{item_cmp, entry_cmp}
use Rattle.ig_forest.specs.Reduced as reduced
use Rattle.ig_forest.specs.Reduced.{IsReduced, IsEntry, IsItemNode}
use Rattle.ig_forest_tables.specs.declared.entry.Entry.{Entry}
use Rattle.ig_forest_tables.specs.declared.entry.Entry.TheVariants.{Begin}
use Rattle.ig_forest.proofs.TotalOrders.{item_total, entry_total}
use Rattle.ig_forest.proofs.Steps.{given_dot}

then_tied : (a b : Ordering) → a ≡ Equal → b ≡ Less → ordering_then a b ≡ Less
then_tied a b p q = ap (λ (o : Ordering). ordering_then o b) p ∙ q

then_lower : (a b : Ordering) → a ≡ Less → ordering_then a b ≡ Less
then_lower a b p = ap (λ (o : Ordering). ordering_then o b) p

tied_or_lower : (a b : ℕ) → a ≤ b → (a < b) ⊎ (a ≡ b)
tied_or_lower a b h = grind arith

-- an item is below those behind it
below_past : (x : Item) (bound : List Value) (j : ℕ) → x.position ≤ j → item_cmp x (past x bound j) ≡ Less
below_past x bound j h =
    let dots = then_lower (nat_cmp x.dot (suc x.dot)) (values_cmp x.env (past x bound j).env) (less_number x.dot (suc x.dot) (omega arith)) in
    let rest = then_tied _ _ (equal_number x.instance.nonterminal x.instance.nonterminal refl) (then_tied _ _ (tied_itself list_total x.instance.values) (then_tied _ _ (equal_number x.alternative x.alternative refl) dots)) in
    then_tied _ _ (equal_number x.instance.start x.instance.start refl)
    (elim (tied_or_lower x.position j h) [
      | inl lt ↦ then_lower _ _ (less_number x.position j lt)
      | inr e ↦ then_tied _ _ (equal_number x.position j e) rest
    ])

module _ (in_text : ItemsAreInText) (core : List Nonterminal) (text : Input) where
  below_given : {prev x : Item} {taken : Taken} → Gives core text prev taken x → item_cmp prev x ≡ Less
  below_given (rules.test prev names e x reachable before holds is) =
      subst (λ (y : Item). item_cmp prev y ≡ Less) (sym is) (below_past prev [] prev.position (omega arith))
  below_given (rules.bind prev names name e v x reachable before has is) =
      subst (λ (y : Item). item_cmp prev y ≡ Less) (sym is) (below_past prev (v ∷ []) prev.position (omega arith))
  below_given (rules.terminal prev names what label excluded j taken x reachable before matches free t is) =
      subst (λ (y : Item). item_cmp prev y ≡ Less) (sym is)
      (below_past prev _ j (match_goes text what prev.position j matches).0)
  below_given (rules.return prev done label excluded key x reachable r calls c free is) =
      let h = (in_text core text done r).onward in
      let start : done.instance.start ≡ key.instance.start = ap (λ i. i.start) c.instance in
      subst (λ (y : Item). item_cmp prev y ≡ Less) (sym is)
      (below_past prev _ key.end (omega (arith, h, start, calls.here, c.end)))

  module _ (f : Forest) (r : IsReduced core text f) where
    previous_fits : (x : Item) (it : ItemNode) (k : ℕ) (prev : Item) (taken : Taken) → item_of it ≡ x →
        slice_get r.items k ≡ Some prev → Gives core text prev taken x → IsPrevious f it.dot k
    previous_fits x it k prev taken is at gives =
        let p = partner r.item_nodes k prev at in
        record {
          it = p.0;
          there = p.1;
          behind =
              ap (λ (y : Item). y.dot) is ∙ given_dot core text gives ∙ ap (λ (y : Item). suc y.dot) (sym p.2.item);
        }

    fits : (x : Item) (it : ItemNode) (e : Entry) → item_of it ≡ x → IsEntry core text r.items r.keys x e →
        EntryFits f it.dot e
    fits x it e is (reduced.begin _ dot e_is) =
        subst (λ (z : Entry). EntryFits f it.dot z) (sym e_is) (ap (λ (y : Item). y.dot) is ∙ dot)
    fits x it e is (reduced.pass k prev _ at gives e_is) =
        subst (λ (z : Entry). EntryFits f it.dot z) (sym e_is) (previous_fits x it k prev rules.nothing is at gives)
    fits x it e is (reduced.take_leaf k prev span _ at gives e_is) =
        subst (λ (z : Entry). EntryFits f it.dot z) (sym e_is) (previous_fits x it k prev (rules.leaf span) is at gives)
    fits x it e is (reduced.take_node k v prev key _ at at_v gives e_is) =
        let within = slice_get_within r.keys v key at_v in
        subst (λ (z : Entry). EntryFits f it.dot z) (sym e_is) (
          previous_fits x it k prev (rules.tree key) is at gives,
          omega (arith, within, same_length r.nodes),
        )

    first_entry : (x : Item) (e : Entry) → x.dot ≡ 0 → IsEntry core text r.items r.keys x e → e ≡ Begin
    first_entry x e dot (reduced.begin _ d e_is) = e_is
    first_entry x e dot (reduced.pass k prev _ at gives e_is) =
        let further = given_dot core text gives in absurd (omega arith)
    first_entry x e dot (reduced.take_leaf k prev span _ at gives e_is) =
        let further = given_dot core text gives in absurd (omega arith)
    first_entry x e dot (reduced.take_node k v prev key _ at at_v gives e_is) =
        let further = given_dot core text gives in absurd (omega arith)

    only : (e : Entry) (k : ℕ) → slice_get (Begin ∷ []) k ≡ Some e → e ≡ Begin
    only e zero at = sym (same_Some Begin e at)
    only e (suc k) at = cc

    begins : (x : Item) (it : ItemNode) → x.dot ≡ 0 → IsItemNode core text r.items r.keys x it → it.entries ≡ Begin ∷ []
    begins x it dot n =
        same_members entry_cmp entry_total (IsEntry core text r.items r.keys x) it.entries (Begin ∷ []) n.order
        (one_sorted entry_cmp Begin) n.entries
        (λ e. (
          λ c. let at = at_from_contains (Begin ∷ []) e c in reduced.begin e dot (only e at.0 at.1),
          λ h. contains_from_at (Begin ∷ []) 0 e (ap Some (sym (first_entry x e dot h))),
        ))

    pub is_forest : IsForest f
    is_forest =
        record {
          root =
              let within = slice_get_within r.keys f.root (root_key text) r.root in
              omega (arith, within, same_length r.nodes);
          alternatives =
              λ v node choice at among.
              let n = key_at r.nodes v node at in
              let c = (n.2.choices choice).0 among in
              let within = slice_get_within r.items choice.item c.item c.numbered in
              omega (arith, within, same_length r.item_nodes);
          begin =
              λ k it at dot.
              let n = key_at r.item_nodes k it at in
              begins n.0 it (ap (λ (y : Item). y.dot) (sym n.2.item) ∙ dot) n.2;
          entries =
              λ k it e at among.
              let n = key_at r.item_nodes k it at in fits n.0 it e n.2.item ((n.2.entries e).0 among);
        }

    comes_before : (k m : ℕ) (x prev : Item) (taken : Taken) → slice_get r.items k ≡ Some x → slice_get r.items m ≡ Some prev →
        Gives core text prev taken x → m < k
    comes_before k m x prev taken at at_prev gives =
        stands_before item_cmp item_total r.items m k prev x r.are_items.order at_prev at (below_given gives)

    before : (k : ℕ) (x : Item) (e : Entry) → slice_get r.items k ≡ Some x → IsEntry core text r.items r.keys x e →
        PreviousIsBefore k e
    before k x e at (reduced.begin _ d e_is) = subst (PreviousIsBefore k) (sym e_is) tt
    before k x e at (reduced.pass m prev _ at_prev gives e_is) =
        subst (PreviousIsBefore k) (sym e_is) (comes_before k m x prev rules.nothing at at_prev gives)
    before k x e at (reduced.take_leaf m prev span _ at_prev gives e_is) =
        subst (PreviousIsBefore k) (sym e_is) (comes_before k m x prev (rules.leaf span) at at_prev gives)
    before k x e at (reduced.take_node m v prev key _ at_prev at_v gives e_is) =
        subst (PreviousIsBefore k) (sym e_is) (comes_before k m x prev (rules.tree key) at at_prev gives)

    pub onward_items : PreviousAreBefore f
    onward_items k it e at among =
        let n = key_at r.item_nodes k it at in before k n.0 e n.1 ((n.2.entries e).0 among)
