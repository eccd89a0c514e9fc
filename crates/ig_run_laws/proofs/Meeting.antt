-- Callers and callees meet in the stacks.
use Rattle.std.proofs.Common.{◌≡◌, ◌⊎◌, ⊎_elim, inl, inr, ℕ, List, [], ◌∷◌, Some, Contains, refl, sym, ap, ◌∙◌, subst, slice_get}
use Rattle.std.proofs.lemmas.Option.{same_Some}
use Rattle.ig_text.specs.Input.{Input}
use Rattle.ig_text.proofs.Lists.{at_from_contains, mapped_at}
use Rattle.ig_expr.specs.declared.value.Value.{Value}
use Rattle.ig_item.specs.Gives.{NodeKey}
use Rattle.ig_item.specs.Items as items
use Rattle.ig_item.specs.Items.{Item, Follows, IsComplete, past, span_of, root_instance}
use Rattle.ig_item.specs.Ways.{IsEnd}
use Rattle.ig_item.specs.WellKinded.{NoneTwice}
use Rattle.ig_item.specs.declared.core_grammar.Nonterminal.{Nonterminal}
use Rattle.ig_item.specs.declared.items.Instance.{Instance}
use Rattle.ig_run_laws.specs.Rules.{IsCaller}
use Rattle.ig_run_laws.specs.Stacks.{Node, Pop, AreStacks, HaveNodes, HasEdge, HasPop, HasEnd, IsCalled, IsEndOf, IsFirstThere, Meets, Waits, keys_of, pop}
use Rattle.ig_run_laws.proofs.After.{node_of}
use Rattle.ig_run_laws.proofs.Known.{IsKnownToo}
use Rattle.ig_run_laws.proofs.Steps.{ends_call_nothing}

caller_at : (core : List Nonterminal) (text : Input) (it : Item) (a b : Instance) → a ≡ b → IsCaller core text it a → IsCaller core text it b
caller_at core text it a b e c = subst (IsCaller core text it) e c

-- no key has two nodes
pub one_node : (nodes : List Node) (n m : Node) → NoneTwice (keys_of nodes) → Contains nodes n → Contains nodes m → n.key ≡ m.key → n ≡ m
one_node nodes n m once c d e =
    let i = at_from_contains nodes n c in
    let j = at_from_contains nodes m d in
    let same : i.0 ≡ j.0 =
    once i.0 j.0 m.key (mapped_at (λ (z : Node). z.key) nodes i.0 n i.1 ∙ ap Some e) (mapped_at (λ (z : Node). z.key) nodes j.0 m j.1) in
    same_Some n m (sym i.1 ∙ ap (slice_get nodes) same ∙ j.1)

same_pop : (p q : Pop) → p.end ≡ q.end → p.done ≡ q.done → p ≡ q
same_pop p q e d = λ i. record { end = e i; done = d i }

-- an instance ended once at one position
pub one_pop : (core : List Nonterminal) (text : Input) (known : Item → Type 0) (found : List Item) (nodes : List Node) →
    AreStacks core text known found nodes → (i : Instance) (p q : Pop) → HasPop nodes i p → HasPop nodes i q → p.end ≡ q.end → p ≡ q
one_pop core text known found nodes s i p q a b e =
    let n = one_node nodes b.0 a.0 s.once b.1 a.1 (b.2 ∙ sym a.2) in
    s.ends_once a.0 a.1 p q a.3 (subst (λ (z : Node). Contains z.pops q) n b.3) e

-- a known end is one of more items, in which the known ones keep their numbers
pub end_more : (core : List Nonterminal) (known wider : Item → Type 0) (found more : List Item) (i j : NodeKey) (d : ℕ) →
    ((y : Item) → known y → wider y) → ((k : ℕ) (y : Item) → slice_get found k ≡ Some y → slice_get more k ≡ Some y) →
    i ≡ j → IsEnd core known found i d → IsEnd core wider more j d
end_more core known wider found more i j d still keeps same e =
    subst (λ (z : NodeKey). IsEnd core wider more z d) same
    (record { item = e.item; there = keeps d e.item e.there; is_known = still e.item e.is_known; completes = e.completes })

module _ (core : List Nonterminal) (text : Input) (known wider : Item → Type 0) (found : List Item) (it : Item) (k : ℕ)
    (nodes after : List Node) (s : AreStacks core text known found nodes) (h : HaveNodes found nodes)
    (too : IsKnownToo known wider found it k) (m : Meets core text it k nodes after)
    (first_there : IsComplete core it → IsFirstThere nodes it) where
  keys_forth : (i : Instance) → Contains (keys_of after) i → (i ≡ root_instance) ⊎ IsCalled core text wider i
  keys_forth i c =
      ⊎_elim
      (λ (old : Contains (keys_of nodes) i).
      ⊎_elim (λ (e : i ≡ root_instance). inl e)
      (λ (d : IsCalled core text known i). inr (record { item = d.item; is_known = too.still d.item d.is_known; calls = d.calls }))
      ((s.keys i).0 old))
      (λ (d : IsCaller core text it i). inr (record { item = it; is_known = too.is_known; calls = d }))
      ((m.keys i).0 c)

  called_back : (i : Instance) → IsCalled core text wider i → Contains (keys_of after) i
  called_back i d =
      ⊎_elim
      (λ (o : known d.item).
      (m.keys i).1 (inl ((s.keys i).1 (inr (record { item = d.item; is_known = o; calls = d.calls })))))
      (λ (e : d.item ≡ it). (m.keys i).1 (inr (subst (λ (z : Item). IsCaller core text z i) e d.calls)))
      (too.or d.item d.is_known)

  keys_back : (i : Instance) → (i ≡ root_instance) ⊎ IsCalled core text wider i → Contains (keys_of after) i
  keys_back i c = ⊎_elim (λ (e : i ≡ root_instance). (m.keys i).1 (inl ((s.keys i).1 (inl e)))) (called_back i) c

  edges_forth : (node : Node) → Contains after node → (e : ℕ) → Contains node.edges e → Waits core text wider found node.key e
  edges_forth node there e c =
      ⊎_elim
      (λ (o : HasEdge nodes node.key e).
      let w = (s.edges o.0 o.1 e).0 o.3 in
      record {
        item = w.item;
        there = w.there;
        is_known = too.still w.item w.is_known;
        calls = caller_at core text w.item o.0.key node.key o.2 w.calls;
      })
      (λ (n : IsCaller core text it node.key × (e ≡ k)).
      record { item = it; there = ap (slice_get found) n.1 ∙ too.there; is_known = too.is_known; calls = n.0 })
      ((m.edges node there e).0 c)

  edges_back : (node : Node) → Contains after node → (e : ℕ) → Waits core text wider found node.key e → Contains node.edges e
  edges_back node there e w =
      (m.edges node there e).1
      (⊎_elim
      (λ (o : known w.item).
      let d = node_of nodes node.key ((s.keys node.key).1 (inr (record { item = w.item; is_known = o; calls = w.calls }))) in
      inl (
        d.0,
        d.1,
        d.2,
        (s.edges d.0 d.1 e).1
            (record { item = w.item; there = w.there; is_known = o; calls = caller_at core text w.item node.key d.0.key (sym d.2) w.calls }),
      ))
      (λ (f : w.item ≡ it).
      inr (subst (λ (z : Item). IsCaller core text z node.key) f w.calls, too.once e k it (w.there ∙ ap Some f) too.there))
      (too.or w.item w.is_known))

  dones : (node : Node) → Contains after node → (p : Pop) → Contains node.pops p →
      IsEnd core wider found (record { instance = node.key; end = p.end }) p.done
  dones node there p c =
      ⊎_elim
      (λ (o : HasPop nodes node.key p).
      end_more core known wider found found (record { instance = o.0.key; end = p.end }) (record { instance = node.key; end = p.end }) p.done
      too.still (λ j y at. at) (λ i. record { instance = o.2 i; end = p.end }) (s.dones o.0 o.1 p o.3))
      (λ (n : IsEndOf core it k node.key p).
      record {
        item = it;
        there = ap (slice_get found) n.done ∙ too.there;
        is_known = too.is_known;
        completes = record { complete = n.complete; instance = n.of; end = sym n.ends };
      })
      ((m.pops node there p).0 c)

  pops_back : (node : Node) → Contains after node → (p : ℕ) → HasEnd core wider node.key p → (d : ℕ) × Contains node.pops (pop p d)
  pops_back node there p e =
      ⊎_elim
      (λ (o : known e.item).
      let n = node_of nodes node.key (subst (Contains (keys_of nodes)) e.of (h e.item (too.are_found e.item o))) in
      let old = s.pops n.0 n.1 p (record { item = e.item; is_known = o; of = e.of ∙ sym n.2; complete = e.complete; ends = e.ends }) in (
        old.0,
        (m.pops node there (pop p old.0)).1 (inl (n.0, n.1, n.2, old.1)),
      ))
      (λ (f : e.item ≡ it). (
        k,
        (m.pops node there (pop p k)).1
            (inr (record {
              of = ap (λ (z : Item). z.instance) (sym f) ∙ e.of;
              complete = subst (IsComplete core) f e.complete;
              ends = sym e.ends ∙ ap (λ (z : Item). z.position) f;
              done = refl;
            })),
      ))
      (too.or e.item e.is_known)

  -- the new pop is at an end where none was
  apart : (i : Instance) (p q : Pop) → HasPop nodes i p → IsEndOf core it k i q → p.end ≡ q.end → ⊥
  apart i p q old new e =
      first_there new.complete p.done
      (old.0, old.1, old.2 ∙ sym new.of, subst (λ (z : ℕ). Contains old.0.pops (pop z p.done)) (e ∙ new.ends) old.3)

  ends_once : (node : Node) → Contains after node → (p q : Pop) → Contains node.pops p → Contains node.pops q → p.end ≡ q.end → p ≡ q
  ends_once node there p q c d e =
      ⊎_elim
      (λ (o : HasPop nodes node.key p).
      ⊎_elim (λ (u : HasPop nodes node.key q). one_pop core text known found nodes s node.key p q o u e)
      (λ (u : IsEndOf core it k node.key q). absurd (apart node.key p q o u e)) ((m.pops node there q).0 d))
      (λ (o : IsEndOf core it k node.key p).
      ⊎_elim (λ (u : HasPop nodes node.key q). absurd (apart node.key q p u o (sym e)))
      (λ (u : IsEndOf core it k node.key q). same_pop p q e (o.done ∙ sym u.done)) ((m.pops node there q).0 d))
      ((m.pops node there p).0 c)

  pub met : AreStacks core text wider found after
  met =
      record {
        once = m.once;
        keys = λ i. (keys_forth i, keys_back i);
        edges = λ node there e. (edges_forth node there e, edges_back node there e);
        dones = dones;
        pops = pops_back;
        ends_once = ends_once;
      }

-- one more item is known that changes nothing: it is complete where its node has a pop
module _ (core : List Nonterminal) (text : Input) (known wider : Item → Type 0) (found : List Item) (it : Item) (k done : ℕ)
    (nodes : List Node) (s : AreStacks core text known found nodes) (h : HaveNodes found nodes)
    (too : IsKnownToo known wider found it k) (complete : IsComplete core it) (has : HasPop nodes it.instance (pop it.position done)) where
  silent : (y : Item) (i : Instance) → wider y → IsCaller core text y i → known y
  silent y i w c =
      ⊎_elim (λ (o : known y). o)
      (λ (e : y ≡ it). absurd (ends_call_nothing core text it i complete (subst (λ (z : Item). IsCaller core text z i) e c))) (too.or y w)

  pub stay : AreStacks core text wider found nodes
  stay =
      record {
        once = s.once;
        keys = λ i. (
          λ c.
              ⊎_elim (λ (e : i ≡ root_instance). inl e)
              (λ (d : IsCalled core text known i). inr (record { item = d.item; is_known = too.still d.item d.is_known; calls = d.calls }))
              ((s.keys i).0 c),
          λ c.
              (s.keys i).1
              (⊎_elim (λ (e : i ≡ root_instance). inl e)
              (λ (d : IsCalled core text wider i). inr (record { item = d.item; is_known = silent d.item i d.is_known d.calls; calls = d.calls })) c),
        );
        edges = λ node there e. (
          λ c.
              let w = (s.edges node there e).0 c in
              record { item = w.item; there = w.there; is_known = too.still w.item w.is_known; calls = w.calls },
          λ w.
              (s.edges node there e).1
              (record { item = w.item; there = w.there; is_known = silent w.item node.key w.is_known w.calls; calls = w.calls }),
        );
        dones = λ node there p c.
            end_more core known wider found found (record { instance = node.key; end = p.end }) (record { instance = node.key; end = p.end })
            p.done too.still (λ j y at. at) refl (s.dones node there p c);
        pops = pops_stay;
        ends_once = s.ends_once;
      }
    where
      pops_stay : (node : Node) → Contains nodes node → (p : ℕ) → HasEnd core wider node.key p → (d : ℕ) × Contains node.pops (pop p d)
      pops_stay node there p e =
          ⊎_elim
          (λ (o : known e.item).
          s.pops node there p (record { item = e.item; is_known = o; of = e.of; complete = e.complete; ends = e.ends }))
          (λ (f : e.item ≡ it).
          let n = one_node nodes has.0 node s.once has.1 there (has.2 ∙ ap (λ (z : Item). z.instance) (sym f) ∙ e.of) in
          let at : it.position ≡ p = ap (λ (z : Item). z.position) (sym f) ∙ e.ends in (
            done,
            subst (λ (z : ℕ). Contains node.pops (pop z done)) at (subst (λ (z : Node). Contains z.pops (pop it.position done)) n has.3),
          ))
          (too.or e.item e.is_known)

-- stacks speak of the known items alone
module _ (core : List Nonterminal) (text : Input) (known same : Item → Type 0) (found longer : List Item) (nodes : List Node)
    (s : AreStacks core text known found nodes) (forth : (y : Item) → known y → same y) (back : (y : Item) → same y → known y)
    (are_found : (y : Item) → known y → Contains found y)
    (keeps : (k : ℕ) (y : Item) → slice_get found k ≡ Some y → slice_get longer k ≡ Some y) (once : NoneTwice longer) where
  waits_back : (i : Instance) (e : ℕ) → Waits core text same longer i e → Waits core text known found i e
  waits_back i e w =
      let k = back w.item w.is_known in
      let at = at_from_contains found w.item (are_found w.item k) in
      let n : at.0 ≡ e = once at.0 e w.item (keeps at.0 w.item at.1) w.there in
      record { item = w.item; there = subst (λ (z : ℕ). slice_get found z ≡ Some w.item) n at.1; is_known = k; calls = w.calls }

  pub alike : AreStacks core text same longer nodes
  alike =
      record {
        once = s.once;
        keys = λ i. (
          λ c.
              ⊎_elim (λ (e : i ≡ root_instance). inl e)
              (λ (d : IsCalled core text known i). inr (record { item = d.item; is_known = forth d.item d.is_known; calls = d.calls }))
              ((s.keys i).0 c),
          λ c.
              (s.keys i).1
              (⊎_elim (λ (e : i ≡ root_instance). inl e)
              (λ (d : IsCalled core text same i). inr (record { item = d.item; is_known = back d.item d.is_known; calls = d.calls })) c),
        );
        edges = λ node there e. (
          λ c.
              let w = (s.edges node there e).0 c in
              record { item = w.item; there = keeps e w.item w.there; is_known = forth w.item w.is_known; calls = w.calls },
          λ w. (s.edges node there e).1 (waits_back node.key e w),
        );
        dones = λ node there p c.
            end_more core known same found longer (record { instance = node.key; end = p.end }) (record { instance = node.key; end = p.end })
            p.done forth keeps refl (s.dones node there p c);
        pops = λ node there p e.
            s.pops node there p (record { item = e.item; is_known = back e.item e.is_known; of = e.of; complete = e.complete; ends = e.ends });
        ends_once = s.ends_once;
      }

-- the instance of what follows from known items has a node
module _ (core : List Nonterminal) (text : Input) (known : Item → Type 0) (found : List Item) (nodes : List Node)
    (s : AreStacks core text known found nodes) (h : (y : Item) → known y → Contains (keys_of nodes) y.instance) where
  behind : (x y : Item) → known y → (bound : List Value) (j : ℕ) → x ≡ past y bound j → Contains (keys_of nodes) x.instance
  behind x y k bound j e = subst (Contains (keys_of nodes)) (ap (λ (z : Item). z.instance) (sym e)) (h y k)

  pub follower : (x : Item) → Follows core text known x → Contains (keys_of nodes) x.instance
  follower x (items.root y e) = (s.keys y.instance).1 (inl (ap (λ (z : Item). z.instance) e))
  follower x (items.test y names c z k before holds e) = behind z y k [] y.position e
  follower x (items.bind y names name c v z k before has e) = behind z y k (v ∷ []) y.position e
  follower x (items.terminal y names what label excluded j z k before matches free e) = behind z y k (span_of label y.position j) j e
  follower x (items.call y callee label excluded nonterminal a alternative z k calls at e) =
      subst (Contains (keys_of nodes)) (ap (λ (v : Item). v.instance) (sym e))
      ((s.keys callee).1 (inr (record { item = y; is_known = k; calls = record { label = label; excluded = excluded; calls = calls } })))
  follower x (items.return y done label excluded z k l calls complete free e) =
      behind z y k (span_of label y.position done.position) done.position e
