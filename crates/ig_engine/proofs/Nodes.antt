-- What becomes of the nodes when an item is taken.
use Rattle.std.proofs.Common.{◌≡◌, ◌↔◌, ◌⊎◌, ⊎_elim, inl, inr, ℕ, zero, suc, List, [], ◌∷◌, ◌++◌, Contains, Some, refl, sym, ap, ◌∙◌, subst, arith, slice_get, map}
use Rattle.std.proofs.lemmas.List.{map-append}
use Rattle.std.proofs.lemmas.Option.{same_Some}
use Rattle.std.proofs.lemmas.List.Elements.{Contains-append_left, Contains-append_right}
use Rattle.ig_text.specs.Input.{Input}
use Rattle.ig_text.proofs.Lists.{at_from_contains, contains_from_at, in_pushed, it_is_in, mapped_at, mapped_in, none_in_nil}
use Rattle.ig_expr.specs.declared.value.Value.{Value}
use Rattle.ig_item.specs.Items.{Item, IsComplete}
use Rattle.ig_item.specs.Tables.{instance_by}
use Rattle.ig_item.specs.WellKinded.{NoneTwice}
use Rattle.ig_item.specs.declared.core_grammar.Nonterminal.{Nonterminal}
use Rattle.ig_item.specs.declared.items.Instance.{Instance}
use Rattle.ig_gss.specs.declared.marks.Edge.{Edge}
use Rattle.ig_gss.specs.declared.marks.Pop as marks
use Rattle.ig_gss.specs.Nodes as shared
use Rattle.ig_run_laws.specs.Rules.{IsCaller}
use Rattle.ig_run_laws.specs.Stacks.{Node, Pop, HasEdge, HasPop, IsEndOf, Meets, fresh, keys_of, pop}
use Rattle.ig_engine.specs.Reached.{node_seen}
use Rattle.ig_engine.proofs.Lists.{none_twice_longer}

-- the nodes, where that of the number is another one
abbrev pub updated : (Node → Node) → List Node → ℕ → List Node
updated f [] k = []
updated f (n ∷ ns) zero = f n ∷ ns
updated f (n ∷ ns) (suc k) = n ∷ updated f ns k

abbrev pub more_edge : ℕ → Node → Node
more_edge e n = record { key = n.key; edges = n.edges ++ e ∷ []; pops = n.pops }

abbrev pub more_pop : Pop → Node → Node
more_pop p n = record { key = n.key; edges = n.edges; pops = n.pops ++ p ∷ [] }

pub seen_edge : (envs : List (List Value)) (nodes : List shared.Node) (k : ℕ) (e : Edge) →
    map (node_seen envs) (shared.with_edge nodes k e) ≡ updated (more_edge e.item) (map (node_seen envs) nodes) k
seen_edge envs [] k e = refl
seen_edge envs (n ∷ ns) zero e =
    ap (λ (z : List ℕ). node (instance_by envs n.key) z (map (λ p. pop p.end p.done) n.pops) ∷ map (node_seen envs) ns)
    (map-append (λ (d : Edge). d.item) n.edges (e ∷ []))
  where
    node : Instance → List ℕ → List Pop → Node
    node key edges pops = record { key = key; edges = edges; pops = pops }
seen_edge envs (n ∷ ns) (suc k) e = ap (λ (z : List Node). node_seen envs n ∷ z) (seen_edge envs ns k e)

pub seen_pop : (envs : List (List Value)) (nodes : List shared.Node) (k : ℕ) (p : marks.Pop) →
    map (node_seen envs) (shared.with_pop nodes k p) ≡ updated (more_pop (pop p.end p.done)) (map (node_seen envs) nodes) k
seen_pop envs [] k p = refl
seen_pop envs (n ∷ ns) zero p =
    ap (λ (z : List Pop). node (instance_by envs n.key) (map (λ e. e.item) n.edges) z ∷ map (node_seen envs) ns)
    (map-append (λ (q : marks.Pop). pop q.end q.done) n.pops (p ∷ []))
  where
    node : Instance → List ℕ → List Pop → Node
    node key edges pops = record { key = key; edges = edges; pops = pops }
seen_pop envs (n ∷ ns) (suc k) p = ap (λ (z : List Node). node_seen envs n ∷ z) (seen_pop envs ns k p)

-- what stands at a place then
pub record IsUpdated (f : Node → Node) (nodes : List Node) (k j : ℕ) (m : Node) : Type 0 where
  pub node : Node
  pub there : slice_get nodes j ≡ Some node
  pub either : ((j ≡ k) × (m ≡ f node)) ⊎ ((j ≡ k → ⊥) × (m ≡ node))

module _ (f : Node → Node) where
  pub updated_at : (nodes : List Node) (k j : ℕ) (m : Node) → slice_get (updated f nodes k) j ≡ Some m → IsUpdated f nodes k j m
  updated_at [] k j m h = absurd (none_in_nil m (contains_from_at [] j m h))
  updated_at (n ∷ ns) zero zero m h = record { node = n; there = refl; either = inl (refl, sym (same_Some (f n) m h)) }
  updated_at (n ∷ ns) zero (suc j) m h = record { node = m; there = h; either = inr (λ e. omega (arith, e), refl) }
  updated_at (n ∷ ns) (suc k) zero m h = record { node = n; there = refl; either = inr (λ e. omega (arith, e), sym (same_Some n m h)) }
  updated_at (n ∷ ns) (suc k) (suc j) m h =
      let q = updated_at ns k j m h in
      record {
        node = q.node;
        there = q.there;
        either = ⊎_elim (λ (l : (j ≡ k) × (m ≡ f q.node)). inl (ap suc l.0, l.1))
            (λ (r : (j ≡ k → ⊥) × (m ≡ q.node)). inr (λ e. r.0 (omega (arith, e)), r.1)) q.either;
      }

  pub updated_keys : ((n : Node) → (f n).key ≡ n.key) → (nodes : List Node) (k : ℕ) → keys_of (updated f nodes k) ≡ keys_of nodes
  updated_keys same [] k = refl
  updated_keys same (n ∷ ns) zero = ap (λ (z : Instance). z ∷ keys_of ns) (same n)
  updated_keys same (n ∷ ns) (suc k) = ap (λ (z : List Instance). n.key ∷ z) (updated_keys same ns k)

abbrev key_of : Node → Instance
key_of n = n.key

-- no two nodes have one key
module _ (nodes : List Node) (once : NoneTwice (keys_of nodes)) where
  one_place : (i j : ℕ) (m n : Node) → slice_get nodes i ≡ Some m → slice_get nodes j ≡ Some n → m.key ≡ n.key → i ≡ j
  one_place i j m n p q e =
      once i j n.key (mapped_at key_of nodes i m p ∙ ap Some e) (mapped_at key_of nodes j n q)

  pub one_node : (m n : Node) → Contains nodes m → Contains nodes n → m.key ≡ n.key → m ≡ n
  one_node m n c d e =
      let p = at_from_contains nodes m c in let q = at_from_contains nodes n d in
      let i = one_place p.0 q.0 m n p.1 q.1 e in same_Some m n (sym p.1 ∙ ap (slice_get nodes) i ∙ q.1)

  pub own_edges : (n : Node) → Contains nodes n → (e : ℕ) → Contains n.edges e ↔ HasEdge nodes n.key e
  own_edges n c e = (
    λ h. (n, c, refl, h),
    λ h. subst (λ (z : Node). Contains z.edges e) (one_node h.0 n h.1 c h.2) h.3,
  )

  pub own_pops : (n : Node) → Contains nodes n → (p : Pop) → Contains n.pops p ↔ HasPop nodes n.key p
  own_pops n c p = (
    λ h. (n, c, refl, h),
    λ h. subst (λ (z : Node). Contains z.pops p) (one_node h.0 n h.1 c h.2) h.3,
  )

-- the same nodes, and one of the instance
pub record HaveToo (nodes after : List Node) (callee : Instance) : Type 0 where
  pub once : NoneTwice (keys_of after)
  pub keys : (i : Instance) → Contains (keys_of after) i ↔ (Contains (keys_of nodes) i ⊎ (i ≡ callee))
  pub edges : (n : Node) → Contains after n → (e : ℕ) → Contains n.edges e ↔ HasEdge nodes n.key e
  pub pops : (n : Node) → Contains after n → (p : Pop) → Contains n.pops p ↔ HasPop nodes n.key p

module _ (nodes : List Node) (callee : Instance) (once : NoneTwice (keys_of nodes)) where
  pub had : Contains (keys_of nodes) callee → HaveToo nodes nodes callee
  had c =
      record {
        once = once;
        keys = λ i. (
          λ h. inl h,
          λ h. ⊎_elim (λ (l : Contains (keys_of nodes) i). l) (λ (r : i ≡ callee). subst (Contains (keys_of nodes)) (sym r) c) h,
        );
        edges = own_edges nodes once;
        pops = own_pops nodes once;
      }

  module _ (new : Contains (keys_of nodes) callee → ⊥) where
    abbrev with_one : List Node
    with_one = nodes ++ fresh callee ∷ []

    keys_with : keys_of with_one ≡ keys_of nodes ++ callee ∷ []
    keys_with = map-append key_of nodes (fresh callee ∷ [])

    no_edge : (i : Instance) → i ≡ callee → (e : ℕ) → HasEdge nodes i e → ⊥
    no_edge i is e h = new (subst (Contains (keys_of nodes)) (h.2 ∙ is) (mapped_in key_of nodes h.0 h.1))

    no_pop : (i : Instance) → i ≡ callee → (p : Pop) → HasPop nodes i p → ⊥
    no_pop i is p h = new (subst (Contains (keys_of nodes)) (h.2 ∙ is) (mapped_in key_of nodes h.0 h.1))

    pub made : HaveToo nodes with_one callee
    made =
        record {
          once = subst NoneTwice (sym keys_with) (none_twice_longer (keys_of nodes) callee once new);
          keys = λ i. (
            λ h. in_pushed (keys_of nodes) callee i (subst (λ (z : List Instance). Contains z i) keys_with h),
            λ h. subst (λ (z : List Instance). Contains z i) (sym keys_with)
                (⊎_elim (λ (l : Contains (keys_of nodes) i). Contains-append_left (keys_of nodes) (callee ∷ []) i l)
                (λ (r : i ≡ callee).
                Contains-append_right (keys_of nodes) (callee ∷ []) i (subst (Contains (callee ∷ [])) (sym r) (it_is_in callee))) h),
          );
          edges = λ n c e.
              ⊎_elim (λ (h : Contains nodes n). own_edges nodes once n h e)
              (λ (h : n ≡ fresh callee). (
                λ l. absurd (none_in_nil e (subst (λ (z : Node). Contains z.edges e) h l)),
                λ l. absurd (no_edge n.key (ap key_of h) e l),
              )) (in_pushed nodes (fresh callee) n c);
          pops = λ n c p.
              ⊎_elim (λ (h : Contains nodes n). own_pops nodes once n h p)
              (λ (h : n ≡ fresh callee). (
                λ l. absurd (none_in_nil p (subst (λ (z : Node). Contains z.pops p) h l)),
                λ l. absurd (no_pop n.key (ap key_of h) p l),
              )) (in_pushed nodes (fresh callee) n c);
        }

module _ (core : List Nonterminal) (text : Input) (it : Item) (number : ℕ) (nodes : List Node) where
  -- an item that calls the instance: it waits in its node
  module _ (callee : Instance) (calls : IsCaller core text it callee) (one : (i : Instance) → IsCaller core text it i → i ≡ callee)
      (running : IsComplete core it → ⊥) (after : List Node) (have : HaveToo nodes after callee) (k : ℕ) (node : Node)
      (at : slice_get after k ≡ Some node) (is : node.key ≡ callee) where
    abbrev waited : List Node
    waited = updated (more_edge number) after k

    waited_keys : keys_of waited ≡ keys_of after
    waited_keys = updated_keys (more_edge number) (λ n. refl) after k

    -- of each node: its key and its pops are those of one before, its edges too, or the item
    module _ (m : Node) (c : Contains waited m) where
      place : (j : ℕ) × (slice_get waited j ≡ Some m)
      place = at_from_contains waited m c

      was : IsUpdated (more_edge number) after k place.0 m
      was = updated_at (more_edge number) after k place.0 m place.1

      was_in : Contains after was.node
      was_in = contains_from_at after place.0 was.node was.there

      same_key : was.node.key ≡ m.key
      same_key =
          ⊎_elim (λ (h : (place.0 ≡ k) × (m ≡ more_edge number was.node)). ap key_of (sym h.1))
          (λ (h : (place.0 ≡ k → ⊥) × (m ≡ was.node)). ap key_of (sym h.1)) was.either

      same_pops : was.node.pops ≡ m.pops
      same_pops =
          ⊎_elim (λ (h : (place.0 ≡ k) × (m ≡ more_edge number was.node)). ap (λ (z : Node). z.pops) (sym h.1))
          (λ (h : (place.0 ≡ k → ⊥) × (m ≡ was.node)). ap (λ (z : Node). z.pops) (sym h.1)) was.either

      edges_forth : (e : ℕ) → Contains m.edges e → HasEdge nodes m.key e ⊎ (IsCaller core text it m.key × (e ≡ number))
      edges_forth e h =
          ⊎_elim
          (λ (q : (place.0 ≡ k) × (m ≡ more_edge number was.node)).
          ⊎_elim
          (λ (l : Contains was.node.edges e). inl (subst (λ (z : Instance). HasEdge nodes z e) same_key ((have.edges was.node was_in e).0 l)))
          (λ (r : e ≡ number).
          let here : was.node ≡ node = same_Some was.node node (sym was.there ∙ ap (slice_get after) q.0 ∙ at) in
          inr (subst (IsCaller core text it) (sym is ∙ ap key_of (sym here) ∙ same_key) calls, r))
          (in_pushed was.node.edges number e (subst (λ (z : Node). Contains z.edges e) q.1 h)))
          (λ (q : (place.0 ≡ k → ⊥) × (m ≡ was.node)).
          inl (subst (λ (z : Instance). HasEdge nodes z e) same_key
          ((have.edges was.node was_in e).0 (subst (λ (z : Node). Contains z.edges e) q.1 h)))) was.either

      edges_back : (e : ℕ) → HasEdge nodes m.key e ⊎ (IsCaller core text it m.key × (e ≡ number)) → Contains m.edges e
      edges_back e (inl h) =
          let l = (have.edges was.node was_in e).1 (subst (λ (z : Instance). HasEdge nodes z e) (sym same_key) h) in
          ⊎_elim
          (λ (q : (place.0 ≡ k) × (m ≡ more_edge number was.node)).
          subst (λ (z : Node). Contains z.edges e) (sym q.1) (Contains-append_left was.node.edges (number ∷ []) e l))
          (λ (q : (place.0 ≡ k → ⊥) × (m ≡ was.node)). subst (λ (z : Node). Contains z.edges e) (sym q.1) l) was.either
      edges_back e (inr h) =
          ⊎_elim
          (λ (q : (place.0 ≡ k) × (m ≡ more_edge number was.node)).
          subst (λ (z : Node). Contains z.edges e) (sym q.1)
          (Contains-append_right was.node.edges (number ∷ []) e (subst (Contains (number ∷ [])) (sym h.1) (it_is_in number))))
          (λ (q : (place.0 ≡ k → ⊥) × (m ≡ was.node)).
          absurd (q.0 (one_place after have.once place.0 k was.node node was.there at (same_key ∙ one m.key h.0 ∙ sym is)))) was.either

      pops_forth : (p : Pop) → Contains m.pops p → HasPop nodes m.key p ⊎ IsEndOf core it number m.key p
      pops_forth p h =
          inl (subst (λ (z : Instance). HasPop nodes z p) same_key
          ((have.pops was.node was_in p).0 (subst (λ (z : List Pop). Contains z p) (sym same_pops) h)))

      pops_back : (p : Pop) → HasPop nodes m.key p ⊎ IsEndOf core it number m.key p → Contains m.pops p
      pops_back p (inl h) =
          subst (λ (z : List Pop). Contains z p) same_pops
          ((have.pops was.node was_in p).1 (subst (λ (z : Instance). HasPop nodes z p) (sym same_key) h))
      pops_back p (inr h) = absurd (running h.complete)

    pub meets_call : Meets core text it number nodes waited
    meets_call =
        record {
          once = subst NoneTwice (sym waited_keys) have.once;
          keys = λ i. (
            λ h. ⊎_elim (λ (l : Contains (keys_of nodes) i). inl l) (λ (r : i ≡ callee). inr (subst (IsCaller core text it) (sym r) calls))
                ((have.keys i).0 (subst (λ (z : List Instance). Contains z i) waited_keys h)),
            λ h. subst (λ (z : List Instance). Contains z i) (sym waited_keys)
                ((have.keys i).1 (⊎_elim (λ (l : Contains (keys_of nodes) i). inl l) (λ (r : IsCaller core text it i). inr (one i r)) h)),
          );
          edges = λ m c e. (edges_forth m c e, edges_back m c e);
          pops = λ m c p. (pops_forth m c p, pops_back m c p);
        }

  -- an item that calls nothing
  module _ (once : NoneTwice (keys_of nodes)) (never : (i : Instance) → IsCaller core text it i → ⊥) where
    keys_stay : (i : Instance) → Contains (keys_of nodes) i ↔ (Contains (keys_of nodes) i ⊎ IsCaller core text it i)
    keys_stay i = (
      λ h. inl h,
      λ h. ⊎_elim (λ (l : Contains (keys_of nodes) i). l) (λ (r : IsCaller core text it i). absurd (never i r)) h,
    )

    edges_stay : (m : Node) → Contains nodes m → (e : ℕ) →
        Contains m.edges e ↔ (HasEdge nodes m.key e ⊎ (IsCaller core text it m.key × (e ≡ number)))
    edges_stay m c e = (
      λ h. inl ((own_edges nodes once m c e).0 h),
      λ h. ⊎_elim (λ (l : HasEdge nodes m.key e). (own_edges nodes once m c e).1 l)
          (λ (r : IsCaller core text it m.key × (e ≡ number)). absurd (never m.key r.0)) h,
    )

    -- and isn't complete
    pub meets_nothing : (IsComplete core it → ⊥) → Meets core text it number nodes nodes
    meets_nothing running =
        record {
          once = once;
          keys = keys_stay;
          edges = edges_stay;
          pops = λ m c p. (
            λ h. inl ((own_pops nodes once m c p).0 h),
            λ h. ⊎_elim (λ (l : HasPop nodes m.key p). (own_pops nodes once m c p).1 l)
                (λ (r : IsEndOf core it number m.key p). absurd (running r.complete)) h,
          );
        }

    -- and is complete: its instance ended at its position
    module _ (complete : IsComplete core it) (k : ℕ) (node : Node) (at : slice_get nodes k ≡ Some node) (is : node.key ≡ it.instance) where
      abbrev this : Pop
      this = pop it.position number

      abbrev ended : List Node
      ended = updated (more_pop this) nodes k

      ended_keys : keys_of ended ≡ keys_of nodes
      ended_keys = updated_keys (more_pop this) (λ n. refl) nodes k

      module _ (m : Node) (c : Contains ended m) where
        end_place : (j : ℕ) × (slice_get ended j ≡ Some m)
        end_place = at_from_contains ended m c

        end_was : IsUpdated (more_pop this) nodes k end_place.0 m
        end_was = updated_at (more_pop this) nodes k end_place.0 m end_place.1

        end_in : Contains nodes end_was.node
        end_in = contains_from_at nodes end_place.0 end_was.node end_was.there

        end_key : end_was.node.key ≡ m.key
        end_key =
            ⊎_elim (λ (h : (end_place.0 ≡ k) × (m ≡ more_pop this end_was.node)). ap key_of (sym h.1))
            (λ (h : (end_place.0 ≡ k → ⊥) × (m ≡ end_was.node)). ap key_of (sym h.1)) end_was.either

        end_edges : end_was.node.edges ≡ m.edges
        end_edges =
            ⊎_elim (λ (h : (end_place.0 ≡ k) × (m ≡ more_pop this end_was.node)). ap (λ (z : Node). z.edges) (sym h.1))
            (λ (h : (end_place.0 ≡ k → ⊥) × (m ≡ end_was.node)). ap (λ (z : Node). z.edges) (sym h.1)) end_was.either

        ends_forth : (p : Pop) → Contains m.pops p → HasPop nodes m.key p ⊎ IsEndOf core it number m.key p
        ends_forth p h =
            ⊎_elim
            (λ (q : (end_place.0 ≡ k) × (m ≡ more_pop this end_was.node)).
            ⊎_elim
            (λ (l : Contains end_was.node.pops p).
            inl (subst (λ (z : Instance). HasPop nodes z p) end_key ((own_pops nodes once end_was.node end_in p).0 l)))
            (λ (r : p ≡ this).
            let here : end_was.node ≡ node = same_Some end_was.node node (sym end_was.there ∙ ap (slice_get nodes) q.0 ∙ at) in
            inr (record {
              of = sym is ∙ ap key_of (sym here) ∙ end_key;
              complete = complete;
              ends = ap (λ (z : Pop). z.end) r;
              done = ap (λ (z : Pop). z.done) r;
            }))
            (in_pushed end_was.node.pops this p (subst (λ (z : Node). Contains z.pops p) q.1 h)))
            (λ (q : (end_place.0 ≡ k → ⊥) × (m ≡ end_was.node)).
            inl (subst (λ (z : Instance). HasPop nodes z p) end_key
            ((own_pops nodes once end_was.node end_in p).0 (subst (λ (z : Node). Contains z.pops p) q.1 h)))) end_was.either

        ends_back : (p : Pop) → HasPop nodes m.key p ⊎ IsEndOf core it number m.key p → Contains m.pops p
        ends_back p (inl h) =
            let l = (own_pops nodes once end_was.node end_in p).1 (subst (λ (z : Instance). HasPop nodes z p) (sym end_key) h) in
            ⊎_elim
            (λ (q : (end_place.0 ≡ k) × (m ≡ more_pop this end_was.node)).
            subst (λ (z : Node). Contains z.pops p) (sym q.1) (Contains-append_left end_was.node.pops (this ∷ []) p l))
            (λ (q : (end_place.0 ≡ k → ⊥) × (m ≡ end_was.node)). subst (λ (z : Node). Contains z.pops p) (sym q.1) l) end_was.either
        ends_back p (inr h) =
            ⊎_elim
            (λ (q : (end_place.0 ≡ k) × (m ≡ more_pop this end_was.node)).
            let p_is : p ≡ this = λ i. record { end = h.ends i; done = h.done i } in
            subst (λ (z : Node). Contains z.pops p) (sym q.1)
            (Contains-append_right end_was.node.pops (this ∷ []) p (subst (Contains (this ∷ [])) (sym p_is) (it_is_in this))))
            (λ (q : (end_place.0 ≡ k → ⊥) × (m ≡ end_was.node)).
            absurd (q.0 (one_place nodes once end_place.0 k end_was.node node end_was.there at (end_key ∙ sym h.of ∙ sym is)))) end_was.either

      pub meets_end : Meets core text it number nodes ended
      meets_end =
          record {
            once = subst NoneTwice (sym ended_keys) once;
            keys = λ i. (
              λ h. (keys_stay i).0 (subst (λ (z : List Instance). Contains z i) ended_keys h),
              λ h. subst (λ (z : List Instance). Contains z i) (sym ended_keys) ((keys_stay i).1 h),
            );
            edges = λ m c e. (
              λ h. inl (subst (λ (z : Instance). HasEdge nodes z e) (end_key m c)
                  ((own_edges nodes once (end_was m c).node (end_in m c) e).0 (subst (λ (z : List ℕ). Contains z e) (sym (end_edges m c)) h))),
              λ h. ⊎_elim
                  (λ (l : HasEdge nodes m.key e).
                  subst (λ (z : List ℕ). Contains z e) (end_edges m c)
                  ((own_edges nodes once (end_was m c).node (end_in m c) e).1 (subst (λ (z : Instance). HasEdge nodes z e) (sym (end_key m c)) l)))
                  (λ (r : IsCaller core text it m.key × (e ≡ number)). absurd (never m.key r.0)) h,
            );
            pops = λ m c p. (ends_forth m c p, ends_back m c p);
          }
