-- What follows as one more item is known, alone or with those before it, and in which way.
use Rattle.std.proofs.Common.{◌≡◌, ◌⊎◌, ⊎_elim, inl, inr, ℕ, List, Some, Contains, refl, sym, ◌∙◌, subst, slice_get}
use Rattle.std.proofs.lemmas.Option.{same_Some}
use Rattle.ig_text.specs.Input.{Input}
use Rattle.ig_text.proofs.Lists.{at_from_contains, unmapped_in}
use Rattle.ig_item.specs.Items as items
use Rattle.ig_item.specs.Items.{Item, Follows, IsComplete, Calls, MatchesNone, past, span_of}
use Rattle.ig_item.specs.declared.core_grammar.Nonterminal.{Nonterminal}
use Rattle.ig_item.specs.declared.items.Instance.{Instance}
use Rattle.ig_item.specs.declared.ways.Way.{Way}
use Rattle.ig_item.specs.declared.ways.Way.TheVariants.{Begin, Pass, Leaf, Node as Tree}
use Rattle.ig_run_laws.specs.AfterBy as by
use Rattle.ig_run_laws.specs.AfterBy.{AfterBy}
use Rattle.ig_run_laws.specs.Rules as rules
use Rattle.ig_run_laws.specs.Rules.{After, IsCaller, IsReturn}
use Rattle.ig_run_laws.specs.Stacks.{Node, Pop, AreStacks, HaveNodes, HasEdge, HasPop, keys_of, pop}
use Rattle.ig_run_laws.proofs.Known.{IsKnownToo}
use Rattle.ig_run_laws.proofs.Steps.{ends_call_nothing}

module _ (core : List Nonterminal) (text : Input) (known wider : Item → Type 0) (it : Item)
    (or : (y : Item) → wider y → known y ⊎ (y ≡ it)) where
  -- what follows from more by one item followed before, or follows from that item
  pub splits : (x : Item) → Follows core text wider x → Follows core text known x ⊎ After core text wider it x
  splits x (items.root y e) = inl (items.root y e)
  splits x (items.test y names c z k before holds e) =
      ⊎_elim (λ (h : known y). inl (items.test y names c z h before holds e))
      (λ (h : y ≡ it). inr (subst (λ (v : Item). After core text wider v z) h (rules.test names c before holds e))) (or y k)
  splits x (items.bind y names name c v z k before has e) =
      ⊎_elim (λ (h : known y). inl (items.bind y names name c v z h before has e))
      (λ (h : y ≡ it). inr (subst (λ (u : Item). After core text wider u z) h (rules.bind names name c v before has e))) (or y k)
  splits x (items.terminal y names what label excluded j z k before matches free e) =
      ⊎_elim (λ (h : known y). inl (items.terminal y names what label excluded j z h before matches free e))
      (λ (h : y ≡ it). inr (subst (λ (u : Item). After core text wider u z) h (rules.terminal names what label excluded j before matches free e)))
      (or y k)
  splits x (items.call y callee label excluded nonterminal a alternative z k calls at e) =
      ⊎_elim (λ (h : known y). inl (items.call y callee label excluded nonterminal a alternative z h calls at e))
      (λ (h : y ≡ it). inr (subst (λ (u : Item). After core text wider u z) h (rules.call callee label excluded nonterminal a alternative calls at e)))
      (or y k)
  splits x (items.return y done label excluded z k l calls complete free e) =
      ⊎_elim
      (λ (h : known y).
      ⊎_elim (λ (i : known done). inl (items.return y done label excluded z h i calls complete free e))
      (λ (i : done ≡ it). inr (subst (λ (u : Item). After core text wider u z) i (rules.returned y label excluded k calls complete free e)))
      (or done l))
      (λ (h : y ≡ it). inr (subst (λ (u : Item). After core text wider u z) h (rules.return done label excluded l calls complete free e)))
      (or y k)

module _ (core : List Nonterminal) (text : Input) (wider : Item → Type 0) (it : Item) (there : wider it) where
  -- what follows from a known item follows
  pub after_follows : (x : Item) → After core text wider it x → Follows core text wider x
  after_follows x (rules.test names e before holds f) = items.test it names e x there before holds f
  after_follows x (rules.bind names name e v before has f) = items.bind it names name e v x there before has f
  after_follows x (rules.terminal names what label excluded j before matches free e) =
      items.terminal it names what label excluded j x there before matches free e
  after_follows x (rules.call callee label excluded nonterminal a alternative calls at e) =
      items.call it callee label excluded nonterminal a alternative x there calls at e
  after_follows x (rules.return done label excluded k calls complete free e) =
      items.return it done label excluded x there k calls complete free e
  after_follows x (rules.returned caller label excluded k calls complete free e) =
      items.return caller it label excluded x k there calls complete free e

-- a node of that key is there
pub node_of : (nodes : List Node) (i : Instance) → Contains (keys_of nodes) i → (node : Node) × Contains nodes node × (node.key ≡ i)
node_of nodes i c = unmapped_in (λ node. node.key) nodes i c

module _ (core : List Nonterminal) (text : Input) (known : Item → Type 0) (found : List Item) (nodes : List Node)
    (s : AreStacks core text known found nodes) (h : HaveNodes found nodes) (are_found : (y : Item) → known y → Contains found y) where
  -- a known complete item has a pop
  pub pop_of : (done : Item) → known done → IsComplete core done →
      (d : ℕ) × HasPop nodes done.instance (pop done.position d)
  pop_of done k complete =
      let n = node_of nodes done.instance (h done (are_found done k)) in
      let p = s.pops n.0 n.1 done.position (record { item = done; is_known = k; of = sym n.2; complete = complete; ends = refl }) in
      (p.0, (n.0, n.1, n.2, p.1))

  -- a known item that calls an instance has an edge there
  pub edge_of : (caller : Item) (callee : Instance) → known caller → IsCaller core text caller callee →
      (e : ℕ) × HasEdge nodes callee e × (slice_get found e ≡ Some caller)
  edge_of caller callee k c =
      let at = at_from_contains found caller (are_found caller k) in
      let n = node_of nodes callee ((s.keys callee).1 (inr (record { item = caller; is_known = k; calls = c }))) in (
        at.0,
        (
          n.0,
          n.1,
          n.2,
          (s.edges n.0 n.1 at.0).1
              (record { item = caller; there = at.1; is_known = k; calls = subst (IsCaller core text caller) (sym n.2) c }),
        ),
        at.1,
      )

-- what a pop says of its number
pub record IsDone (core : List Nonterminal) (known : Item → Type 0) (found : List Item) (i : Instance) (p : Pop) : Type 0 where
  pub item : Item
  pub there : slice_get found p.done ≡ Some item
  pub is_known : known item
  pub of : item.instance ≡ i
  pub complete : IsComplete core item
  pub ends : item.position ≡ p.end

pub done_of : (core : List Nonterminal) (text : Input) (known : Item → Type 0) (found : List Item) (nodes : List Node) →
    AreStacks core text known found nodes → (i : Instance) (p : Pop) → HasPop nodes i p → IsDone core known found i p
done_of core text known found nodes s i p q =
    let e = s.dones q.0 q.1 p q.3 in
    record {
      item = e.item;
      there = e.there;
      is_known = e.is_known;
      of = e.completes.instance ∙ q.2;
      complete = e.completes.complete;
      ends = e.completes.end;
    }

-- a return is one rule with a known complete item
pub calls_of : (core : List Nonterminal) (text : Input) (it : Item) (i j : Instance) (p : ℕ) (x : Item) (r : IsReturn core text it i p x) → j ≡ i →
    Calls core text it j r.label r.excluded
calls_of core text it i j p x r e = subst (λ (z : Instance). Calls core text it z r.label r.excluded) (sym e) r.calls

module _ (core : List Nonterminal) (text : Input) (known wider : Item → Type 0) (found : List Item) (it : Item) (k : ℕ)
    (nodes : List Node) (s : AreStacks core text known found nodes) (h : HaveNodes found nodes)
    (too : IsKnownToo known wider found it k) where
  abbrev Some_way : Item → Type 0
  Some_way x = (way : Way) × AfterBy core text found nodes it k way x

  -- what follows does so in some way
  pub by_after : (x : Item) → After core text wider it x → Some_way x
  by_after x (rules.test names e before holds f) = (Pass k, by.test names e before holds refl f)
  by_after x (rules.bind names name e v before has f) = (Pass k, by.bind names name e v before has refl f)
  by_after x (rules.terminal names what label excluded j before matches free f) =
      (Leaf k, by.terminal names what label excluded j before matches free refl f)
  by_after x (rules.call callee label excluded nonterminal a alternative calls at f) = (
    Begin,
    by.call callee (record { label = label; excluded = excluded; calls = calls })
        (record { number = a; nonterminal = nonterminal; alternative = alternative; has = at; is = f }) refl,
  )
  by_after x (rules.return done label excluded is_known calls complete free f) =
      ⊎_elim
      (λ (old : known done).
      let p = pop_of core text known found nodes s h too.are_found done old complete in (
        Tree k p.0,
        by.return done.instance (pop done.position p.0) p.1
            (record { label = label; excluded = excluded; calls = calls; free = free; is = f }) refl,
      ))
      (λ (same : done ≡ it).
      absurd (ends_call_nothing core text it done.instance (subst (IsComplete core) same complete)
      (record { label = label; excluded = excluded; calls = calls })))
      (too.or done is_known)
  by_after x (rules.returned caller label excluded is_known calls complete free f) =
      ⊎_elim
      (λ (old : known caller).
      let e = edge_of core text known found nodes s h too.are_found caller it.instance old
      (record { label = label; excluded = excluded; calls = calls }) in (
        Tree e.0 k,
        by.returned e.0 caller complete e.1 e.2 (record { label = label; excluded = excluded; calls = calls; free = free; is = f }) refl,
      ))
      (λ (same : caller ≡ it).
      absurd (ends_call_nothing core text it it.instance complete
      (subst (λ (z : Item). IsCaller core text z it.instance) same (record { label = label; excluded = excluded; calls = calls }))))
      (too.or caller is_known)

  -- and nothing else
  pub after_by : (way : Way) (x : Item) → AfterBy core text found nodes it k way x → After core text wider it x
  after_by way x (by.test names e before holds w f) = rules.test names e before holds f
  after_by way x (by.bind names name e v before has w f) = rules.bind names name e v before has f
  after_by way x (by.terminal names what label excluded j before matches free w f) =
      rules.terminal names what label excluded j before matches free f
  after_by way x (by.call callee c f w) = rules.call callee c.label c.excluded f.nonterminal f.number f.alternative c.calls f.has f.is
  after_by way x (by.return callee p has r w) =
      let d = done_of core text known found nodes s callee p has in
      rules.return d.item r.label r.excluded (too.still d.item d.is_known) (calls_of core text it callee d.item.instance p.end x r d.of) d.complete
      (subst (MatchesNone text r.excluded it.position) (sym d.ends) r.free)
      (subst (λ (z : ℕ). x ≡ past it (span_of r.label it.position z) z) (sym d.ends) r.is)
  after_by way x (by.returned e caller complete has at r w) =
      let q = (s.edges has.0 has.1 e).0 has.3 in
      let same : q.item ≡ caller = same_Some q.item caller (sym q.there ∙ at) in
      rules.returned caller r.label r.excluded (too.still caller (subst known same q.is_known)) r.calls complete r.free r.is
