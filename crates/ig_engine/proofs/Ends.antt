-- A complete item is taken.
use Rattle.std.proofs.Common.{◌≡◌, ⊎_elim, inl, ℕ, suc, ◌<◌, List, length, Contains, Some, refl, sym, ap, ◌∙◌, subst, arith, slice_get, map}
use Rattle.std.specs.Prelude.{Err, IsTrue}
use Rattle.std.proofs.lemmas.Option.{same_Some, slice_get_within, get_or_from_slice_get}
use Rattle.ig_text.specs.Input.{Input}
use Rattle.ig_text.proofs.Lists.{contains_from_at, mapped_at, mapped_in, unmapped_at, unmapped_in}
use Rattle.ig_item.specs.Items.{Item, IsComplete}
use Rattle.ig_item.specs.Tables.{instance_by}
use Rattle.ig_item.specs.declared.core_grammar.Nonterminal.{Nonterminal}
use Rattle.ig_item.specs.declared.items.Instance.{Instance}
use Rattle.ig_item.specs.declared.items.InstanceKey.{InstanceKey}
use Rattle.ig_item.specs.declared.items.Item as stored
use Rattle.ig_item.specs.declared.run_fault.RunFault.{RunFault}
use Rattle.ig_item.specs.declared.ways.Way.{Way}
use Rattle.ig_item.specs.declared.ways.Way.TheVariants.{Node as Tree}
use Rattle.ig_run_moves.specs.Finding as numbered
use Rattle.ig_gss.specs.Nodes as shared
use Rattle.ig_gss.specs.declared.marks.Edge.{Edge}
use Rattle.ig_gss.specs.declared.marks.Pop as marks
use Rattle.ig_run_moves.specs.Tables.{no_key}
use Rattle.ig_run_laws.specs.Finding.{IsNewTicket, Records}
use Rattle.ig_run_laws.specs.FirstCalls.{CallsNothing}
use Rattle.ig_run_laws.specs.Rules.{IsCaller, IsReturn}
use Rattle.ig_run_laws.specs.Stacks.{Node, HasPop, IsFirstThere, Meets, Pop, pop}
use Rattle.ig_engine.specs.Adding.{Adds, AreApart, AreNew, Events, IsAdded, IsOnward, IsReturnBy, IsReturnByOne}
use Rattle.ig_engine.specs.Given as laws
use Rattle.ig_engine.specs.Reached.{Reached, AreIndexed, AreTables, EdgesSay, IsEdge, Taking, keys_in, means, node_seen, nodes_in, reached, seen}
use Rattle.ig_engine.proofs.Event as events
use Rattle.ig_engine.proofs.Indexing.{behind_first}
use Rattle.ig_engine.proofs.Lists.{extends_itself, extends_same}
use Rattle.ig_engine.proofs.Nodes.{meets_end, more_pop, one_node, seen_pop, updated}
use Rattle.ig_engine.proofs.Recording.{no_new, records_alike}
use Rattle.ig_engine.proofs.Stored.{edges_there, node_there, pop_keys, pop_was, pops_there, same_keys_seen, same_keys_tables}
use Rattle.ig_engine.proofs.Tables.{grown_nodes}

module _ (given : laws.Given) (core : List Nonterminal) (text : Input) (budget : ℕ) (item : stored.Item) (number : ℕ) (s : Reached)
    (taking : Taking core text budget item number s) (complete : IsComplete core (means s item)) where
  abbrev it : Item
  it = means s item

  abbrev After : Way → Item → Type 0
  After = events.After given core text budget item number s taking

  tables : AreTables s
  tables = events.tables given core text budget item number s taking

  -- the node of its instance
  own : (n : shared.Node) × (slice_get s.nodes item.instance ≡ Some n)
  own = node_there s.nodes item.instance (events.item_named given core text budget item number s taking).instance

  own_in : Contains s.nodes own.0
  own_in = contains_from_at s.nodes item.instance own.0 own.1

  own_key : (node_seen s.envs own.0).key ≡ it.instance
  own_key =
      ap (instance_by s.envs)
      (sym (get_or_from_slice_get (keys_in s) item.instance own.0.key no_key (mapped_at (λ (n : shared.Node). n.key) s.nodes item.instance own.0 own.1)))

  own_seen : slice_get (nodes_in s) item.instance ≡ Some (node_seen s.envs own.0)
  own_seen = mapped_at (node_seen s.envs) s.nodes item.instance own.0 own.1

  own_seen_in : Contains (nodes_in s) (node_seen s.envs own.0)
  own_seen_in = mapped_in (node_seen s.envs) s.nodes own.0 own_in

  pub node_within : item.instance < length s.nodes
  node_within = slice_get_within s.nodes item.instance own.0 own.1

  -- another item was complete there before
  has_pop : (done : ℕ) → Contains (shared.pops_at s.nodes item.instance) (shared.ended item.position done) →
      HasPop (nodes_in s) it.instance (pop item.position done)
  has_pop done c = (
    node_seen s.envs own.0,
    own_seen_in,
    own_key,
    mapped_in (λ (p : marks.Pop). pop p.end p.done) own.0.pops (shared.ended item.position done)
        (subst (λ (z : List marks.Pop). Contains z (shared.ended item.position done)) (pops_there s.nodes item.instance own.0 own.1) c),
  )

  pub again : (done : ℕ) → Contains (shared.pops_at s.nodes item.instance) (shared.ended item.position done) →
      (f : numbered.Finding) → f ≡ record s.found { ways = numbered.with_end s.found.ways (record { first = done; item = number }) } →
      IsOnward core text budget s (reached s.envs s.nodes f)
  again done c f is =
      subst (λ (z : numbered.Finding). IsOnward core text budget s (reached s.envs s.nodes z)) (sym is)
      (record {
        reached = record {
          tables = record {
            environments = tables.environments;
            instances = tables.instances;
            values = tables.values;
            items = tables.items;
            numbers = tables.numbers;
          };
          whole = given.runs.ends_keep core text (events.held given core text budget item number s taking) (nodes_in s) s.found.waiting
              (events.ticket given core text budget item number s taking) it done taking.before.whole taking.takes complete (has_pop done c);
          edges = record { each = λ node h e i y at. taking.before.edges.each node h e i y at };
          indexed = taking.before.indexed;
          within = taking.before.within;
        };
        items = extends_itself (seen s).items;
        waiting = λ t. (
          λ w. inl w,
          λ w. ⊎_elim (λ (h : Contains s.found.waiting t). h)
              (λ (h : IsNewTicket (length (seen s).items) (seen s).items t). absurd (no_new (seen s).items t h)) w,
        );
        counts = refl;
      })

  -- none was
  first_there : (Contains (shared.ends_at s.nodes item.instance) item.position → ⊥) → IsFirstThere (nodes_in s) it
  first_there none d h =
      let same = one_node (nodes_in s) taking.before.whole.stacks.once h.0 (node_seen s.envs own.0) h.1 own_seen_in (h.2 ∙ sym own_key) in
      let q = unmapped_in (λ (p : marks.Pop). pop p.end p.done) own.0.pops (pop item.position d)
      (subst (λ (z : Node). Contains z.pops (pop item.position d)) same h.3) in
      none
      (subst (λ (z : List marks.Pop). Contains (map (λ p. p.end) z) item.position) (sym (pops_there s.nodes item.instance own.0 own.1))
      (subst (Contains (map (λ (p : marks.Pop). p.end) own.0.pops)) (ap (λ (z : Pop). z.end) q.2)
      (mapped_in (λ (p : marks.Pop). p.end) own.0.pops q.0 q.1)))

  never : (i : Instance) → IsCaller core text it i → ⊥
  never i c = ((given.tables.complete_items_end core text it complete).calling i c.label c.excluded).0 c.calls

  -- the edges of its node are those of items that wait
  pub edges_are : (e : Edge) → Contains (shared.edges_at s.nodes item.instance) e → IsEdge core text s e
  edges_are e c =
      let h : Contains own.0.edges e =
      subst (λ (z : List Edge). Contains z e) (edges_there s.nodes item.instance own.0 own.1) c in
      let w = (taking.before.whole.stacks.edges (node_seen s.envs own.0) own_seen_in e.item).0 (mapped_in (λ (d : Edge). d.item) own.0.edges e h) in
      let y = unmapped_at (means s) s.found.items e.item w.item w.there in
      record {
        item = y.0;
        there = y.1;
        callee = (node_seen s.envs own.0).key;
        calls = subst (λ (z : Item). IsCaller core text z (node_seen s.envs own.0).key) (sym y.2) w.calls;
        says = taking.before.edges.each own.0 own_in e h y.0 y.1;
      }

  abbrev ByOne : Way → Item → Type 0
  ByOne = IsReturnByOne core text (seen s).items (shared.edges_at s.nodes item.instance) number item.position

  one_into : (w : Way) (x : Item) → ByOne w x → After w x
  unfolding edges_are
  one_into w x m =
      (given.runs.ends_meet_edges core text (seen s).items (nodes_in s) it number complete w x).1 (
        m.0.item,
        m.2.0,
        (
          node_seen s.envs own.0,
          own_seen_in,
          own_key,
          mapped_in (λ (d : Edge). d.item) own.0.edges m.0
              (subst (λ (z : List Edge). Contains z m.0) (edges_there s.nodes item.instance own.0 own.1) m.1),
        ),
        m.2.1,
        m.2.2,
        subst (λ (z : Instance). IsReturn core text m.2.0 z item.position x) (same_callee m.2.3 m.2.4) m.2.4,
      )
    where
      -- the edge's item calls this instance
      same_callee : (callee : Instance) → IsReturn core text m.2.0 callee item.position x → callee ≡ it.instance
      same_callee callee r =
          let e = edges_are m.0 m.1 in
          let same : means s e.item ≡ m.2.0 = same_Some (means s e.item) m.2.0 (sym (mapped_at (means s) s.found.items m.0.item e.item e.there) ∙ m.2.1) in
          let c = subst (λ (z : Item). IsCaller core text z e.callee) same e.calls in
          (given.tables.calls_are_one core text m.2.0 callee e.callee r.label c.label r.excluded c.excluded r.calls c.calls).callee ∙ own_key

  one_back : (w : Way) (x : Item) → After w x → ByOne w x
  one_back w x h =
      let q = (given.runs.ends_meet_edges core text (seen s).items (nodes_in s) it number complete w x).0 h in
      let same = one_node (nodes_in s) taking.before.whole.stacks.once q.2.0 (node_seen s.envs own.0) q.2.1 own_seen_in (q.2.2 ∙ sym own_key) in
      let e = unmapped_in (λ (d : Edge). d.item) own.0.edges q.0 (subst (λ (z : Node). Contains z.edges q.0) same q.2.3) in (
        e.0,
        subst (λ (z : List Edge). Contains z e.0) (sym (edges_there s.nodes item.instance own.0 own.1)) e.1,
        (q.1, ap (slice_get (seen s).items) e.2 ∙ q.3, q.4 ∙ ap (λ (z : ℕ). Tree z number) (sym e.2), it.instance, q.5),
      )

  -- a caller of an edge that says so stands before the first call of its alternative
  nothing_before : (e : Edge) → Contains (shared.edges_at s.nodes item.instance) e → IsTrue e.is_first → (caller : Item) →
      slice_get (seen s).items e.item ≡ Some caller → CallsNothing core caller.instance.nonterminal caller.alternative caller.dot
  unfolding edges_are
  nothing_before e c is caller at =
      let q = edges_are e c in
      let same : means s q.item ≡ caller = same_Some (means s q.item) caller (sym (mapped_at (means s) s.found.items e.item q.item q.there) ∙ at) in
      subst (λ (z : Item). CallsNothing core z.instance.nonterminal z.alternative z.dot) same (q.says.first.0 is)

  -- behind such an edge nothing is found yet
  pub edges_new : (Contains (shared.ends_at s.nodes item.instance) item.position → ⊥) → (e : Edge) →
      Contains (shared.edges_at s.nodes item.instance) e → IsTrue e.is_first →
      AreNew s (IsReturnBy core text (seen s).items e.item number item.position)
  edges_new none e c is way x m there =
      given.runs.first_returns_are_new core text (events.held given core text budget item number s taking) (nodes_in s) s.found.waiting
      (events.ticket given core text budget item number s taking) it x e.item number taking.before.whole taking.takes (λ h. first_there none)
      (subst (λ (z : Way). After z x) m.2 (one_into way x (e, c, m)))
      (behind_first core text m.0 m.3 item.position x m.4 (nothing_before e c is m.0 m.1)) there

  -- and nothing is behind two of them
  pub edges_apart : AreApart core text (seen s).items (shared.edges_at s.nodes item.instance) number item.position
  edges_apart d e c h is v w x m n =
      let past_one = sym n.4.is ∙ m.4.is in
      let dots : suc n.0.dot ≡ suc m.0.dot = ap (λ (z : Item). z.dot) past_one in
      let same : n.0 ≡ m.0 =
      given.runs.begins_are_one core text (events.held given core text budget item number s taking) (nodes_in s) n.0 m.0 taking.before.whole
      (contains_from_at (seen s).items e.item n.0 n.1) (contains_from_at (seen s).items d.item m.0 m.1)
      (ap (λ (z : Item). z.instance) past_one) (ap (λ (z : Item). z.alternative) past_one) (omega (arith, dots))
      (nothing_before e h is n.0 n.1) in
      taking.before.whole.run.once d.item e.item m.0 m.1 (n.1 ∙ ap Some same)

  -- its node has a pop more
  module _ (c : Reached) (d : IsAdded ByOne budget s c) (indexed : AreIndexed core (keys_in c) c.found) (none : Contains (shared.ends_at s.nodes item.instance) item.position → ⊥)
      (nodes : List shared.Node) (is : nodes ≡ shared.with_pop c.nodes item.instance (shared.ended item.position number)) where
    abbrev after : Reached
    after = reached c.envs nodes c.found

    same_keys : shared.keys_of nodes ≡ shared.keys_of c.nodes
    same_keys = ap shared.keys_of is ∙ pop_keys c.nodes item.instance (shared.ended item.position number)

    nodes_are : nodes_in after ≡ updated (more_pop (pop item.position number)) (nodes_in s) item.instance
    nodes_are =
        ap (λ (z : List shared.Node). map (node_seen c.envs) z) is ∙
        seen_pop c.envs c.nodes item.instance (shared.ended item.position number) ∙
        ap (λ (z : List Node). updated (more_pop (pop item.position number)) z item.instance)
        (ap (λ (z : List shared.Node). map (node_seen c.envs) z) d.nodes ∙ grown_nodes given.tables s c.envs d.envs tables)

    says_after : EdgesSay core text after
    says_after =
        record {
          each = λ node h e i y at.
              let w = pop_was c.nodes item.instance (shared.ended item.position number) node
              (subst (λ (z : List shared.Node). Contains z node) is h) e i in
              events.old_says given core text budget item number s taking after d.envs
              (extends_same (keys_in s) (keys_in after) (same_keys ∙ ap shared.keys_of d.nodes)) d.items w.node
              (subst (λ (z : List shared.Node). Contains z w.node) d.nodes w.among) e w.has y at;
        }

    pub ends : IsOnward core text budget s after
    ends =
        events.onward given core text budget item number s taking after (same_keys_tables c nodes same_keys d.tables)
        (subst (Records After (seen s)) (sym (same_keys_seen c nodes same_keys))
        (records_alike ByOne After (seen s) (seen c) one_into one_back d.records))
        (subst (Meets core text it number (nodes_in s)) (sym nodes_are)
        (meets_end core text it number (nodes_in s) taking.before.whole.stacks.once never complete item.instance (node_seen s.envs own.0) own_seen own_key))
        (λ h. first_there none) says_after (subst (λ (z : List InstanceKey). AreIndexed core z c.found) (sym same_keys) indexed)
        (d.within taking.before.within)

  pub ends_stopped : (c : Reached) (f : RunFault) → Adds ByOne budget s c (Err f) → Events core text budget s c (Err f)
  ends_stopped c f d = events.stopped given core text budget item number s taking ByOne c f one_into d
