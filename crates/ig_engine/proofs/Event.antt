-- An item is taken: what its event makes of the run.
use Rattle.std.proofs.Common.{◌≡◌, ◌↔◌, ◌⊎◌, ⊎_elim, ℕ, ◌<◌, ◌≤◌, List, length, Contains, Some, refl, sym, ap, ◌∙◌, subst, arith, slice_get, map}
use Rattle.std.specs.Prelude.{Result, Ok, Err, Option, None}
use Rattle.std.specs.Result.{IsErrAnd}
use Rattle.std.proofs.lemmas.List.{length-map}
use Rattle.std.proofs.lemmas.Option.{slice_get_within}
use Rattle.std.proofs.lemmas.Result.{err_from_is_err_and}
use Rattle.ig_text.specs.Input.{Input}
use Rattle.ig_text.proofs.Lists.{contains_from_at, mapped_in}
use Rattle.ig_text.specs.declared.pattern.Pattern.{Pattern}
use Rattle.ig_expr.specs.Expression.{Expression}
use Rattle.ig_expr.specs.declared.value.Value.{Value}
use Rattle.ig_item.specs.Items.{Item, IsComplete, StandsBefore}
use Rattle.ig_item.specs.Step.{Test, Bind, Term}
use Rattle.ig_item.specs.WellKinded.{IsWellKinded, NoneTwice}
use Rattle.ig_item.specs.declared.core_grammar.Nonterminal.{Nonterminal}
use Rattle.ig_item.specs.declared.items.Instance.{Instance}
use Rattle.ig_item.specs.declared.items.Item as stored
use Rattle.ig_item.specs.declared.run_fault.RunFault.{RunFault}
use Rattle.ig_item.specs.declared.run_fault.RunFault.TheVariants as fault
use Rattle.ig_item.specs.declared.ways.Way.{Way}
use Rattle.ig_item.specs.declared.ways.Way.TheVariants.{Pass, Leaf, Node as Tree}
use Rattle.ig_queue.specs.declared.ticket.Ticket.{Ticket}
use Rattle.ig_run_moves.specs.Finding as numbered
use Rattle.ig_run_moves.specs.Finding.{ticket_of}
use Rattle.ig_gss.specs.Nodes as shared
use Rattle.ig_gss.specs.declared.marks.Edge.{Edge}
use Rattle.ig_run_moves.specs.Rules.{IsBehindTest, IsBehindBind, IsBehind, step_at}
use Rattle.ig_run_moves.specs.Tables.{Moves}
use Rattle.ig_run_laws.specs.AfterBy.{AfterBy}
use Rattle.ig_run_laws.specs.Finding.{Finding, Records}
use Rattle.ig_run_laws.specs.FirstCalls.{IsBehindLater}
use Rattle.ig_run_laws.specs.Rules.{IsCaller}
use Rattle.ig_run_laws.specs.Stacks.{IsFirstThere, Meets}
use Rattle.ig_run_tables.specs.Extends.{Extends}
use Rattle.ig_engine.specs.Adding.{Adds, AddsBehind, By, Events, IsAdded, IsOnward, IsOver, Refuses}
use Rattle.ig_engine.specs.Given as laws
use Rattle.ig_engine.specs.Reached.{Reached, AreIndexed, AreTables, EdgesSay, Named, Says, Taking, keys_in, means, node_seen, nodes_in, reached, seen, with_tickets}
use Rattle.ig_engine.proofs.Adding.{moved_new, moved_pushes}
use Rattle.ig_engine.proofs.Indexing.{indexed_still}
use Rattle.ig_engine.proofs.Lists.{extends_same, extends_within}
use Rattle.ig_engine.proofs.Nodes.{meets_nothing}
use Rattle.ig_engine.proofs.Recording.{finds_alike, records_alike}
use Rattle.ig_engine.proofs.Tables.{grown_nodes}

module _ (given : laws.Given) (core : List Nonterminal) (text : Input) (budget : ℕ) (item : stored.Item) (number : ℕ) (s : Reached)
    (taking : Taking core text budget item number s) where
  abbrev pub it : Item
  it = means s item

  -- what was found, when the ticket still waited
  abbrev pub held : Finding
  held = seen (reached s.envs s.nodes (with_tickets s.found taking.waiting))

  abbrev pub ticket : Ticket
  ticket = ticket_of item number

  abbrev pub After : Way → Item → Type 0
  After = AfterBy core text (seen s).items (nodes_in s) it number

  pub tables : AreTables s
  tables =
      let t = taking.before.tables in
      record { environments = t.environments; instances = t.instances; values = t.values; items = t.items; numbers = t.numbers }

  pub item_named : Named s item
  item_named = tables.items item (contains_from_at s.found.items number item taking.at)

  -- the event is over
  pub onward : (c : Reached) → AreTables c → Records After (seen s) (seen c) → Meets core text it number (nodes_in s) (nodes_in c) →
      (IsComplete core it → IsFirstThere (nodes_in s) it) → EdgesSay core text c → AreIndexed core (keys_in c) c.found →
      length c.found.items ≤ budget → IsOnward core text budget s c
  onward c t r meets first edges indexed within =
      record {
        reached = record {
          tables = t;
          whole = given.runs.events_keep core text held (seen c) (nodes_in s) (nodes_in c) s.found.waiting ticket it taking.before.whole
              taking.takes meets first r;
          edges = edges;
          indexed = indexed;
          within = within;
        };
        items = r.items;
        waiting = r.waiting;
        counts = r.counts;
      }

  -- it was refused
  pub refused : (c : Reached) → IsOver After budget s c → Refuses core text budget s fault.Budget
  refused c over =
      given.runs.refused_budgets_are_exceeded core text held (seen c).items (nodes_in s) s.found.waiting ticket it budget taking.before.whole
      taking.takes over.finds over.over

  pub stopped : (may : Way → Item → Type 0) (c : Reached) (f : RunFault) → ((way : Way) (x : Item) → may way x → After way x) →
      Adds may budget s c (Err f) → Refuses core text budget s f
  stopped may c fault.Budget into d =
      refused c (record { finds = finds_alike may After (seen s).items (seen c).items into d.finds; over = d.over })
  stopped may c fault.Memory into d = tt

  -- the number of an edge is that of an item
  edge_within : (node : shared.Node) → Contains s.nodes node → (e : Edge) → Contains node.edges e → e.item < length s.found.items
  edge_within node c e h =
      let w = (taking.before.whole.stacks.edges (node_seen s.envs node) (mapped_in (node_seen s.envs) s.nodes node c) e.item).0
      (mapped_in (λ (d : Edge). d.item) node.edges e h) in
      let l = slice_get_within held.items e.item w.item w.there in
      let n = length-map s.found.items (means s) in omega (arith, l, n)

  -- an edge of before says what it did
  pub old_says : (c : Reached) → Extends s.envs c.envs → Extends (keys_in s) (keys_in c) → Extends s.found.items c.found.items →
      (node : shared.Node) → Contains s.nodes node → (e : Edge) → Contains node.edges e → (y : stored.Item) →
      slice_get c.found.items e.item ≡ Some y → Says core text e (means c y)
  old_says c envs keys items node h e i y at =
      let there = extends_within s.found.items c.found.items e.item y items (edge_within node h e i) at in
      let named = tables.items y (contains_from_at s.found.items e.item y there) in
      subst (Says core text e) (sym (given.tables.names_are_kept s.envs c.envs (keys_in s) (keys_in c) y envs keys tables.values named).same)
      (taking.before.edges.each node h e i y there)

  -- where nodes stay
  pub same_says : (c : Reached) → Extends s.envs c.envs → c.nodes ≡ s.nodes → Extends s.found.items c.found.items → EdgesSay core text c
  same_says c envs nodes items =
      record {
        each = λ node h e i y at.
            old_says c envs (extends_same (keys_in s) (keys_in c) (ap shared.keys_of nodes)) items node
            (subst (λ (z : List shared.Node). Contains z node) nodes h) e i y at;
      }

  pub same_nodes : (c : Reached) → Extends s.envs c.envs → c.nodes ≡ s.nodes → nodes_in c ≡ nodes_in s
  same_nodes c envs nodes =
      ap (λ (z : List shared.Node). map (node_seen c.envs) z) nodes ∙ grown_nodes given.tables s c.envs envs tables

  -- of an item that calls nothing and isn't complete
  module _ (may : Way → Item → Type 0) (into : (way : Way) (x : Item) → may way x → After way x)
      (back : (way : Way) (x : Item) → After way x → may way x) (never : (i : Instance) → IsCaller core text it i → ⊥)
      (running : IsComplete core it → ⊥) (no_node : (way : Way) (x : Item) → may way x → (prev done : ℕ) → way ≡ Tree prev done → ⊥) where
    -- it isn't behind a call
    not_behind : (way : Way) (x : Item) → may way x → IsBehindLater core x.instance.nonterminal x.alternative x.dot → ⊥
    not_behind way x h b =
        let q = given.runs.returns_come_by_nodes core text (seen s).items (nodes_in s) it x number way (into way x h) b.call in
        no_node way x h q.0 q.1 q.2

    alone_over : (c : Reached) → IsAdded may budget s c → c.found.indexed ≡ s.found.indexed → IsOnward core text budget s c
    alone_over c d same =
        onward c d.tables (records_alike may After (seen s) (seen c) into back d.records)
        (subst (Meets core text it number (nodes_in s)) (sym (same_nodes c d.envs d.nodes))
        (meets_nothing core text it number (nodes_in s) taking.before.whole.stacks.once never running))
        (λ h. absurd (running h)) (same_says c d.envs d.nodes d.items)
        (indexed_still given.tables core may budget s c tables d same not_behind taking.before.indexed) (d.within taking.before.within)

    pub alone : (c : Reached) (r : Result (Unit {0}) RunFault) → Adds may budget s c r → c.found.indexed ≡ s.found.indexed →
        Events core text budget s c r
    alone c (Ok u) d same = alone_over c d same
    alone c (Err f) d same = stopped may c f into d

  -- of one that passes to, or reads to, what is behind it
  module _ (behind : Item → Item → Type 0) (way : Way) (once_only : (way ≡ Pass number) ⊎ (way ≡ Leaf number))
      (alike : (w : Way) (x : Item) → After w x ↔ By way (behind it) w x) (never : (i : Instance) → IsCaller core text it i → ⊥)
      (running : IsComplete core it → ⊥) where
    behind_new : (x : Item) → behind it x → Contains (seen s).items x → ⊥
    behind_new x b c =
        given.runs.steps_come_once core text held (nodes_in s) s.found.waiting ticket it x way taking.before.whole taking.takes
        ((alike way x).1 (refl, b)) once_only c

    module _ (envs : List (List Value)) (wider : Extends s.envs envs) (once : NoneTwice s.envs → NoneTwice envs) (o : Option stored.Item)
        (m : Moves s.envs envs item behind o) where
      pub stored_new : (y : stored.Item) → o ≡ Some y → Contains s.found.items y → ⊥
      stored_new y is c =
          moved_new given.tables s tables envs wider (once tables.environments) item item_named behind o m way behind_new y is
          (mapped_in (means (reached envs s.nodes s.found)) s.found.items y c)

      -- a way of that form names no node
      no_node_way : (prev done : ℕ) → way ≡ Tree prev done → ⊥
      no_node_way prev done e =
          ⊎_elim (λ (h : way ≡ Pass number). let q : Pass number ≡ Tree prev done = sym h ∙ e in cc)
          (λ (h : way ≡ Leaf number). let q : Leaf number ≡ Tree prev done = sym h ∙ e in cc) once_only

      pub moves_event : (f : numbered.Finding) (r : Result (Unit {0}) RunFault) → f.indexed ≡ s.found.indexed →
          AddsBehind s.found f o way budget r → Events core text budget s (reached envs s.nodes f) r
      moves_event f r same d =
          alone (By way (behind it)) (λ w x h. (alike w x).1 h) (λ w x h. (alike w x).0 h) never running
          (λ w x h prev done e. no_node_way prev done (sym h.0 ∙ e)) (reached envs s.nodes f) r
          (moved_pushes given.tables s tables envs wider (once tables.environments) item item_named behind o m way behind_new f budget r d) same

  -- by the form of the step
  pub test_alike : (names : List (List ℕ)) (e : Expression) → StandsBefore core it names (Test e) → (w : Way) (x : Item) →
      After w x ↔ By (Pass number) (IsBehindTest text names e it) w x
  test_alike names e b w x =
      let q = given.runs.tests_pass core text (seen s).items (nodes_in s) it number names e b w x in (
        λ h. let p = q.0 h in (p.0, (p.1, p.2)),
        λ h. q.1 (h.0, h.1.0, h.1.1),
      )

  pub bind_alike : (names : List (List ℕ)) (name : List ℕ) (e : Expression) → StandsBefore core it names (Bind name e) → (w : Way) (x : Item) →
      After w x ↔ By (Pass number) (IsBehindBind text names e it) w x
  bind_alike names name e b w x = given.runs.binds_pass core text (seen s).items (nodes_in s) it number names name e b w x

  pub terminal_alike : (names : List (List ℕ)) (what : Pattern) (label : Option (List ℕ)) (excluded : List Pattern) →
      StandsBefore core it names (Term what label excluded) → (w : Way) (x : Item) →
      After w x ↔ By (Leaf number) (IsBehind text what label excluded it) w x
  terminal_alike names what label excluded b w x =
      given.runs.terminals_take_leaves core text (seen s).items (nodes_in s) it number names what label excluded b w x

  pub test_never : (names : List (List ℕ)) (e : Expression) → StandsBefore core it names (Test e) → (i : Instance) → IsCaller core text it i → ⊥
  test_never names e b i c = ((given.tables.before_tests core text it names e b).calling i c.label c.excluded).0 c.calls

  pub bind_never : (names : List (List ℕ)) (name : List ℕ) (e : Expression) → StandsBefore core it names (Bind name e) → (i : Instance) →
      IsCaller core text it i → ⊥
  bind_never names name e b i c = ((given.tables.before_binds core text it names name e b).calling i c.label c.excluded).0 c.calls

  pub terminal_never : (names : List (List ℕ)) (what : Pattern) (label : Option (List ℕ)) (excluded : List Pattern) →
      StandsBefore core it names (Term what label excluded) → (i : Instance) → IsCaller core text it i → ⊥
  terminal_never names what label excluded b i c =
      ((given.tables.before_terminals core text it names what label excluded b).calling i c.label c.excluded).0 c.calls

  pub test_running : (names : List (List ℕ)) (e : Expression) → StandsBefore core it names (Test e) → IsComplete core it → ⊥
  test_running names e b h = (given.tables.before_tests core text it names e b).ending.0 h

  pub bind_running : (names : List (List ℕ)) (name : List ℕ) (e : Expression) → StandsBefore core it names (Bind name e) → IsComplete core it → ⊥
  bind_running names name e b h = (given.tables.before_binds core text it names name e b).ending.0 h

  pub terminal_running : (names : List (List ℕ)) (what : Pattern) (label : Option (List ℕ)) (excluded : List Pattern) →
      StandsBefore core it names (Term what label excluded) → IsComplete core it → ⊥
  terminal_running names what label excluded b h = (given.tables.before_terminals core text it names what label excluded b).ending.0 h

  -- an item with no step behind it is complete
  pub completes : IsWellKinded core → (n : ℕ) → n ≡ it.instance.nonterminal → step_at core n it.alternative it.dot ≡ None → IsComplete core it
  completes fits n is none =
      (given.tables.ends_are_complete core text it fits
      (taking.before.whole.run.reachable it (mapped_in (means s) s.found.items item (contains_from_at s.found.items number item taking.at)))).1
      (ap (λ (z : ℕ). step_at core z it.alternative it.dot) (sym is) ∙ none)

-- the exits of a `?` in an event
pub event_exit : (core : List Nonterminal) (text : Input) (budget : ℕ) (a b : Reached) (r : Result (Unit {0}) RunFault) →
    IsErrAnd r (λ y. y ≡ fault.Memory) → Events core text budget a b r
event_exit core text budget a b r h =
    let e = err_from_is_err_and r h in
    subst (Events core text budget a b) (sym e.1) (subst (λ (z : RunFault). Refuses core text budget a z) (sym e.2) tt)

pub event_stops : (core : List Nonterminal) (text : Input) (budget : ℕ) (a b : Reached) (r : Result (Unit {0}) RunFault) (f : RunFault) →
    IsErrAnd r (λ y. y ≡ f) → Refuses core text budget a f → Events core text budget a b r
event_stops core text budget a b r f h d =
    let e = err_from_is_err_and r h in
    subst (Events core text budget a b) (sym e.1) (subst (λ (z : RunFault). Refuses core text budget a z) (sym e.2) d)
