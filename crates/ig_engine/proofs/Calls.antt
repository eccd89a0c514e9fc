-- An item before a call is taken.
use Rattle.std.proofs.Common.{◌≡◌, ◌⊎◌, ⊎_elim, inl, inr, ℕ, ◌<◌, List, [], ◌∷◌, ◌++◌, length, Contains, Some, refl, sym, ap, ◌∙◌, subst, arith, slice_get, map}
use Rattle.std.specs.Prelude.{◌↔◌, Ok, Err, Option, None, IsTrue}
use Rattle.std.proofs.lemmas.List.{map-append}
use Rattle.std.proofs.lemmas.Option.{same_Some, slice_get_within}
use Rattle.ig_text.specs.Input.{Input}
use Rattle.ig_text.proofs.Lists.{contains_from_at, same_map, in_pushed, mapped_at, mapped_in, none_in_nil, place_last, unmapped_in}
use Rattle.ig_text.specs.declared.pattern.Pattern.{Pattern}
use Rattle.ig_expr.specs.Expression.{Expression}
use Rattle.ig_expr.specs.declared.value.Value.{Value}
use Rattle.ig_item.specs.Items.{Item, Calls, IsComplete, StandsBefore}
use Rattle.ig_item.specs.Step.{Call}
use Rattle.ig_item.specs.Tables.{instance_by, HaveValues}
use Rattle.ig_item.specs.WellKinded.{NoneTwice, HasRoot}
use Rattle.ig_item.specs.declared.core_grammar.Nonterminal.{Nonterminal}
use Rattle.ig_item.specs.declared.items.Instance.{Instance}
use Rattle.ig_item.specs.declared.items.InstanceKey.{InstanceKey}
use Rattle.ig_item.specs.declared.items.Item as stored
use Rattle.ig_item.specs.declared.run_fault.RunFault.{RunFault}
use Rattle.ig_item.specs.declared.run_fault.RunFault.TheVariants as fault
use Rattle.ig_item.specs.declared.ways.Way.{Way}
use Rattle.ig_item.specs.declared.ways.Way.TheVariants.{Begin, Node as Tree}
use Rattle.ig_run_moves.specs.Finding as numbered
use Rattle.ig_gss.specs.Nodes as shared
use Rattle.ig_gss.specs.declared.marks.Edge.{Edge}
use Rattle.ig_gss.specs.declared.marks.Pop as marks
use Rattle.ig_run_moves.specs.Rules.{IsCallee}
use Rattle.ig_run_moves.specs.Tables.{GivesCallee}
use Rattle.ig_run_laws.specs.Finding.{Finding, Finds, IsRecorded, Records}
use Rattle.ig_run_laws.specs.FirstCalls.{CallsNothing, IsBehindLater}
use Rattle.ig_run_laws.specs.Rules.{IsCaller, IsFirstOf, IsReturn}
use Rattle.ig_run_laws.specs.Stacks.{Node, HasPop, Meets, Pop, fresh, keys_of, pop}
use Rattle.ig_run_tables.specs.Extends.{Extends}
use Rattle.ig_engine.specs.Adding.{Adds, AreNew, By, IsAdded, IsOnward, IsReturnAtOne, Refuses}
use Rattle.ig_engine.specs.Given as laws
use Rattle.ig_engine.specs.Reached.{Reached, AreIndexed, AreTables, EdgesSay, IsBare, IsEdge, Says, Taking, keys_in, means, node_seen, nodes_in, reached, seen}
use Rattle.ig_engine.proofs.Adding.{adds_grown, adds_nothing}
use Rattle.ig_engine.proofs.Event as events
use Rattle.ig_engine.proofs.Indexing.{behind_first, indexed_still}
use Rattle.ig_engine.proofs.Lists.{extends_at, extends_by, extends_same, extends_then, none_twice_longer}
use Rattle.ig_engine.proofs.Nodes.{HaveToo, had, made, meets_call, more_edge, one_node, seen_edge, updated}
use Rattle.ig_engine.proofs.Recording.{records_known}
use Rattle.ig_engine.proofs.Stored.{WasThere, edge_keys, edge_was, edges_there, pops_there, same_keys_seen, same_keys_tables}
use Rattle.ig_engine.proofs.Tables.{finding, grown_nodes, grown_tables}

module _ (given : laws.Given) (core : List Nonterminal) (text : Input) (budget : ℕ) (item : stored.Item) (number : ℕ) (s : Reached)
    (taking : Taking core text budget item number s) (root : HasRoot core) (names : List (List ℕ)) (n : ℕ) (arguments : List Expression)
    (label : Option (List ℕ)) (excluded : List Pattern)
    (stands : StandsBefore core (means s item) names (Call n arguments label excluded)) where
  abbrev it : Item
  it = means s item

  abbrev After : Way → Item → Type 0
  After = events.After given core text budget item number s taking

  abbrev held : Finding
  held = events.held given core text budget item number s taking

  tables : AreTables s
  tables = events.tables given core text budget item number s taking

  running : IsComplete core it → ⊥
  running h = (given.tables.before_calls core text it names n arguments label excluded stands).ending.0 h

  called : (callee : Instance) → IsCallee text names n arguments it callee → Calls core text it callee label excluded
  called callee c = ((given.tables.before_calls core text it names n arguments label excluded stands).calling callee label excluded).1 (refl, refl, c)

  is_callee : (callee : Instance) → IsCaller core text it callee → IsCallee text names n arguments it callee
  is_callee callee c = (((given.tables.before_calls core text it names n arguments label excluded stands).calling callee c.label c.excluded).0 c.calls).2

  abbrev pub IsFirstHere : Type 0
  IsFirstHere = CallsNothing core it.instance.nonterminal it.alternative it.dot

  bare_here : label ≡ None → excluded ≡ [] → IsBare core text it
  bare_here none nothing callee l e c =
      let q = ((given.tables.before_calls core text it names n arguments label excluded stands).calling callee l e).0 c in
      (q.0 ∙ none, q.1 ∙ nothing)

  -- an edge that says what is so
  says_here : (edge : Edge) → (IsTrue edge.is_bare → (label ≡ None) × (excluded ≡ [])) → (IsTrue edge.is_first ↔ IsFirstHere) →
      Says core text edge it
  says_here edge bare first = record { bare = λ h. let b = bare h in bare_here b.0 b.1; first = first }

  -- environments were added for the arguments
  module _ (envs : List (List Value)) (wider : Extends s.envs envs) (once : NoneTwice s.envs → NoneTwice envs) (o : Option InstanceKey)
      (gives : GivesCallee s.envs envs item (IsCallee text names n arguments) o) where
    abbrev between : Reached
    between = reached envs s.nodes s.found

    between_tables : AreTables between
    between_tables = grown_tables given.tables s envs wider tables (once tables.environments)

    -- an argument has no value
    pub uncalled : o ≡ None → IsOnward core text budget s between
    uncalled is =
        events.alone given core text budget item number s taking (λ w x. ⊥) (λ w x h. absurd h)
        (λ w x h. given.runs.none_is_called core text (seen s).items (nodes_in s) it number names n arguments label excluded stands never w x h)
        never running (λ w x h prev done e. h) between (Ok tt)
        (adds_grown given.tables (λ w x. ⊥) budget s envs between (Ok tt) tables wider (adds_nothing (λ w x. ⊥) budget between between_tables (λ w x h. h))) refl
      where
        never : (i : Instance) → IsCaller core text it i → ⊥
        never i c =
            let q = (gives.exact (keys_in s) i).0 (is_callee i c) in let no : None ≡ Some q.0 = sym is ∙ q.1 in cc

    -- the instance that is called
    module _ (key : InstanceKey) (is : o ≡ Some key) where
      abbrev callee : Instance
      callee = instance_by envs key

      pub key_within : key.env < length envs
      key_within = gives.there key is

      this_callee : IsCallee text names n arguments it callee
      this_callee = (gives.exact (keys_in s) callee).1 (key, is, refl)

      pub caller : IsCaller core text it callee
      caller = record { label = label; excluded = excluded; calls = called callee this_callee }

      one : (i : Instance) → IsCaller core text it i → i ≡ callee
      one i c =
          (given.tables.calls_are_one core text it i callee c.label label c.excluded excluded c.calls (called callee this_callee)).callee

      nodes_grown : map (node_seen envs) s.nodes ≡ nodes_in s
      nodes_grown = grown_nodes given.tables s envs wider tables

      key_seen : (m : shared.Node) → Contains s.nodes m → instance_by envs m.key ≡ callee → m.key ≡ key
      key_seen m c e =
          given.tables.instances_are_one envs m.key key (once tables.environments)
          (given.tables.instances_are_kept s.envs envs m.key wider (tables.values m.key (mapped_in (λ (k : shared.Node). k.key) s.nodes m c))).there
          key_within e

      -- the nodes, in which it has one, and what becomes of them
      module _ (nodes : List shared.Node) (keys : Extends (keys_in s) (shared.keys_of nodes)) (keys_once : NoneTwice (shared.keys_of nodes))
          (k : ℕ) (node : shared.Node) (at : slice_get nodes k ≡ Some node) (node_key : node.key ≡ key)
          (old : (m : shared.Node) → Contains nodes m → (e : Edge) → Contains m.edges e →
          (w : shared.Node) × Contains s.nodes w × Contains w.edges e)
          (have : HaveToo (nodes_in s) (map (node_seen envs) nodes) callee) (keys_there : HaveValues envs (shared.keys_of nodes)) where
        abbrev ready : Reached
        ready = reached envs nodes s.found

        pub ready_means : (x : stored.Item) → Contains s.found.items x → means ready x ≡ means s x
        ready_means x c =
            (given.tables.names_are_kept s.envs envs (keys_in s) (shared.keys_of nodes) x wider keys tables.values (tables.items x c)).same

        pub ready_tables : AreTables ready
        ready_tables =
            record {
              environments = once tables.environments;
              instances = keys_once;
              values = keys_there;
              items = λ x c.
                  (given.tables.names_are_kept s.envs envs (keys_in s) (shared.keys_of nodes) x wider keys tables.values (tables.items x c)).named;
              numbers = tables.numbers;
            }

        pub ready_seen : seen ready ≡ seen s
        ready_seen =
            ap (λ (z : List Item). finding z s.found.ways s.found.waiting)
            (same_map (means ready) (means s) s.found.items ready_means)

        pub ready_indexed : AreIndexed core (shared.keys_of nodes) s.found
        ready_indexed x c later =
            taking.before.indexed x c
            (subst (λ (z : Item). IsBehindLater core z.instance.nonterminal z.alternative z.dot) (ready_means x c) later)

        -- what was added then
        module _ (may : Way → Item → Type 0) (into : (w : Way) (x : Item) → may w x → After w x)
            (back : (w : Way) (x : Item) → After w x → may w x ⊎ IsRecorded (seen s) w x) where
          module _ (edge : Edge) (edge_item : edge.item ≡ number) (says : Says core text edge it) (c : Reached) (d : IsAdded may budget ready c)
              (indexed : AreIndexed core (keys_in c) c.found) (later : List shared.Node) (later_is : later ≡ shared.with_edge c.nodes k edge) where
            abbrev after : Reached
            after = reached c.envs later c.found

            same_keys : shared.keys_of later ≡ shared.keys_of c.nodes
            same_keys = ap shared.keys_of later_is ∙ edge_keys c.nodes k edge

            all_envs : Extends s.envs c.envs
            all_envs = extends_then s.envs envs c.envs wider d.envs

            seen_nodes : map (node_seen c.envs) c.nodes ≡ map (node_seen envs) nodes
            seen_nodes = ap (λ (z : List shared.Node). map (node_seen c.envs) z) d.nodes ∙ grown_nodes given.tables ready c.envs d.envs ready_tables

            nodes_are : nodes_in after ≡ updated (more_edge number) (map (node_seen envs) nodes) k
            nodes_are =
                ap (λ (z : List shared.Node). map (node_seen c.envs) z) later_is ∙ seen_edge c.envs c.nodes k edge ∙
                ap (λ (z : ℕ). updated (more_edge z) (map (node_seen c.envs) c.nodes) k) edge_item ∙
                ap (λ (z : List Node). updated (more_edge number) z k) seen_nodes

            meets : Meets core text it number (nodes_in s) (nodes_in after)
            meets =
                subst (Meets core text it number (nodes_in s)) (sym nodes_are)
                (meets_call core text it number (nodes_in s) callee caller one running (map (node_seen envs) nodes) have k (node_seen envs node)
                (mapped_at (node_seen envs) nodes k node at) (ap (instance_by envs) node_key))

            keys_after : Extends (keys_in s) (keys_in after)
            keys_after =
                subst (Extends (keys_in s)) (sym (same_keys ∙ ap shared.keys_of d.nodes)) keys

            says_after : EdgesSay core text after
            says_after =
                record {
                  each = λ m h e i y there.
                      ⊎_elim
                      (λ (w : WasThere c.nodes e).
                      let q = old w.node (subst (λ (z : List shared.Node). Contains z w.node) d.nodes w.among) e w.has in
                      events.old_says given core text budget item number s taking after all_envs keys_after d.items q.0 q.1 e q.2 y there)
                      (λ (w : e ≡ edge). new_says e w y there)
                      (edge_was c.nodes k edge m (subst (λ (z : List shared.Node). Contains z m) later_is h) e i);
                }
              where
                new_says : (e : Edge) → e ≡ edge → (y : stored.Item) → slice_get c.found.items e.item ≡ Some y → Says core text e (means after y)
                new_says e w y there =
                    let at_number : slice_get c.found.items number ≡ Some item =
                    extends_at s.found.items c.found.items number item d.items taking.at in
                    let place : e.item ≡ number = ap (λ (z : Edge). z.item) w ∙ edge_item in
                    let same : item ≡ y = same_Some item y (sym at_number ∙ ap (slice_get c.found.items) (sym place) ∙ there) in
                    let means_same =
                    (given.tables.names_are_kept s.envs c.envs (keys_in s) (keys_in after) item all_envs keys_after tables.values
                    (tables.items item (contains_from_at s.found.items number item taking.at))).same in
                    subst (λ (z : Edge). Says core text z (means after y)) (sym w)
                    (subst (λ (z : stored.Item). Says core text edge (means after z)) same (subst (Says core text edge) (sym means_same) says))

            pub call_over : IsOnward core text budget s after
            call_over =
                events.onward given core text budget item number s taking after (same_keys_tables c later same_keys d.tables)
                (subst (Records After (seen s)) (sym (same_keys_seen c later same_keys))
                (records_known may After (seen s) (seen c) into back (subst (λ (z : Finding). Records may z (seen c)) ready_seen d.records)))
                meets (λ h. absurd (running h)) says_after (subst (λ (z : List InstanceKey). AreIndexed core z c.found) (sym same_keys) indexed)
                (d.within taking.before.within)

          pub call_stopped : (c : Reached) (f : RunFault) → Adds may budget ready c (Err f) → Refuses core text budget s f
          call_stopped c f d =
              events.stopped given core text budget item number s taking may c f into (moved f d)
            where
              moved : (f : RunFault) → Adds may budget ready c (Err f) → Adds may budget s c (Err f)
              moved fault.Budget d =
                  record { finds = subst (λ (z : Finding). Finds may z.items (seen c).items) ready_seen d.finds; over = d.over }
              moved fault.Memory d = tt

      -- a node was made
      module _ (nodes : List shared.Node) (k : ℕ) (m : shared.MakesNode s.nodes nodes key k) where
        not_seen_yet : Contains (keys_of (nodes_in s)) callee → ⊥
        not_seen_yet c =
            let q = unmapped_in (λ (z : Node). z.key) (nodes_in s) callee c in
            let w = unmapped_in (node_seen s.envs) s.nodes q.0 q.1 in
            let kept = (given.tables.instances_are_kept s.envs envs w.0.key wider
            (tables.values w.0.key (mapped_in (λ (z : shared.Node). z.key) s.nodes w.0 w.1))).same in
            let e : instance_by envs w.0.key ≡ callee = kept ∙ ap (λ (z : Node). z.key) w.2 ∙ q.2 in
            m.2 (subst (Contains (keys_in s)) (key_seen w.0 w.1 e) (mapped_in (λ (z : shared.Node). z.key) s.nodes w.0 w.1))

        pub made_firsts_new : (x : Item) → IsFirstOf core callee x → Contains (seen s).items x → ⊥
        made_firsts_new x f c = given.runs.firsts_are_new core text held (nodes_in s) callee x taking.before.whole not_seen_yet f c

        made_keys : shared.keys_of nodes ≡ keys_in s ++ key ∷ []
        made_keys =
            ap shared.keys_of m.0 ∙ map-append (λ (z : shared.Node). z.key) s.nodes (shared.fresh key ∷ [])

        made_extends : Extends (keys_in s) (shared.keys_of nodes)
        made_extends = extends_by (keys_in s) (shared.keys_of nodes) (key ∷ []) made_keys

        made_once : NoneTwice (shared.keys_of nodes)
        made_once = subst NoneTwice (sym made_keys) (none_twice_longer (keys_in s) key tables.instances m.2)

        made_at : slice_get nodes k ≡ Some (shared.fresh key)
        made_at =
            ap (slice_get nodes) m.1 ∙ ap (λ (z : List shared.Node). slice_get z (length s.nodes)) m.0 ∙ place_last s.nodes (shared.fresh key)

        made_old : (w : shared.Node) → Contains nodes w → (e : Edge) → Contains w.edges e →
            (v : shared.Node) × Contains s.nodes v × Contains v.edges e
        made_old w c e h =
            ⊎_elim (λ (l : Contains s.nodes w). (w, l, h))
            (λ (r : w ≡ shared.fresh key). absurd (none_in_nil e (subst (λ (z : shared.Node). Contains z.edges e) r h)))
            (in_pushed s.nodes (shared.fresh key) w (subst (λ (z : List shared.Node). Contains z w) m.0 c))

        made_have : HaveToo (nodes_in s) (map (node_seen envs) nodes) callee
        made_have =
            subst (λ (z : List Node). HaveToo (nodes_in s) z callee)
            (sym (ap (λ (z : List shared.Node). map (node_seen envs) z) m.0 ∙
            map-append (node_seen envs) s.nodes (shared.fresh key ∷ []) ∙ ap (λ (z : List Node). z ++ fresh callee ∷ []) nodes_grown))
            (made (nodes_in s) callee taking.before.whole.stacks.once not_seen_yet)

        made_values : HaveValues envs (shared.keys_of nodes)
        made_values other c =
            ⊎_elim
            (λ (l : Contains (keys_in s) other). (given.tables.instances_are_kept s.envs envs other wider (tables.values other l)).there)
            (λ (r : other ≡ key). subst (λ (z : InstanceKey). z.env < length envs) (sym r) key_within)
            (in_pushed (keys_in s) key other (subst (λ (z : List InstanceKey). Contains z other) made_keys c))

        pub made_unmarked : (nodes' : List shared.Node) → nodes' ≡ nodes → Contains (shared.items_at nodes' k) number → ⊥
        made_unmarked nodes' same c =
            none_in_nil number
            (subst (λ (z : List Edge). Contains (map (λ e. e.item) z) number) (edges_there nodes k (shared.fresh key) made_at)
            (subst (λ (z : List shared.Node). Contains (shared.items_at z k) number) same c))

        made_into : (w : Way) (x : Item) → By Begin (IsFirstOf core callee) w x → After w x
        made_into w x h = (given.runs.callers_meet_pops core text (seen s).items (nodes_in s) it number callee caller w x).1 (inl h)

        made_back : (w : Way) (x : Item) → After w x → By Begin (IsFirstOf core callee) w x ⊎ IsRecorded (seen s) w x
        made_back w x h =
            ⊎_elim (λ (l : By Begin (IsFirstOf core callee) w x). inl l)
            (λ (r : (p : Pop) × HasPop (nodes_in s) callee p × (w ≡ Tree number p.done) × IsReturn core text it callee p.end x).
            absurd (not_seen_yet (subst (Contains (keys_of (nodes_in s))) r.1.2 (mapped_in (λ (z : Node). z.key) (nodes_in s) r.1.0 r.1.1))))
            ((given.runs.callers_meet_pops core text (seen s).items (nodes_in s) it number callee caller w x).0 h)

        abbrev made_ready : Reached
        made_ready = reached envs nodes s.found

        pub made_tables : AreTables made_ready
        made_tables = ready_tables nodes made_extends made_once k (shared.fresh key) made_at refl made_old made_have made_values

        made_seen : seen made_ready ≡ seen s
        made_seen = ready_seen nodes made_extends made_once k (shared.fresh key) made_at refl made_old made_have made_values

        -- its first items aren't there
        pub made_firsts : (x : Item) → IsFirstOf core callee x → Contains (seen made_ready).items x → ⊥
        made_firsts x f c = made_firsts_new x f (subst (λ (z : Finding). Contains z.items x) made_seen c)

        -- first items are behind no call
        no_firsts_later : (w : Way) (x : Item) → By Begin (IsFirstOf core callee) w x →
            IsBehindLater core x.instance.nonterminal x.alternative x.dot → ⊥
        no_firsts_later w x h b =
            let d : x.dot ≡ 0 = ap (λ (z : Item). z.dot) h.1.is in let e = b.call.next in omega (arith, d, e)

        pub made_call : (edge : Edge) → edge.item ≡ number → Says core text edge it → (c : Reached) →
            IsAdded (By Begin (IsFirstOf core callee)) budget made_ready c → c.found.indexed ≡ s.found.indexed → (later : List shared.Node) →
            later ≡ shared.with_edge c.nodes k edge → IsOnward core text budget s (reached c.envs later c.found)
        made_call edge edge_item says c d same later later_is =
            call_over nodes made_extends made_once k (shared.fresh key) made_at refl made_old made_have made_values
            (By Begin (IsFirstOf core callee)) made_into made_back edge edge_item says c d
            (indexed_still given.tables core (By Begin (IsFirstOf core callee)) budget made_ready c made_tables d same no_firsts_later
            (ready_indexed nodes made_extends made_once k (shared.fresh key) made_at refl made_old made_have made_values)) later later_is

        pub made_within : (nodes' : List shared.Node) → nodes' ≡ nodes → k < length nodes'
        made_within nodes' same = slice_get_within nodes' k (shared.fresh key) (ap (λ (z : List shared.Node). slice_get z k) same ∙ made_at)

        -- as `add_firsts` leaves it
        pub made_call_in : (edge : Edge) → edge.item ≡ number → (IsTrue edge.is_bare → (label ≡ None) × (excluded ≡ [])) →
            (IsTrue edge.is_first ↔ IsFirstHere) →
            (envs' : List (List Value)) (nodes' : List shared.Node) (f : numbered.Finding) → envs' ≡ envs → nodes' ≡ nodes →
            IsAdded (By Begin (IsFirstOf core callee)) budget made_ready (reached envs nodes f) → f.indexed ≡ s.found.indexed →
            (later : List shared.Node) → later ≡ shared.with_edge nodes' k edge → IsOnward core text budget s (reached envs' later f)
        made_call_in edge edge_item bare first envs' nodes' f same_envs same_nodes d same later later_is =
            subst (λ (z : List (List Value)). IsOnward core text budget s (reached z later f)) (sym same_envs)
            (made_call edge edge_item (says_here edge bare first) (reached envs nodes f) d same later
            (later_is ∙ ap (λ (z : List shared.Node). shared.with_edge z k edge) same_nodes))

        pub made_stopped : (c : Reached) (f : RunFault) → Adds (By Begin (IsFirstOf core callee)) budget made_ready c (Err f) →
            Refuses core text budget s f
        made_stopped c f d =
            call_stopped nodes made_extends made_once k (shared.fresh key) made_at refl made_old made_have made_values
            (By Begin (IsFirstOf core callee)) made_into made_back c f d

      -- a node was found
      module _ (nodes : List shared.Node) (k : ℕ) (m : shared.FindsNode s.nodes nodes key k) where
        abbrev node : shared.Node
        node = m.1.0

        found_in : Contains s.nodes node
        found_in = contains_from_at s.nodes k node m.1.1

        found_key : (node_seen s.envs node).key ≡ callee
        found_key =
            sym (given.tables.instances_are_kept s.envs envs node.key wider
            (tables.values node.key (mapped_in (λ (z : shared.Node). z.key) s.nodes node found_in))).same ∙ ap (instance_by envs) m.1.2

        found_seen_in : Contains (nodes_in s) (node_seen s.envs node)
        found_seen_in = mapped_in (node_seen s.envs) s.nodes node found_in

        found_had : Contains (keys_of (nodes_in s)) callee
        found_had = subst (Contains (keys_of (nodes_in s))) found_key (mapped_in (λ (z : Node). z.key) (nodes_in s) (node_seen s.envs node) found_seen_in)

        found_extends : Extends (keys_in s) (shared.keys_of nodes)
        found_extends = extends_same (keys_in s) (shared.keys_of nodes) (ap shared.keys_of m.0)

        found_once : NoneTwice (shared.keys_of nodes)
        found_once = subst (λ (z : List shared.Node). NoneTwice (shared.keys_of z)) (sym m.0) tables.instances

        found_at : slice_get nodes k ≡ Some node
        found_at = ap (λ (z : List shared.Node). slice_get z k) m.0 ∙ m.1.1

        found_old : (w : shared.Node) → Contains nodes w → (e : Edge) → Contains w.edges e →
            (v : shared.Node) × Contains s.nodes v × Contains v.edges e
        found_old w c e h = (w, subst (λ (z : List shared.Node). Contains z w) m.0 c, h)

        found_have : HaveToo (nodes_in s) (map (node_seen envs) nodes) callee
        found_have =
            subst (λ (z : List Node). HaveToo (nodes_in s) z callee)
            (sym (ap (λ (z : List shared.Node). map (node_seen envs) z) m.0 ∙ nodes_grown))
            (had (nodes_in s) callee taking.before.whole.stacks.once found_had)

        found_values : HaveValues envs (shared.keys_of nodes)
        found_values = subst (λ (z : List shared.Node). HaveValues envs (shared.keys_of z)) (sym m.0) between_tables.values

        abbrev AtOne : Way → Item → Type 0
        AtOne = IsReturnAtOne core text (seen s).items number (shared.pops_at nodes k)

        pops_are : shared.pops_at nodes k ≡ node.pops
        pops_are = pops_there nodes k node found_at

        it_at : slice_get (seen s).items number ≡ Some it
        it_at = mapped_at (means s) s.found.items number item taking.at

        found_into : (w : Way) (x : Item) → AtOne w x → After w x
        found_into w x h =
            (given.runs.callers_meet_pops core text (seen s).items (nodes_in s) it number callee caller w x).1
            (inr (
              pop h.0.end h.0.done,
              (
                node_seen s.envs node,
                found_seen_in,
                found_key,
                mapped_in (λ (p : marks.Pop). pop p.end p.done) node.pops h.0 (subst (λ (z : List marks.Pop). Contains z h.0) pops_are h.1),
              ),
              h.2.2,
              returns h.2.3 (subst (λ (z : Item). IsReturn core text z h.2.3 h.0.end x) same h.2.4),
            ))
          where
            same : h.2.0 ≡ it
            same = same_Some h.2.0 it (sym h.2.1 ∙ it_at)

            returns : (other : Instance) → IsReturn core text it other h.0.end x → IsReturn core text it callee h.0.end x
            returns other r =
                let q = (given.tables.calls_are_one core text it other callee r.label label r.excluded excluded r.calls (called callee this_callee)).callee in
                subst (λ (z : Instance). IsReturn core text it z h.0.end x) q r

        found_back : (w : Way) (x : Item) → After w x → AtOne w x ⊎ IsRecorded (seen s) w x
        found_back w x h =
            ⊎_elim
            (λ (l : (w ≡ Begin) × IsFirstOf core callee x).
            inr (subst (λ (z : Way). IsRecorded (seen s) z x) (sym l.0)
            (given.runs.firsts_are_recorded core text held (nodes_in s) callee x root taking.before.whole found_had l.1)))
            (λ (r : (p : Pop) × HasPop (nodes_in s) callee p × (w ≡ Tree number p.done) × IsReturn core text it callee p.end x). inl (at_one r))
            ((given.runs.callers_meet_pops core text (seen s).items (nodes_in s) it number callee caller w x).0 h)
          where
            at_one : (p : Pop) × HasPop (nodes_in s) callee p × (w ≡ Tree number p.done) × IsReturn core text it callee p.end x → AtOne w x
            at_one r =
                let same = one_node (nodes_in s) taking.before.whole.stacks.once r.1.0 (node_seen s.envs node) r.1.1 found_seen_in (r.1.2 ∙ sym found_key) in
                let q = unmapped_in (λ (p : marks.Pop). pop p.end p.done) node.pops r.0 (subst (λ (z : Node). Contains z.pops r.0) same r.1.3) in (
                  q.0,
                  subst (λ (z : List marks.Pop). Contains z q.0) (sym pops_are) q.1,
                  (
                    it,
                    it_at,
                    r.2 ∙ ap (λ (z : Pop). Tree number z.done) (sym q.2),
                    callee,
                    subst (λ (z : Pop). IsReturn core text it callee z.end x) (sym q.2) r.3,
                  ),
                )

        -- the item doesn't wait there yet
        pub found_unmarked : (nodes' : List shared.Node) → nodes' ≡ nodes → Contains (shared.items_at nodes' k) number → ⊥
        found_unmarked nodes' same c =
            let h = subst (λ (z : List Edge). Contains (map (λ e. e.item) z) number) (edges_there nodes k node found_at)
            (subst (λ (z : List shared.Node). Contains (shared.items_at z k) number) same c) in
            let w = (taking.before.whole.stacks.edges (node_seen s.envs node) found_seen_in number).0 h in
            let place : w.is_known.number ≡ number =
            taking.before.whole.run.once w.is_known.number number w.item w.is_known.there w.there in
            let this : it ≡ w.item = same_Some it w.item (sym it_at ∙ w.there) in
            w.is_known.taken
            (subst (Contains held.waiting)
            (λ i. record { position = (ap (λ (z : Item). z.position) this) i; number = sym place i }) taking.takes.there)

        -- behind the first call of its alternative nothing is found yet
        found_new : IsFirstHere → AreNew s AtOne
        found_new first way x h c =
            let same : h.2.0 ≡ it = same_Some h.2.0 it (sym h.2.1 ∙ it_at) in
            given.runs.first_returns_are_new core text held (nodes_in s) s.found.waiting
            (events.ticket given core text budget item number s taking) it x number h.0.done taking.before.whole taking.takes
            (λ e. absurd (running e)) (subst (λ (z : Way). After z x) h.2.2 (found_into way x h))
            (behind_first core text h.2.0 h.2.3 h.0.end x h.2.4
            (subst (λ (z : Item). CallsNothing core z.instance.nonterminal z.alternative z.dot) (sym same) first)) c

        abbrev found_ready : Reached
        found_ready = reached envs nodes s.found

        pub found_tables : AreTables found_ready
        found_tables = ready_tables nodes found_extends found_once k node found_at m.1.2 found_old found_have found_values

        found_seen : seen found_ready ≡ seen s
        found_seen = ready_seen nodes found_extends found_once k node found_at m.1.2 found_old found_have found_values

        -- as `meet_pops` sees it
        abbrev AtOneThere : Way → Item → Type 0
        AtOneThere = IsReturnAtOne core text (seen found_ready).items number (shared.pops_at nodes k)

        there_into : (w : Way) (x : Item) → AtOneThere w x → After w x
        there_into w x h =
            found_into w x (subst (λ (z : Finding). IsReturnAtOne core text z.items number (shared.pops_at nodes k) w x) found_seen h)

        there_back : (w : Way) (x : Item) → After w x → AtOneThere w x ⊎ IsRecorded (seen s) w x
        there_back w x h =
            ⊎_elim (λ (l : AtOne w x).
            inl (subst (λ (z : Finding). IsReturnAtOne core text z.items number (shared.pops_at nodes k) w x) (sym found_seen) l))
            (λ (r : IsRecorded (seen s) w x). inr r) (found_back w x h)

        pub there_new : (edge : Edge) → (IsTrue edge.is_first ↔ IsFirstHere) → IsTrue edge.is_first → AreNew found_ready AtOneThere
        there_new edge first is way x h c =
            found_new (first.0 is) way x
            (subst (λ (z : Finding). IsReturnAtOne core text z.items number (shared.pops_at nodes k) way x) found_seen h)
            (subst (λ (z : Finding). Contains z.items x) found_seen c)

        pub found_indexed : AreIndexed core (shared.keys_of nodes) s.found
        found_indexed = ready_indexed nodes found_extends found_once k node found_at m.1.2 found_old found_have found_values

        -- the edge that is added
        pub found_edge : (edge : Edge) → edge.item ≡ number → (IsTrue edge.is_bare → (label ≡ None) × (excluded ≡ [])) →
            (IsTrue edge.is_first ↔ IsFirstHere) → IsEdge core text found_ready edge
        found_edge edge edge_item bare first =
            let same = ready_means nodes found_extends found_once k node found_at m.1.2 found_old found_have found_values item
            (contains_from_at s.found.items number item taking.at) in
            record {
              item = item;
              there = ap (slice_get s.found.items) edge_item ∙ taking.at;
              callee = callee;
              calls = subst (λ (z : Item). IsCaller core text z callee) (sym same) caller;
              says = subst (Says core text edge) (sym same) (says_here edge bare first);
            }

        pub found_within : k < length nodes
        found_within = slice_get_within nodes k node found_at

        pub found_call : (edge : Edge) → edge.item ≡ number → (IsTrue edge.is_bare → (label ≡ None) × (excluded ≡ [])) →
            (IsTrue edge.is_first ↔ IsFirstHere) → (c : Reached) → IsAdded AtOneThere budget found_ready c →
            AreIndexed core (keys_in c) c.found → (later : List shared.Node) → later ≡ shared.with_edge c.nodes k edge →
            IsOnward core text budget s (reached c.envs later c.found)
        found_call edge edge_item bare first c d indexed later later_is =
            call_over nodes found_extends found_once k node found_at m.1.2 found_old found_have found_values
            AtOneThere there_into there_back edge edge_item (says_here edge bare first) c d indexed later later_is

        pub found_stopped : (c : Reached) (f : RunFault) → Adds AtOneThere budget found_ready c (Err f) → Refuses core text budget s f
        found_stopped c f d =
            call_stopped nodes found_extends found_once k node found_at m.1.2 found_old found_have found_values
            AtOneThere there_into there_back c f d
