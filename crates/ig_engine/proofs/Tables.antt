-- What the tables of a run tell, as they grow.
use Rattle.std.proofs.Common.{◌≡◌, ℕ, List, Contains, ap, subst, map}
use Rattle.ig_text.proofs.Lists.{mapped_in, unmapped_in, same_map}
use Rattle.ig_expr.specs.declared.value.Value.{Value}
use Rattle.ig_item.specs.Items.{Item}
use Rattle.ig_item.specs.Ways.{WayLists}
use Rattle.ig_item.specs.WellKinded.{NoneTwice}
use Rattle.ig_item.specs.declared.items.Instance.{Instance}
use Rattle.ig_item.specs.declared.items.Item as stored
use Rattle.ig_queue.specs.declared.ticket.Ticket.{Ticket}
use Rattle.ig_run_moves.specs.Laws.{StaysNamed}
use Rattle.ig_run_laws.specs.Finding.{Finding}
use Rattle.ig_run_laws.specs.Stacks.{Node, Pop, pop}
use Rattle.ig_run_tables.specs.Extends.{Extends}
use Rattle.ig_engine.specs.Given as laws
use Rattle.ig_engine.specs.Reached.{Reached, AreTables, Named, keys_in, means, node_seen, nodes_in, reached, seen}
use Rattle.ig_engine.proofs.Lists.{extends_itself}

abbrev pub finding : List Item → WayLists → List Ticket → Finding
finding items lists waiting = record { items = items; lists = lists; waiting = waiting }

abbrev node_of : List ℕ → List Pop → Instance → Node
node_of edges pops key = record { key = key; edges = edges; pops = pops }

-- environments were added
module _ (given : laws.Tables) (a : Reached) (envs : List (List Value)) (wider : Extends a.envs envs) (t : AreTables a) where
  grown_name : (x : stored.Item) → Named a x → StaysNamed a.envs envs (keys_in a) (keys_in a) x
  grown_name x n = given.names_are_kept a.envs envs (keys_in a) (keys_in a) x wider (extends_itself (keys_in a)) t.values n

  pub grown_means : (x : stored.Item) → Named a x → means (reached envs a.nodes a.found) x ≡ means a x
  grown_means x n = (grown_name x n).same

  pub grown_tables : NoneTwice envs → AreTables (reached envs a.nodes a.found)
  grown_tables once =
      record {
        environments = once;
        instances = t.instances;
        values = λ key c. (given.instances_are_kept a.envs envs key wider (t.values key c)).there;
        items = λ x c. (grown_name x (t.items x c)).named;
        numbers = t.numbers;
      }

  pub grown_seen : seen (reached envs a.nodes a.found) ≡ seen a
  grown_seen =
      ap (λ (z : List Item). finding z a.found.ways a.found.waiting)
      (same_map (means (reached envs a.nodes a.found)) (means a) a.found.items (λ x c. grown_means x (t.items x c)))

  pub grown_nodes : nodes_in (reached envs a.nodes a.found) ≡ nodes_in a
  grown_nodes =
      same_map (node_seen envs) (node_seen a.envs) a.nodes
      (λ n c. ap (node_of (map (λ e. e.item) n.edges) (map (λ p. pop p.end p.done) n.pops))
      (given.instances_are_kept a.envs envs n.key wider (t.values n.key (mapped_in (λ m. m.key) a.nodes n c))).same)

-- an item whose meaning isn't found isn't found, and the other way round
module _ (given : laws.Tables) (a : Reached) (t : AreTables a) (x : stored.Item) where
  pub not_stored : (Contains (seen a).items (means a x) → ⊥) → Contains a.found.items x → ⊥
  not_stored new c = new (mapped_in (means a) a.found.items x c)

  pub not_seen : Named a x → (Contains a.found.items x → ⊥) → Contains (seen a).items (means a x) → ⊥
  not_seen named new c =
      let q = unmapped_in (means a) a.found.items (means a x) c in
      let same : q.0 ≡ x = given.items_are_one a.envs (keys_in a) q.0 x t.environments t.instances t.values (t.items q.0 q.1) named q.2 in
      new (subst (Contains a.found.items) same q.1)
