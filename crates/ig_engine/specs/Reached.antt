-- What a run has come to: its environments, its nodes, and what it found, all by number; and what these stand for.
use Rattle.std.specs.Prelude.{◌≡◌, ◌↔◌, ◌≤◌, ℕ, List, [], map, length, Contains, Option, Some, None, slice_get, slice_index_or, IsTrue}
use Rattle.ig_text.specs.Input.{Input}
use Rattle.ig_text.specs.declared.pattern.Pattern.{Pattern}
use Rattle.ig_expr.specs.declared.value.Value.{Value}
use Rattle.ig_item.specs.Items.{Item, Calls}
use Rattle.ig_item.specs.Tables.{instance_by, HaveValues}
use Rattle.ig_item.specs.WellKinded.{NoneTwice}
use Rattle.ig_item.specs.declared.core_grammar.Nonterminal.{Nonterminal}
use Rattle.ig_item.specs.declared.items.Instance.{Instance}
use Rattle.ig_item.specs.declared.items.InstanceKey.{InstanceKey}
use Rattle.ig_item.specs.declared.items.Item as stored
use Rattle.ig_queue.specs.declared.ticket.Ticket.{Ticket}
use Rattle.ig_gss.specs.declared.marks.Edge.{Edge}
use Rattle.ig_gss.specs.Nodes as shared
use Rattle.ig_run_moves.specs.Finding as numbered
use Rattle.ig_run_moves.specs.Finding.{ticket_of}
use Rattle.ig_run_moves.specs.Tables.{IsNamed, item_by, no_key}
use Rattle.ig_run_laws.specs.Finding.{Finding, Takes}
use Rattle.ig_run_laws.specs.FirstCalls.{CallsNothing, IsBehindLater}
use Rattle.ig_run_laws.specs.Rules.{IsCaller}
use Rattle.ig_run_laws.specs.Run.{IsWhole}
use Rattle.ig_run_laws.specs.Stacks.{Node, pop}

pub record Reached : Type 0 where
  pub envs : List (List Value)
  pub nodes : List shared.Node
  pub found : numbered.Finding

abbrev pub reached : List (List Value) → List shared.Node → numbered.Finding → Reached
reached envs nodes found = record { envs = envs; nodes = nodes; found = found }

-- the instances, by the numbers of their nodes
abbrev pub keys_in : Reached → List InstanceKey
keys_in s = shared.keys_of s.nodes

-- the item that a stored one stands for, and whether its numbers are in the tables
abbrev pub means : Reached → stored.Item → Item
means s x = item_by s.envs (keys_in s) x

abbrev pub Named : Reached → stored.Item → Type 0
Named s x = IsNamed s.envs (keys_in s) x

-- the items, as what they stand for, with their ways and the tickets that wait
abbrev pub seen : Reached → Finding
seen s = record { items = map (means s) s.found.items; lists = s.found.ways; waiting = s.found.waiting }

-- the nodes, as what they stand for
abbrev pub node_seen : List (List Value) → shared.Node → Node
node_seen envs n =
    record { key = instance_by envs n.key; edges = map (λ e. e.item) n.edges; pops = map (λ p. pop p.end p.done) n.pops }

abbrev pub nodes_in : Reached → List Node
nodes_in s = map (node_seen s.envs) s.nodes

-- nothing stands twice in the tables, and all that is named is there
pub record AreTables (s : Reached) : Type 0 where
  pub environments : NoneTwice s.envs
  pub instances : NoneTwice (keys_in s)
  pub values : HaveValues s.envs (keys_in s)
  pub items : (x : stored.Item) → Contains s.found.items x → Named s x
  pub numbers : length s.found.ways.firsts ≡ length s.found.items

-- the item's call, if it stands before one, has neither a label nor an excluded pattern
abbrev pub IsBare : List Nonterminal → Input → Item → Type 0
IsBare core text it =
    (callee : Instance) (label : Option (List ℕ)) (excluded : List Pattern) → Calls core text it callee label excluded →
    (label ≡ None) × (excluded ≡ [])

-- the item stands before a call whose arguments have values
abbrev pub IsCalling : List Nonterminal → Input → Item → Type 0
IsCalling core text it = (callee : Instance) × IsCaller core text it callee

-- what the edge says of the item's call is so
pub record Says (core : List Nonterminal) (text : Input) (e : Edge) (it : Item) : Type 0 where
  pub bare : IsTrue e.is_bare → IsBare core text it
  pub first : IsTrue e.is_first ↔ CallsNothing core it.instance.nonterminal it.alternative it.dot

-- the item of the edge's number stands before a call, of which the edge says what is so
pub record IsEdge (core : List Nonterminal) (text : Input) (s : Reached) (e : Edge) : Type 0 where
  pub item : stored.Item
  pub there : slice_get s.found.items e.item ≡ Some item
  pub callee : Instance
  pub calls : IsCaller core text (means s item) callee
  pub says : Says core text e (means s item)

-- each edge says of its item's call what is so
pub record EdgesSay (core : List Nonterminal) (text : Input) (s : Reached) : Type 0 where
  pub each : (node : shared.Node) → Contains s.nodes node → (e : Edge) → Contains node.edges e → (item : stored.Item) →
      slice_get s.found.items e.item ≡ Some item → Says core text e (means s item)

-- each item that stands behind a second or later call of its alternative is indexed; no other one comes about once more
abbrev pub AreIndexed : List Nonterminal → List InstanceKey → numbered.Finding → Type 0
AreIndexed core keys found =
    (x : stored.Item) → Contains found.items x →
    IsBehindLater core (slice_index_or keys x.instance no_key).nonterminal x.alternative x.dot → Contains found.indexed x

-- a run between two events, within its budget
pub record IsReached (core : List Nonterminal) (text : Input) (budget : ℕ) (s : Reached) : Type 0 where
  pub tables : AreTables s
  pub whole : IsWhole core text (seen s) (nodes_in s)
  pub edges : EdgesSay core text s
  pub indexed : AreIndexed core (keys_in s) s.found
  pub within : length s.found.items ≤ budget

-- what was found, with other tickets
abbrev pub with_tickets : numbered.Finding → List Ticket → numbered.Finding
with_tickets f waiting = record { items = f.items; ways = f.ways; waiting = waiting; indexed = f.indexed }

-- the ticket of the item, which has that number, was taken; before that the run was between two events
pub record Taking (core : List Nonterminal) (text : Input) (budget : ℕ) (item : stored.Item) (number : ℕ) (s : Reached) :
    Type 0 where
  pub waiting : List Ticket
  pub before : IsReached core text budget (reached s.envs s.nodes (with_tickets s.found waiting))
  pub takes : Takes (seen (reached s.envs s.nodes (with_tickets s.found waiting))) s.found.waiting (ticket_of item number)
      (means s item)
  pub at : slice_get s.found.items number ≡ Some item
