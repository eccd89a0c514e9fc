-- A run over a work list, between two events and within one.
use Rattle.std.specs.Prelude.{◌↔◌, ℕ, ◌<◌, List, length, Contains}
use Rattle.ig_text.specs.Input.{Input}
use Rattle.ig_item.specs.Items.{Item, Follows, Reachable}
use Rattle.ig_item.specs.WellKinded.{NoneTwice}
use Rattle.ig_item.specs.declared.core_grammar.Nonterminal.{Nonterminal}
use Rattle.ig_queue.specs.declared.ticket.Ticket.{Ticket}
use Rattle.ig_run_laws.specs.Finding.{Finding, IsTaken, IsTicket}
use Rattle.ig_run_laws.specs.Stacks.{Node, AreStacks, HaveNodes}
use Rattle.ig_run_laws.specs.Trail.{HasTrail}

-- a run between two events: an item is found exactly where it is the first root item at 0 or follows by one rule from taken
-- items, and each found item is taken or waits
pub record IsRun (core : List Nonterminal) (text : Input) (found : List Item) (waiting : List Ticket) : Type 0 where
  pub once : NoneTwice found
  pub tickets : (t : Ticket) → Contains waiting t → IsTicket found t
  pub exact : (x : Item) → Contains found x ↔ Follows core text (IsTaken found waiting) x
  pub reachable : (x : Item) → Contains found x → Reachable core text x

-- with the stacks of its taken items, in which the instance of each found item has a node, and with all ways to the items
pub record IsWhole (core : List Nonterminal) (text : Input) (a : Finding) (nodes : List Node) : Type 0 where
  pub run : IsRun core text a.items a.waiting
  pub stacks : AreStacks core text (IsTaken a.items a.waiting) a.items nodes
  pub have_nodes : HaveNodes a.items nodes
  pub trail : HasTrail core text (IsTaken a.items a.waiting) a.items nodes a.lists

-- more than b different items follow from known ones
pub record FollowMore (core : List Nonterminal) (text : Input) (known : Item → Type 0) (b : ℕ) : Type 0 where
  pub items : List Item
  pub different : NoneTwice items
  pub follow : (x : Item) → Contains items x → Follows core text known x
  pub more : b < length items
