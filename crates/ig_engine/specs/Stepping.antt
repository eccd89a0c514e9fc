-- The begin of a run, and its steps.
use Rattle.std.specs.Prelude.{◌≡◌, ◌↔◌, ℕ, List, [], ◌∷◌, length, Contains, Result, Ok, Err}
use Rattle.std.specs.List.Sorted.{IsPermutation}
use Rattle.ig_text.specs.Input.{Input}
use Rattle.ig_item.specs.Items.{MoreThan}
use Rattle.ig_item.specs.declared.core_grammar.Nonterminal.{Nonterminal}
use Rattle.ig_item.specs.declared.items.Item as stored
use Rattle.ig_item.specs.declared.run_fault.RunFault.{RunFault}
use Rattle.ig_item.specs.declared.run_fault.RunFault.TheVariants as fault
use Rattle.ig_queue.specs.declared.ticket.Ticket.{Ticket}
use Rattle.ig_run_moves.specs.Finding.{ticket_of}
use Rattle.ig_run_laws.specs.Laws.{begun}
use Rattle.ig_engine.specs.Adding.{IsOnward, Refuses}
use Rattle.ig_engine.specs.Reached.{IsReached, Reached, reached, seen, with_tickets}
use Rattle.ig_engine.specs.declared.progress.Progress.{Progress}
use Rattle.ig_engine.specs.declared.progress.Progress.TheVariants as progress

-- nothing is there
pub record IsEmpty (s : Reached) : Type 0 where
  pub envs : s.envs ≡ []
  pub nodes : s.nodes ≡ []
  pub items : s.found.items ≡ []
  pub ways : s.found.ways ≡ record { firsts = []; further = []; ends = [] }
  pub waiting : s.found.waiting ≡ []

-- the first root item was found, and its ticket waits alone; none is taken
pub record IsBegun (core : List Nonterminal) (text : Input) (budget : ℕ) (s : Reached) : Type 0 where
  pub between : IsReached core text budget s
  pub first : seen s ≡ begun s.found.waiting
  pub waits : (t : Ticket) → Contains s.found.waiting t ↔ (t ≡ record { position = 0; number = 0 })
  pub alone : length s.found.waiting ≡ 1

-- why a run doesn't begin: the first root item is one more than the budget; or memory ran out
abbrev pub IsUnbegun : List Nonterminal → Input → ℕ → RunFault → Type 0
IsUnbegun core text budget fault.Budget = (budget ≡ 0) × MoreThan core text budget
IsUnbegun core text budget fault.Memory = Unit {0}

-- the ticket of an item waited, and was taken; all others wait
pub record Took (a : Reached) : Type 0 where
  pub item : stored.Item
  pub number : ℕ
  pub rest : List Ticket
  pub took : IsPermutation a.found.waiting (ticket_of item number ∷ rest)

abbrev pub without : (a : Reached) → Took a → Reached
without a t = reached a.envs a.nodes (with_tickets a.found t.rest)

-- a step takes the ticket that the schedule gives, and then all that follows from its item and those taken before was found;
-- it is done exactly where no ticket waits
abbrev pub Steps : List Nonterminal → Input → ℕ → Reached → Reached → Result Progress RunFault → Type 0
Steps core text budget a b (Ok progress.Done) = (a.found.waiting ≡ []) × (b ≡ a)
Steps core text budget a b (Ok progress.More) = (t : Took a) × IsOnward core text budget (without a t) b
Steps core text budget a b (Err f) = (t : Took a) × Refuses core text budget (without a t) f
