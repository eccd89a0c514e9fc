-- A run as it is seen, and why it gives no items.
use Rattle.std.specs.Prelude.{◌≡◌, ℕ, List, Option, None}
use Rattle.ig_text.specs.Input.{Input}
use Rattle.ig_item.specs.Items.{MoreThan}
use Rattle.ig_item.specs.declared.core_grammar.Nonterminal.{Nonterminal}
use Rattle.ig_item.specs.declared.run_fault.RunFault.{RunFault}
use Rattle.ig_item.specs.declared.run_fault.RunFault.TheVariants as fault
use Rattle.ig_engine.specs.Reached.{IsReached, Reached}

-- the core grammar and the text, the budget, what the run has come to, and why a step was refused
pub record Running : Type 0 where
  pub core : List Nonterminal
  pub text : Input
  pub budget : ℕ
  pub state : Reached
  pub refused : Option RunFault

abbrev pub running : List Nonterminal → Input → ℕ → Reached → Option RunFault → Running
running core text budget state refused = record { core = core; text = text; budget = budget; state = state; refused = refused }

-- unless a step was refused, the run is between two events
abbrev pub IsBetween : Running → Type 0
IsBetween r = r.refused ≡ None → IsReached r.core r.text r.budget r.state

-- why a run gives no items; want of memory may come at any time
abbrev pub IsRefused : List Nonterminal → Input → ℕ → RunFault → Type 0
IsRefused core text budget fault.Budget = MoreThan core text budget
IsRefused core text budget fault.Memory = Unit {0}
