-- For the proof checker alone: a reader need not read this file.
-- How runs are stored.
use Rattle.std.specs.Prelude.{ℕ, List, Option, refl}
use Rattle.std.specs.Coded.{Coded, code_by, coded_ℕ, coded_list, coded_option, coded×}
use Rattle.ig_text.specs.Input.{Input}
use Rattle.ig_text.specs.contracts.text.Text as text
use Rattle.ig_expr.specs.declared.value.Value.{Value}
use Rattle.ig_expr.specs.contracts.value.Values as values
use Rattle.ig_item.specs.Ways.{WayLists}
use Rattle.ig_item.specs.contracts.core_grammar.Core as grammar
use Rattle.ig_item.specs.contracts.items.Item as item
use Rattle.ig_item.specs.contracts.run_fault.RunFault as fault
use Rattle.ig_item.specs.contracts.ways.Ways as ways
use Rattle.ig_item.specs.declared.core_grammar.Nonterminal.{Nonterminal}
use Rattle.ig_item.specs.declared.items.Item as stored
use Rattle.ig_item.specs.declared.run_fault.RunFault.{RunFault}
use Rattle.ig_queue.specs.contracts.ticket.Ticket as ticket
use Rattle.ig_queue.specs.declared.ticket.Ticket.{Ticket}
use Rattle.ig_gss.specs.Nodes.{Node}
use Rattle.ig_gss.specs.contracts.stacks.Stacks as stacks
use Rattle.ig_run_moves.specs.Finding.{Finding}
use Rattle.ig_engine.specs.Reached.{Reached, reached}
use Rattle.ig_engine.specs.Running.{Running, running}

-- each is stored as its parts, from which it is read back
abbrev pub finding_code : Coded Finding
finding_code =
    code_by (List stored.Item × (WayLists × (List Ticket × List stored.Item)))
    (coded× (coded_list item.the_row.coded)
    (coded× ways.the_row.coded (coded× (coded_list ticket.the_row.coded) (coded_list item.the_row.coded))))
    (λ f. (f.items, (f.ways, (f.waiting, f.indexed))))
    (λ p. record { items = p.0; ways = p.1.0; waiting = p.1.1.0; indexed = p.1.1.1 }) (λ _. refl)

abbrev pub reached_code : Coded Reached
reached_code =
    code_by (List (List Value) × (List Node × Finding)) (coded× (coded_list values.the_row.coded) (coded× stacks.the_row.coded finding_code))
    (λ s. (s.envs, (s.nodes, s.found))) (λ p. reached p.0 p.1.0 p.1.1) (λ _. refl)

abbrev pub running_code : Coded Running
running_code =
    code_by (List Nonterminal × (Input × (ℕ × (Reached × Option RunFault))))
    (coded× grammar.the_row.coded (coded× text.the_row.coded (coded× coded_ℕ (coded× reached_code (coded_option fault.the_row.coded)))))
    (λ r. (r.core, (r.text, (r.budget, (r.state, r.refused))))) (λ p. running p.0 p.1.0 p.1.1.0 p.1.1.1.0 p.1.1.1.1) (λ _. refl)
