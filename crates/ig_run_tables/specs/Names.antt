-- What is known at each dot of a core grammar before a run.
use Rattle.std.specs.Prelude.{ℕ, List, map}
use Rattle.ig_item.specs.Step.{Step}
use Rattle.ig_item.specs.Visible.{names_at_dots}
use Rattle.ig_item.specs.declared.core_grammar.Nonterminal.{Nonterminal}
use Rattle.ig_run_tables.specs.Compiled.{forms_along}
use Rattle.ig_run_tables.specs.declared.names.Dots.{Dots}

-- the names that are visible at the dots, and the forms of the expressions behind them
abbrev pub dots_of : List (List ℕ) → List Step → Dots
dots_of params steps = record { names = names_at_dots params steps; forms = forms_along (names_at_dots params steps) steps }

-- of each alternative of a nonterminal, what is known at its dots
abbrev pub dots_of_alternatives : Nonterminal → List Dots
dots_of_alternatives n = map (λ a. dots_of n.params a.steps) n.alternatives

-- of each nonterminal, that of its alternatives
abbrev pub all_dots : List Nonterminal → List (List Dots)
all_dots core = map dots_of_alternatives core
