use Rattle.std.proofs.Common.{◌∙◌, List, subst, rules}
use Rattle.ig_item.specs.Items.{MoreThan}
use Rattle.ig_item.specs.declared.core_grammar.Nonterminal.{Nonterminal}
use Rattle.ig_command_jobs.proofs.Events.{begins, unbegun}
use Rattle.ig_command_jobs.proofs.parse_run.Parsing.start.Goals as goal

pub invariant_of-result : goal.invariant_of-result
invariant_of-result c =
    record {
      as_it_is = c.requires.as_it_is;
      core = c.in-Ok.ensures.core ∙ c.core-core.ensures;
      text = c.in-Ok.ensures.text;
      budget_is = c.in-Ok.ensures.budget;
      small = search rules;
      is_at = begins c.in-Ok.run' _ _ _ c.in-Ok.ensures.going c.in-Ok.ensures.begun;
    }

pub returns-in-Err-clause-over : goal.returns-in-Err-clause-over
returns-in-Err-clause-over c =
    λ budget.
    subst (λ (z : List Nonterminal). MoreThan z c.args.asked.input.now c.args.asked.budget) c.core-core.ensures
    (unbegun _ _ _ c.in-Err.fault c.in-Err.ensures.fault budget)
