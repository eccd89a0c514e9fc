use Rattle.std.proofs.Common.{ℕ, List, ◌++◌, ap, ◌∙◌}
use Rattle.std.specs.Prelude.{codes}
use Rattle.std.specs.Fmt.{decimal}
use Rattle.ig_command_endings.proofs.Noting.{over_budget_said}
use Rattle.ig_command_endings.proofs.notes.over_budget.Goals as goal

pub returns-in-Ok : goal.returns-in-Ok
returns-in-Ok c =
    over_budget_said c.args.budget c.as_slice.result.now c.stop_with.result
    (c.as_slice.ensures.value ∙ c.in-Ok.ensures ∙
    ap (λ (z : List ℕ). z ++ (decimal c.args.budget ++ codes " items")) c.new-items.ensures.items)
    c.stop_with.ensures
