use Rattle.std.proofs.Common.{ap, ◌∙◌, ◌++◌, ◌∷◌, []}
use Rattle.ig_run_tables.proofs.steps.extended.Goals as goal

pub returns : goal.returns
returns c = c.in_ok-push_value.ensures ∙ ap (λ z. z ++ c.args.value ∷ []) c.in_ok-longer.ensures
