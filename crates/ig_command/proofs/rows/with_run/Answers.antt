use Rattle.std.proofs.Common.{◌∙◌, ap}
use Rattle.std.specs.Prelude.{codes}
use Rattle.std.proofs.lemmas.Result.{IfOk-weaker}
use Rattle.clap.specs.Words.{App, with_rule}
use Rattle.ig_command.specs.Rows.{option}
use Rattle.ig_command.proofs.rows.with_run.Goals as goal

pub returns : goal.returns
returns c =
    IfOk-weaker c.with_option-2.result _ _
    (λ r h. h ∙ ap (λ (a : App). with_rule a (option (codes "order"))) c.in_ok-with_budget.ensures)
    c.with_option-2.ensures
