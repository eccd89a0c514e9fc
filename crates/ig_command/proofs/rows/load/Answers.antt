use Rattle.std.proofs.Common.{◌∙◌, ap}
use Rattle.std.specs.Prelude.{codes}
use Rattle.std.proofs.lemmas.Result.{IfOk-weaker}
use Rattle.clap.specs.Words.{App, with_rule}
use Rattle.ig_command.specs.Rows.{option, place}
use Rattle.ig_command.proofs.rows.load.Goals as goal

pub returns : goal.returns
returns c =
    IfOk-weaker c.with_run.result _ _
    (λ r h. h ∙ ap (λ (a : App). with_rule (with_rule a (option (codes "budget"))) (option (codes "order"))) (c.in_ok-both.ensures ∙
    ap (λ (a : App). with_rule a (place (codes "NUMBER"))) (c.in_ok-size.ensures ∙
    ap (λ (a : App). with_rule a (place (codes "SIZE"))) c.bare.ensures)))
    c.with_run.ensures
