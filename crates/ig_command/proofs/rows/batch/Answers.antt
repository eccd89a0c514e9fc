use Rattle.std.proofs.Common.{◌∙◌, ap}
use Rattle.std.specs.Prelude.{codes}
use Rattle.std.proofs.lemmas.Result.{IfOk-weaker}
use Rattle.clap.specs.Words.{App, with_rule}
use Rattle.ig_command.specs.Rows.{option, place}
use Rattle.ig_command.proofs.rows.batch.Goals as goal

pub returns : goal.returns
returns c =
    IfOk-weaker c.with_option.result _ _
    (λ r h. h ∙ ap (λ (a : App). with_rule a (option (codes "turn"))) (c.in_ok-with_both.ensures ∙
    ap (λ (a : App). with_rule (with_rule a (option (codes "budget"))) (option (codes "order"))) (c.in_ok-list.ensures ∙
    ap (λ (a : App). with_rule a (place (codes "F"))) c.bare.ensures)))
    c.with_option.ensures
