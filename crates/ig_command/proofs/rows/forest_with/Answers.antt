use Rattle.std.proofs.Common.{◌∙◌, ap}
use Rattle.std.proofs.lemmas.Result.{IfOk-weaker}
use Rattle.clap.specs.Words.{App, with_rule}
use Rattle.ig_command.specs.Rows.{option}
use Rattle.ig_command.proofs.rows.forest_with.Goals as goal

pub returns : goal.returns
returns c =
    IfOk-weaker c.with_option-2.result _ _
    (λ r h. h ∙ ap (λ (a : App). with_rule a (option c.args.second.now)) (c.in_ok-with_first.ensures ∙
    ap (λ (a : App). with_rule a (option c.args.first.now)) c.in_ok-of_forest.ensures))
    c.with_option-2.ensures
