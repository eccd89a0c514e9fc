use Rattle.std.proofs.Common.{◌∙◌, ap}
use Rattle.std.specs.Prelude.{codes}
use Rattle.std.proofs.lemmas.Result.{IfOk-weaker}
use Rattle.clap.specs.Words.{App, with_rule}
use Rattle.ig_command.specs.Rows.{place}
use Rattle.ig_command.proofs.rows.both_files.Goals as goal

pub returns : goal.returns
returns c =
    IfOk-weaker c.with_place-2.result _ _
    (λ r h. h ∙ ap (λ (a : App). with_rule a (place (codes "I"))) (c.in_ok-grammar.ensures ∙
    ap (λ (a : App). with_rule a (place (codes "G"))) c.bare.ensures))
    c.with_place-2.ensures
