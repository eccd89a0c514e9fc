use Rattle.std.proofs.Common.{◌∙◌, Some, ap}
use Rattle.std.proofs.lemmas.Result.{IfOk-weaker}
use Rattle.clap.specs.Words.{Rule, rule_of, with_rule}
use Rattle.ig_command.proofs.rows.with_option.Goals as goal

pub returns : goal.returns
returns c =
    IfOk-weaker c.arg.result _ _
    (λ r h. h.shape (ap (λ a. a.global) c.long-argument.ensures ∙ c.new.ensures.optional.1) ∙
    ap (with_rule _) (ap rule_of c.long-argument.ensures ∙ ap (λ (r : Rule). record r { long = Some c.args.name.now }) c.new.ensures.rule))
    c.arg.ensures
