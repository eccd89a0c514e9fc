use Rattle.std.proofs.Common.{ap, ◌∙◌}
use Rattle.ig_load.proofs.Lines.{line_is}
use Rattle.ig_load.proofs.summary.show_summary.Goals as goal

pub returns : goal.returns
returns c =
    line_is c.args.summary.now _ _ _ _ _ c.into_bytes.result.items c.new-out.ensures.bytes c.in_ok-push_number.ensures
    c.in_ok-push_number-2.ensures c.in_ok-push_answer.ensures c.in_ok-push_answer-2.ensures
    (ap (λ v. v.items) c.into_bytes.ensures.value ∙ c.in_ok-push_str.ensures.bytes)
