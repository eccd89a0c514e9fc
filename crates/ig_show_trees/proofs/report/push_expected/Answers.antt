use Rattle.std.proofs.Common.{◌∙◌, ap, ◌++◌}
use Rattle.std.specs.Prelude.{string_bytes}
use Rattle.std.proofs.lemmas.Result.{on_ok_weaker}
use Rattle.ig_show_trees.proofs.Reporting.{none_listed, all_listed}
use Rattle.ig_show_trees.proofs.report.push_expected.Goals as goal

pub returns-in_default : goal.returns-in_default
returns-in_default c =
    on_ok_weaker c.push_end_alone.result
    (none_listed (λ s. string_bytes s) c.args.texts.now (string_bytes c.args.out.now) c.args.end c.in_default.ensures.cases)
    c.push_end_alone.ensures

pub returns : goal.returns
returns c =
    on_ok_weaker c.push_end_behind.result
    (all_listed (λ s. string_bytes s) (string_bytes c.args.out.now) c.args.end c.in-Some.ensures.cases.0
    (c.in_ok-push_str.ensures.bytes ∙ ap (λ z. string_bytes c.args.out.now ++ z) c.as_str.ensures.value)
    c.in_ok-push_behind.ensures)
    c.push_end_behind.ensures
