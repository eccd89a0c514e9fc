use Rattle.std.proofs.Common.{◌∙◌, ap, ◌++◌, map}
use Rattle.std.specs.Prelude.{string_bytes}
use Rattle.ig_show_trees.specs.ReportText.{place_text}
use Rattle.std.proofs.lemmas.Result.{on_ok_weaker}
use Rattle.ig_show_trees.proofs.Reporting.{place_added}
use Rattle.ig_show_trees.proofs.report.push_place.Goals as goal

pub returns : goal.returns
returns c =
    on_ok_weaker c.push_texts.result
    (λ written.
    place_added c.args.report.now c.as_slice.result.now _ (string_bytes c.args.out.now) (string_bytes c.push_texts.new.out) c.as_slice.ensures c.in_ok-texts.ensures
    (written ∙ ap (λ z. string_bytes c.args.out.now ++ place_text c.args.report.now (map (λ s. string_bytes s) z)) c.as_slice-2.ensures.value))
    c.push_texts.ensures
