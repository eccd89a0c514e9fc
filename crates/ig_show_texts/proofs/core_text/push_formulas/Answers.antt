use Rattle.std.proofs.Common.{◌∙◌, ap, ◌++◌}
use Rattle.std.specs.Prelude.{string_bytes, codes}
use Rattle.ig_expr.specs.View.{expression_of}
use Rattle.ig_show.specs.CanonicalText.{expression_bytes}
use Rattle.ig_show_texts.proofs.CoreAdded.{next_listed}
use Rattle.ig_show_texts.proofs.CoreListing.{listed_whole, listed-map}
use Rattle.ig_show_texts.proofs.core_text.push_formulas.Goals as goal

pub loop-other-preserved : goal.loop-other-preserved
loop-other-preserved c =
    next_listed (λ e. expression_bytes (expression_of e)) (codes ",") c.in-Some.others.now c.loop-other.other-index c.other-item.result
    (string_bytes c.push_expression_text.new.out) c.loop-other-test.true c.loop-other.invariant c.in_ok-push_str.ensures.bytes
    (c.in_ok-push_expression_text-2.ensures ∙ ap (λ z. string_bytes c.push_str.new.self ++ expression_bytes (expression_of z)) c.other-item.is)

pub returns : goal.returns
returns c =
    listed_whole (λ e. expression_bytes (expression_of e)) (string_bytes c.args.out.now) c.loop-other.other-index c.in-Some.ensures.cases.0 c.in_ok-push_expression_text.ensures c.loop-other-test.false c.loop-other.invariant ∙
    ap (λ z. string_bytes c.args.out.now ++ z) (listed-map expression_bytes expression_of c.args.expressions.now)
