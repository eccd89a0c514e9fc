use Rattle.std.proofs.Common.{◌∙◌, ap, ◌++◌}
use Rattle.std.specs.Prelude.{string_bytes, codes}
use Rattle.ig_item.specs.View.{step_of}
use Rattle.ig_show_texts.specs.CoreText.{step_text}
use Rattle.ig_show_texts.proofs.CoreListing.{mapped_whole}
use Rattle.ig_show_texts.proofs.core_text.push_steps.Goals as goal

pub returns : goal.returns
returns c =
    c.loop-step.invariant ∙
    ap (λ z. string_bytes c.args.out.now ++ z) (mapped_whole (λ s. codes " . " ++ step_text s) step_of c.args.steps.now c.loop-step.step-index c.loop-step-test.false)
