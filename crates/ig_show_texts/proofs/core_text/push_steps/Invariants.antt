use Rattle.std.proofs.Common.{◌≡◌, ◌++◌, take}
use Rattle.std.specs.Prelude.{flat_map, string_bytes, codes}
use Rattle.ig_item.specs.View.{step_of}
use Rattle.ig_show_texts.specs.CoreText.{step_text}
use Rattle.ig_show_texts.proofs.core_text.push_steps.Given as goal

abbrev pub invariant-loop-step : goal.invariant-loop-step
invariant-loop-step l =
    string_bytes l.out ≡ string_bytes l.fn.out ++ flat_map (λ s. codes " . " ++ step_text (step_of s)) (take l.step-index l.steps)
