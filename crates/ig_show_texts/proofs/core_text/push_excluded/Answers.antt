use Rattle.std.proofs.Common.{◌∙◌, ap, ◌++◌}
use Rattle.std.specs.Prelude.{codes, string_bytes}
use Rattle.ig_show.specs.CanonicalText.{pattern_bytes}
use Rattle.ig_show_texts.proofs.CoreAdded.{next_listed, all_each}
use Rattle.ig_show_texts.proofs.core_text.push_excluded.Goals as goal

pub loop-pattern-preserved : goal.loop-pattern-preserved
loop-pattern-preserved c =
    next_listed pattern_bytes (codes " \\ ") c.args.excluded.now c.loop-pattern.pattern-index c.pattern-item.result (string_bytes c.args.out.now)
    c.loop-pattern-test.true c.loop-pattern.invariant c.in_ok-push_str.ensures.bytes
    (c.in_ok-push_pattern_text.ensures ∙ ap (λ z. string_bytes c.push_str.new.self ++ pattern_bytes z) c.pattern-item.is)

pub returns : goal.returns
returns c =
    all_each (λ p. codes " \\ " ++ pattern_bytes p) c.args.excluded.now c.loop-pattern.pattern-index (string_bytes c.args.out.now)
    c.loop-pattern-test.false c.loop-pattern.invariant
