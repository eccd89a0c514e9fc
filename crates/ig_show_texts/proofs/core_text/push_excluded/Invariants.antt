use Rattle.std.proofs.Common.{◌≡◌, ◌++◌, take}
use Rattle.std.specs.Prelude.{string_bytes}
use Rattle.ig_show_texts.specs.CoreText.{excluded_text}
use Rattle.ig_show_texts.proofs.core_text.push_excluded.Given as goal

abbrev pub invariant-loop-pattern : goal.invariant-loop-pattern
invariant-loop-pattern l = string_bytes l.out ≡ string_bytes l.fn.out ++ excluded_text (take l.pattern-index l.excluded)
