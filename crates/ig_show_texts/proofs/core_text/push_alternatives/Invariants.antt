use Rattle.std.proofs.Common.{◌≡◌, ◌++◌, take}
use Rattle.std.specs.Prelude.{flat_map, string_bytes}
use Rattle.ig_show_texts.specs.CoreText.{alternative_text}
use Rattle.ig_show_texts.proofs.core_text.push_alternatives.Given as goal

abbrev pub invariant-loop-alternative : goal.invariant-loop-alternative
invariant-loop-alternative l =
    string_bytes l.out ≡ string_bytes l.fn.out ++ flat_map (alternative_text l.name) (take l.alternative-index l.alternatives)
