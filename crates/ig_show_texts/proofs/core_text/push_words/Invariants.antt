use Rattle.std.proofs.Common.{◌≡◌, ◌++◌, take}
use Rattle.std.specs.Prelude.{flat_map, string_bytes, codes, encode_utf8_all}
use Rattle.ig_show_texts.proofs.core_text.push_words.Given as goal

abbrev pub invariant-loop-other : goal.invariant-loop-other
invariant-loop-other l =
    string_bytes l.out ≡ string_bytes l.initial.out ++ flat_map (λ w. codes "," ++ encode_utf8_all w) (take l.other-index l.others)
