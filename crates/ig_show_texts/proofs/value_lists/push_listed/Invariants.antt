use Rattle.std.proofs.Common.{◌≡◌, ◌++◌, drop}
use Rattle.std.specs.Prelude.{flat_map, codes}
use Rattle.ig_show_texts.specs.ValueText.{value_text}
use Rattle.ig_show_texts.proofs.value_lists.push_listed.Given as goal

abbrev pub invariant-loop-other : goal.invariant-loop-other
invariant-loop-other l =
    l.out.items ++ flat_map (λ v. codes "," ++ value_text v) (drop l.other-index l.others) ≡
    l.initial.out.items ++ flat_map (λ v. codes "," ++ value_text v) l.others
