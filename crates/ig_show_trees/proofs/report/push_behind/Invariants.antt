use Rattle.std.proofs.Common.{◌≡◌, ◌++◌, drop, map}
use Rattle.std.specs.Prelude.{flat_map, string_bytes, codes}
use Rattle.ig_show_trees.proofs.report.push_behind.Given as goal

abbrev pub invariant-loop-text : goal.invariant-loop-text
invariant-loop-text l =
    string_bytes l.out ++ flat_map (λ text. codes ", " ++ text) (map string_bytes (drop l.text-index l.texts)) ≡
    string_bytes l.fn.out ++ flat_map (λ text. codes ", " ++ text) (map string_bytes l.texts)
