use Rattle.std.proofs.Common.{◌≡◌, ◌++◌, drop}
use Rattle.std.specs.Prelude.{flat_map, string_bytes, codes}
use Rattle.std.specs.Fmt.{decimal}
use Rattle.ig_show_trees.proofs.cursor_text.push_cursor.Given as goal

abbrev pub invariant-loop-other : goal.invariant-loop-other
invariant-loop-other l =
    string_bytes l.out ++ flat_map (λ m. codes "." ++ decimal m) (drop l.other-index l.others) ≡
    string_bytes l.initial.out ++ flat_map (λ m. codes "." ++ decimal m) l.others
