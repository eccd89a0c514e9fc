use Rattle.std.proofs.Common.{◌≡◌, ◌++◌, [], drop, reverse, vec_items}
use Rattle.std.specs.Prelude.{string_bytes}
use Rattle.ig_show_trees.specs.Nesting.{parts_text}
use Rattle.ig_show_trees.proofs.tree_text.push_tree.Given as goal

abbrev pub invariant-loop-part : goal.invariant-loop-part
invariant-loop-part l =
    string_bytes l.out ++ parts_text l.core (reverse (vec_items l.counts)) (drop l.part-index l.tree) ≡
    string_bytes l.fn.out ++ parts_text l.core [] l.tree
