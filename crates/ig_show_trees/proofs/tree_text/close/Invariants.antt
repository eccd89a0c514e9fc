use Rattle.std.proofs.Common.{length, vec_items}
use Rattle.std.specs.Prelude.{string_bytes}
use Rattle.ig_show_trees.proofs.Nested.{Closes}
use Rattle.ig_show_trees.proofs.tree_text.close.Given as goal

abbrev pub invariant-loop-children : goal.invariant-loop-children
invariant-loop-children l =
    Closes (string_bytes l.fn.out) (vec_items l.fn.counts) (string_bytes l.out) (vec_items l.counts)

abbrev pub decreases-loop-children : goal.decreases-loop-children
decreases-loop-children l = length (vec_items l.counts)
