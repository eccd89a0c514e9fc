use Rattle.std.proofs.Common.{◌≡◌, ◌++◌, take}
use Rattle.ig_show_trees.specs.QueryText.{node_lines}
use Rattle.ig_show_trees.proofs.query_text.push_nodes.Given as goal

abbrev pub invariant-loop-number : goal.invariant-loop-number
invariant-loop-number l = l.out.items ≡ l.fn.out.items ++ node_lines l.forest (take l.number-index l.nodes)
