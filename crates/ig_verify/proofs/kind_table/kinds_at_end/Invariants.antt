use Rattle.std.proofs.Common.{◌≡◌, drop, map}
use Rattle.ig_item.specs.View.{step_of}
use Rattle.ig_item.specs.Visible.{kinds_behind, names_at}
use Rattle.ig_verify.proofs.kind_table.kinds_at_end.Given as goal

abbrev pub invariant-loop-dot : goal.invariant-loop-dot
invariant-loop-dot l =
    kinds_behind (names_at l.nonterminal l.alternative l.dot) l.kinds (map step_of (drop l.dot l.steps)) ≡
    kinds_behind l.nonterminal.params l.nonterminal.kinds l.alternative.steps
