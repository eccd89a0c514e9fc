use Rattle.ig_expr.specs.View.{expression_of}
use Rattle.ig_show.specs.CanonicalText.{expression_pieces, separated, joined, comma}
use Rattle.std.proofs.Common.{drop, map}
use Rattle.std.specs.Prelude.{string_bytes}
use Rattle.ig_show.proofs.Steps.{Ahead}
use Rattle.ig_show.proofs.expressions.push_expressions.Given as goal

abbrev pub invariant-loop-other : goal.invariant-loop-other
invariant-loop-other l =
    Ahead (string_bytes l.fn.out) (string_bytes l.out) (joined comma expression_pieces (map expression_of l.fn.expressions)) (separated comma expression_pieces (map expression_of (drop l.other-index l.others)))
