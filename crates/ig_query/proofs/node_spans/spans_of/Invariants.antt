use Rattle.std.specs.Prelude.{chars}
use Rattle.ig_query.proofs.Spanning.{SpansUpTo}
use Rattle.ig_query.proofs.node_spans.spans_of.Given as goal

abbrev pub invariant-loop-number : goal.invariant-loop-number
invariant-loop-number l = SpansUpTo l.forest (chars l.name) l.number l.spans.items
