use Rattle.std.proofs.Common.{◌≡◌, ◌++◌, drop}
use Rattle.ig_show_trees.specs.QueryText.{spans_text}
use Rattle.ig_show_trees.proofs.query_text.push_spans.Given as goal

abbrev pub invariant-loop-span : goal.invariant-loop-span
invariant-loop-span l =
    l.out.items ++ spans_text (drop l.span-index l.spans) ≡ l.fn.out.items ++ spans_text l.spans
