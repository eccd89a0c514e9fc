use Rattle.std.specs.Prelude.{codes}
use Rattle.ig_show_trees.proofs.Added.{pushed}
use Rattle.ig_show_trees.proofs.report.push_end_alone.Goals as goal

pub returns-then-end : goal.returns-then-end
returns-then-end c = rw c.if-end.true (pushed c.push_str.result (codes "end of input") _ c.push_str.ensures.bytes)

pub returns : goal.returns
returns c = rw c.if-end.false (pushed c.push_str-2.result (codes "nothing") _ c.push_str-2.ensures.bytes)
