use Rattle.std.proofs.Common.{rules, leb}
use Rattle.std.proofs.lemmas.List.Sorted.{IsPartitionPoint-from_clause, IsPartitionedBy-leb}
use Rattle.ig_text.proofs.LineTable.{split_from}
use Rattle.ig_text.proofs.lines.count_up_to.Goals as goal

pub returns : goal.returns
returns c =
    split_from c.args.starts.now c.args.position c.partition_point.result c.partition_point.ensures.bound
    (IsPartitionPoint-from_clause (λ y. leb y c.args.position) c.args.starts.now c.partition_point.result
    c.partition_point.ensures.partitioned (IsPartitionedBy-leb (λ y. y) c.args.starts.now c.args.position c.requires)
    (λ a r f k. search rules))
