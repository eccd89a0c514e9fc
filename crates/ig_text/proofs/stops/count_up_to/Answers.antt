use Rattle.std.proofs.Common.{rules, leb}
use Rattle.std.proofs.lemmas.List.Sorted.{IsPartitionPoint-from_clause, IsPartitionedBy-leb}
use Rattle.ig_text.specs.declared.stops.Stop.{Stop}
use Rattle.ig_text.proofs.StopTable.{stop_split}
use Rattle.ig_text.proofs.stops.count_up_to.Goals as goal

pub returns : goal.returns
returns c =
    stop_split c.args.stops.now c.args.position c.partition_point.result c.partition_point.ensures.bound
    (IsPartitionPoint-from_clause (λ (y : Stop). leb y.position c.args.position) c.args.stops.now c.partition_point.result
    c.partition_point.ensures.partitioned (IsPartitionedBy-leb (λ (y : Stop). y.position) c.args.stops.now c.args.position c.requires)
    (λ a r f k. search rules))
