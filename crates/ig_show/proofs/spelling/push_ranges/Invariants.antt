use Rattle.std.proofs.Common.{drop}
use Rattle.std.specs.Prelude.{flat_map, string_bytes}
use Rattle.ig_show.specs.Spelling.{range_spelling}
use Rattle.ig_show.specs.Steps.{Left}
use Rattle.ig_show.proofs.spelling.push_ranges.Given as goal

abbrev pub invariant-loop-first : goal.invariant-loop-first
invariant-loop-first l =
    Left (string_bytes l.fn.out) (string_bytes l.out) (flat_map range_spelling l.ranges) (flat_map range_spelling (drop l.first-index l.ranges))
