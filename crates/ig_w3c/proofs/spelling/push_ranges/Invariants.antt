use Rattle.std.proofs.Common.{drop}
use Rattle.std.specs.Prelude.{flat_map, string_bytes}
use Rattle.ig_show.specs.Steps.{Left}
use Rattle.ig_w3c.specs.Text.{range_text}
use Rattle.ig_w3c.proofs.spelling.push_ranges.Given as goal

abbrev pub invariant-loop-first : goal.invariant-loop-first
invariant-loop-first l =
    Left (string_bytes l.fn.out) (string_bytes l.out) (flat_map range_text l.ranges) (flat_map range_text (drop l.first-index l.ranges))
