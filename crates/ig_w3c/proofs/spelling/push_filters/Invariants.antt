use Rattle.std.proofs.Common.{drop}
use Rattle.std.specs.Prelude.{flat_map, string_bytes}
use Rattle.ig_show.specs.Steps.{Left}
use Rattle.ig_w3c.specs.Text.{filter_text}
use Rattle.ig_w3c.proofs.spelling.push_filters.Given as goal

abbrev pub invariant-loop-filter : goal.invariant-loop-filter
invariant-loop-filter l =
    Left (string_bytes l.fn.out) (string_bytes l.out) (flat_map filter_text l.filters) (flat_map filter_text (drop l.filter-index l.filters))
