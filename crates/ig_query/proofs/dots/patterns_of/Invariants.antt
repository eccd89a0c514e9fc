use Rattle.std.proofs.Common.{◌≡◌, take}
use Rattle.std.specs.List.{filter_map}
use Rattle.ig_query.specs.CodeReport.{pattern_at}
use Rattle.ig_query.proofs.dots.patterns_of.Given as goal

abbrev pub invariant-loop-dot : goal.invariant-loop-dot
invariant-loop-dot l = l.patterns ≡ filter_map (pattern_at l.core) (take l.dot-index l.dots)
