use Rattle.std.proofs.Common.{◌≡◌, ◌++◌, drop}
use Rattle.ig_lexical.specs.Filters.{exclusions}
use Rattle.ig_lexical.proofs.filters.exclusions.Given as goal

abbrev pub invariant-loop-filter : goal.invariant-loop-filter
invariant-loop-filter l = l.kept ++ exclusions (drop l.filter-index l.filters) ≡ exclusions l.filters
