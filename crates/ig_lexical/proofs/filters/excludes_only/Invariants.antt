use Rattle.std.proofs.Common.{◌≡◌, drop}
use Rattle.ig_lexical.specs.Filters.{befores, afters}
use Rattle.ig_lexical.proofs.filters.excludes_only.Given as goal

abbrev pub invariant-loop-filter : goal.invariant-loop-filter
invariant-loop-filter l =
    (befores (drop l.filter-index l.filters) ≡ befores l.filters) × (afters (drop l.filter-index l.filters) ≡ afters l.filters)
