use Rattle.std.proofs.Common.{◌≡◌, ◌++◌, drop, map}
use Rattle.ig_grammar.specs.Symbol.{Guard}
use Rattle.ig_lexical.specs.Filters.{befores}
use Rattle.ig_lexical.proofs.filters.add_befores.Given as goal

abbrev pub invariant-loop-filter : goal.invariant-loop-filter
invariant-loop-filter l = l.symbols ++ map Guard (befores (drop l.filter-index l.filters)) ≡ l.initial.symbols ++ map Guard (befores l.filters)
