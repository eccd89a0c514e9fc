use Rattle.ig_show.specs.CanonicalText.{filter_pieces, separated}
use Rattle.ig_show.specs.Pieces.{blank}
use Rattle.std.proofs.Common.{drop, [], ◌∷◌}
use Rattle.std.specs.Prelude.{string_bytes}
use Rattle.ig_show.proofs.Steps.{Ahead}
use Rattle.ig_show.proofs.symbols.push_filters.Given as goal

abbrev pub invariant-loop-filter : goal.invariant-loop-filter
invariant-loop-filter l =
    Ahead (string_bytes l.fn.out) (string_bytes l.out) (separated (blank ∷ []) filter_pieces l.fn.filters) (separated (blank ∷ []) filter_pieces (drop l.filter-index l.filters))
