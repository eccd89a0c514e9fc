use Rattle.ig_notation_syntax.specs.Token as sign
use Rattle.ig_show.specs.Pieces.{token, blank}
use Rattle.ig_show.specs.CanonicalText.{level_pieces, levels_pieces, separated}
use Rattle.std.proofs.Common.{drop, [], ◌∷◌}
use Rattle.std.specs.Prelude.{string_bytes}
use Rattle.ig_show.proofs.Steps.{Ahead}
use Rattle.ig_show.proofs.grammar.push_levels.Given as goal

abbrev pub invariant-loop-other : goal.invariant-loop-other
invariant-loop-other l =
    Ahead (string_bytes l.fn.out) (string_bytes l.out) (levels_pieces l.fn.levels) (separated (blank ∷ token sign.Greater ∷ blank ∷ []) level_pieces (drop l.other-index l.others))
