use Rattle.ig_show.specs.CanonicalText.{parameter_pieces, separated, joined, comma}
use Rattle.std.proofs.Common.{drop}
use Rattle.std.specs.Prelude.{string_bytes}
use Rattle.ig_show.proofs.Steps.{Ahead}
use Rattle.ig_show.proofs.grammar.push_parameters.Given as goal

abbrev pub invariant-loop-other : goal.invariant-loop-other
invariant-loop-other l =
    Ahead (string_bytes l.fn.out) (string_bytes l.out) (joined comma parameter_pieces l.fn.params) (separated comma parameter_pieces (drop l.other-index l.others))
