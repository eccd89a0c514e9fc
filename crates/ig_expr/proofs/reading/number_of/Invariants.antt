use Rattle.std.proofs.Common.{◌≡◌}
use Rattle.std.specs.Prelude.{slice_range}
use Rattle.ig_expr.proofs.Numbers.{reads}
use Rattle.ig_expr.proofs.reading.number_of.Given as goal

-- what is left to read, behind the number so far, gives what the whole span gives
abbrev pub invariant-loop-position : goal.invariant-loop-position
invariant-loop-position l =
    reads l.number (slice_range l.text.characters l.position l.fn.s.end) ≡ reads 0 (slice_range l.text.characters l.fn.s.begin l.fn.s.end)
