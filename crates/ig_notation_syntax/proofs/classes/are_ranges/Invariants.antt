use Rattle.std.proofs.Common.{◌≡◌, is_some, false, length, chars}
use denote.Text.{Utf8}
use denote.Shadow.{shadow}
use Rattle.ig_notation_syntax.specs.Scanner.{ranges_of, between}
use Rattle.ig_notation_syntax.specs.Steps.{place_of}
use Rattle.ig_notation_syntax.proofs.classes.are_ranges.Given as goal

abbrev pub invariant-loop-c : goal.invariant-loop-c
invariant-loop-c l =
    shadow (Utf8 l.rest) ×
    (is_some (ranges_of false between (chars l.inside)) ≡ is_some (ranges_of l.is_escaped (place_of l.place) (chars l.rest)))

abbrev pub decreases-loop-c : goal.decreases-loop-c
decreases-loop-c l = length (chars l.rest)
