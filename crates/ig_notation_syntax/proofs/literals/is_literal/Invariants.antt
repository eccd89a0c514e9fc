use Rattle.std.proofs.Common.{◌≡◌, is_some, false, length, chars}
use denote.Text.{Utf8}
use denote.Shadow.{shadow}
use Rattle.ig_notation_syntax.specs.Scanner.{text_of}
use Rattle.ig_notation_syntax.proofs.literals.is_literal.Given as goal

abbrev pub invariant-loop-c : goal.invariant-loop-c
invariant-loop-c l =
    shadow (Utf8 l.rest) × (is_some (text_of false (chars l.inside)) ≡ is_some (text_of l.is_escaped (chars l.rest)))

abbrev pub decreases-loop-c : goal.decreases-loop-c
decreases-loop-c l = length (chars l.rest)
