use Rattle.std.proofs.Common.{◌≡◌, ◌≤◌, length, chars}
use denote.Text.{Utf8}
use denote.Shadow.{shadow}
use Rattle.ig_w3c_syntax.specs.Spelling.{hexadecimal}
use Rattle.ig_w3c_syntax.proofs.sets.hexadecimal.Given as goal

abbrev pub invariant-loop-c : goal.invariant-loop-c
invariant-loop-c l =
    shadow (Utf8 l.rest) × (hexadecimal l.number (chars l.rest) ≡ hexadecimal 0 (chars l.fn.digits)) × (l.number ≤ 1114111)

abbrev pub decreases-loop-c : goal.decreases-loop-c
decreases-loop-c l = length (chars l.rest)
