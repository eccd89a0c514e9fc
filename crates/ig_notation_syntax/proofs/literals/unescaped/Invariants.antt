use Rattle.std.proofs.Common.{◌≡◌, ◌++◌, option_map, string_bytes, false, length, chars}
use denote.Text.{Utf8}
use denote.Shadow.{shadow}
use Rattle.ig_notation_syntax.specs.Scanner.{text_of}
use Rattle.ig_notation_syntax.proofs.literals.unescaped.Given as goal

abbrev pub invariant-loop-c : goal.invariant-loop-c
invariant-loop-c l =
    shadow (Utf8 l.rest) ×
    (text_of false (chars l.fn.inside) ≡ option_map (λ t. chars (string_bytes l.text) ++ t) (text_of l.is_escaped (chars l.rest)))

abbrev pub decreases-loop-c : goal.decreases-loop-c
decreases-loop-c l = length (chars l.rest)
