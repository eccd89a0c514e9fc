use Rattle.std.proofs.Common.{◌≡◌, length, chars}
use denote.Text.{Utf8}
use denote.Shadow.{shadow}
use Rattle.ig_w3c_syntax.specs.Spelling.{past}
use Rattle.ig_w3c_syntax.specs.Steps.{belongs}
use Rattle.ig_w3c_syntax.proofs.characters.split.Given as goal

abbrev pub invariant-loop-c : goal.invariant-loop-c
invariant-loop-c l =
    shadow (Utf8 l.rest) × (past (belongs l.run) (chars l.text) ≡ past (belongs l.run) (chars l.rest))

abbrev pub decreases-loop-c : goal.decreases-loop-c
decreases-loop-c l = length (chars l.rest)
