use Rattle.std.proofs.Common.{◌≡◌, length, chars}
use denote.Text.{Utf8}
use denote.Shadow.{shadow}
use Rattle.ig_w3c_syntax.specs.Spelling.{behind_comment}
use Rattle.ig_w3c_syntax.proofs.separators.behind_comment.Given as goal

abbrev pub invariant-loop-after : goal.invariant-loop-after
invariant-loop-after l = shadow (Utf8 l.rest) × (behind_comment (chars l.rest) ≡ behind_comment (chars l.text))

abbrev pub decreases-loop-after : goal.decreases-loop-after
decreases-loop-after l = length (chars l.rest)
