use Rattle.std.proofs.Common.{length, chars}
use denote.Text.{Utf8}
use denote.Shadow.{shadow}
use Rattle.ig_w3c_syntax.proofs.Determined.{PartsSoFar}
use Rattle.ig_w3c_syntax.proofs.sets.parts.Given as goal

abbrev pub invariant-loop-part : goal.invariant-loop-part
invariant-loop-part l = shadow (Utf8 l.rest) × PartsSoFar (chars l.fn.text) (chars l.rest) l.parts.items

abbrev pub decreases-loop-part : goal.decreases-loop-part
decreases-loop-part l = length (chars l.rest)
