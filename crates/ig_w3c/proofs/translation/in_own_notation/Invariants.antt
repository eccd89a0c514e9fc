use Rattle.std.proofs.Common.{◌≡◌, ◌++◌, drop}
use Rattle.ig_notation_terms.specs.Limits.{meanings as own_meanings}
use Rattle.ig_w3c_syntax.specs.View.{meanings}
use Rattle.ig_w3c_syntax.specs.Reading.{within, in_own_notation}
use Rattle.ig_w3c.proofs.translation.in_own_notation.Given as goal

-- what was put, and what the other tokens become, are all
abbrev pub invariant-loop-placed : goal.invariant-loop-placed
invariant-loop-placed l =
    own_meanings l.own.items ++ within (meanings (drop l.placed-index l.tokens)) ≡ in_own_notation (meanings l.fn.tokens)
