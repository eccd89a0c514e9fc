use Rattle.std.proofs.Common.{drop}
use Rattle.ig_notation_terms.specs.Limits.{meanings}
use Rattle.ig_notation_terms.proofs.LimitParts.{Open}
use Rattle.ig_notation_terms.proofs.limits.is_shallow.Given as goal

-- how many are open, and that the tokens are shallow exactly where the others are
abbrev pub invariant-loop-placed : goal.invariant-loop-placed
invariant-loop-placed l = Open (meanings l.tokens) (meanings (drop l.placed-index l.tokens)) l.open
