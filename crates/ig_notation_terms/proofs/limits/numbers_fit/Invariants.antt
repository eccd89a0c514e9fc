use Rattle.std.proofs.Common.{drop}
use Rattle.ig_notation_terms.specs.Limits.{meanings}
use Rattle.ig_notation_terms.proofs.LimitParts.{Fitting}
use Rattle.ig_notation_terms.proofs.limits.numbers_fit.Given as goal

-- all numbers fit exactly where those from here on do
abbrev pub invariant-loop-placed : goal.invariant-loop-placed
invariant-loop-placed l = Fitting (meanings l.tokens) (meanings (drop l.placed-index l.tokens))
