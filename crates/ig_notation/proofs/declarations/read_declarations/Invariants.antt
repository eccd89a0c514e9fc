use Rattle.std.proofs.Common.{◌-◌, length}
use Rattle.ig_notation.proofs.DeclarationParts.{Declared}
use Rattle.ig_notation.proofs.declarations.read_declarations.Given as goal

-- what is read so far are the first declarations
abbrev pub invariant-loop-end : goal.invariant-loop-end
invariant-loop-end l = Declared l.tokens l.at l.end l.declarations.items

abbrev pub decreases-loop-end : goal.decreases-loop-end
decreases-loop-end l = length l.tokens - l.end
