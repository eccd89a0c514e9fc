use Rattle.std.proofs.Common.{◌-◌, List, length}
use Rattle.ig_notation_syntax.specs.Rules.{ReadsLevels}
use Rattle.ig_grammar.specs.declared.declaration.Level.{Level}
use Rattle.ig_notation_syntax.specs.Machine.{levels_wants}
use Rattle.ig_notation_syntax.specs.Reading.{Goes}
use Rattle.ig_notation_terms.specs.Readers.{Front}
use Rattle.ig_notation.proofs.declarations.read_levels.Given as goal

-- what is read so far is the front of the levels
abbrev pub invariant-loop-levels : goal.invariant-loop-levels
invariant-loop-levels l = Goes (List Level) (Front ReadsLevels) levels_wants levels_wants l.tokens l.at l.end l.levels.items

abbrev pub decreases-loop-levels : goal.decreases-loop-levels
decreases-loop-levels l = length l.tokens - l.end
