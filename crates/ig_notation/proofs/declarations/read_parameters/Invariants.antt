use Rattle.std.proofs.Common.{◌-◌, List, length}
use Rattle.ig_notation_syntax.specs.Rules.{ReadsParameters}
use Rattle.ig_grammar.specs.declared.declaration.Param.{Param}
use Rattle.ig_notation_syntax.specs.Machine.{parameters_wants}
use Rattle.ig_notation_syntax.specs.Reading.{Goes}
use Rattle.ig_notation_terms.specs.Readers.{Front}
use Rattle.ig_notation.proofs.declarations.read_parameters.Given as goal

-- what is read so far is the front of the parameters
abbrev pub invariant-loop-parameters : goal.invariant-loop-parameters
invariant-loop-parameters l =
    Goes (List Param) (Front ReadsParameters) parameters_wants parameters_wants l.tokens l.at l.end l.parameters.items

abbrev pub decreases-loop-parameters : goal.decreases-loop-parameters
decreases-loop-parameters l = length l.tokens - l.end
