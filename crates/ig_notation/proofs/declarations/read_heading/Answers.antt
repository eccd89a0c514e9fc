use Rattle.std.proofs.Common.{rules, refl, ◌++◌, [], ◌∷◌}
use Rattle.ig_notation_syntax.specs.Machine as want
use Rattle.ig_notation_syntax.specs.Machine.{parameters_wants}
use Rattle.ig_notation_terms.specs.Readers.{at_token}
use Rattle.ig_notation_terms.specs.Steps.{stands_as, stops_here, stop_end, stop_token, exits}
use Rattle.ig_notation.proofs.DeclarationParts.{bare_heading, heading}
use Rattle.ig_notation.proofs.declarations.read_heading.Goals as goal

pub returns-in_ok-new-in-Name-clause-ok : goal.returns-in_ok-new-in-Name-clause-ok
returns-in_ok-new-in-Name-clause-ok c =
    bare_heading _ _ _ _ _ (stands_as _ _ _ _ c.in_ok-name.ensures.ok c.in-Name.is) c.in_ok-new-in-Name.ensures c.new-in-Name.ensures

pub returns-in_ok-params-in-Head-clause-ok : goal.returns-in_ok-params-in-Head-clause-ok
returns-in_ok-params-in-Head-clause-ok c =
    heading _ _ _ _ _ _ (stands_as _ _ _ _ c.in_ok-name.ensures.ok c.in-Head.is) c.in_ok-params-in-Head.ensures.ok c.in_ok-name-in-Head.ensures

pub returns-in_err-name-clause-err : goal.returns-in_err-name-clause-err
returns-in_err-name-clause-err c =
    exits _ _ _ c.from_residual.ensures.1
    (stop_end want.heading [] _ _ _ refl c.in_err-name.ensures.err)

pub returns-in_err-params-in-Head-clause-err : goal.returns-in_err-params-in-Head-clause-err
returns-in_err-params-in-Head-clause-err c =
    exits _ _ _ c.from_residual-in_err-params-in-Head.ensures.1
    (stop_token want.heading (parameters_wants ++ want.close_bracket ∷ []) _ _ _ _
    (stands_as _ _ _ _ c.in_ok-name.ensures.ok c.in-Head.is) refl c.in_err-params-in-Head.ensures.err)

pub returns-in_default-clause-err : goal.returns-in_default-clause-err
returns-in_default-clause-err c = stops_here want.heading [] _ _ refl (at_token _ c.in_ok-name.ensures.ok (search rules))
