use Rattle.std.proofs.Common.{arith}
use Rattle.ig_notation_terms.specs.Steps.{exits}
use Rattle.ig_notation.proofs.DeclarationParts.{declaration_fails, one_declared, all_declared}
use Rattle.ig_notation.proofs.declarations.read_declarations.Goals as goal

pub returns-in_err-declaration-clause-err : goal.returns-in_err-declaration-clause-err
returns-in_err-declaration-clause-err c =
    exits _ _ _ c.from_residual.ensures.1
    (declaration_fails _ _ _ _ _ c.loop-end.invariant (omega arith) c.in_err-declaration.ensures.err)

pub loop-end-preserved : goal.loop-end-preserved
loop-end-preserved c =
    one_declared _ _ _ _ _ _ _ c.loop-end.invariant (omega arith) c.in_ok-declaration.ensures.ok c.in_ok-add.ensures.ok

pub returns-clause-ok : goal.returns-clause-ok
returns-clause-ok c = all_declared _ _ _ _ _ c.loop-end.invariant (omega arith) c.from_vec.ensures
