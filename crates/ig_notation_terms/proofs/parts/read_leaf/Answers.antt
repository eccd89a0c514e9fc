use Rattle.std.proofs.Common.{◌++◌, [], ◌∷◌, refl, arith}
use Rattle.ig_notation_syntax.specs.Machine as want
use Rattle.ig_notation_syntax.specs.Machine.{arguments_wants}
use Rattle.ig_notation_terms.specs.Steps.{stands_as, stop_token, stop_end, exits}
use Rattle.ig_notation_terms.proofs.Around.{bare_call, call, terminal}
use Rattle.ig_notation_terms.proofs.parts.read_leaf.Goals as goal

pub returns-in_err-token-clause-err : goal.returns-in_err-token-clause-err
returns-in_err-token-clause-err c =
    exits _ _ _ c.from_residual.ensures.1
    (stop_end want.atom [] _ _ _ refl c.in_err-token.ensures.err)

pub returns-in_ok-name-in-Name-clause-ok : goal.returns-in_ok-name-in-Name-clause-ok
returns-in_ok-name-in-Name-clause-ok c = bare_call _ _ _ _ _ (stands_as _ _ _ _ c.in_ok-token.ensures.ok c.in-Name.is) c.in_ok-name-in-Name.ensures c.new-in-Name.ensures

pub returns-in_err-arguments-in-Head-clause-err : goal.returns-in_err-arguments-in-Head-clause-err
returns-in_err-arguments-in-Head-clause-err c =
    exits _ _ _ c.from_residual-in_err-arguments-in-Head.ensures.1
    (stop_token want.atom (arguments_wants ++ want.close_bracket ∷ []) _ _ _ _ (stands_as _ _ _ _ c.in_ok-token.ensures.ok c.in-Head.is) refl
    c.in_err-arguments-in-Head.ensures.err)

pub returns-in_ok-arguments-in-Head-clause-ok : goal.returns-in_ok-arguments-in-Head-clause-ok
returns-in_ok-arguments-in-Head-clause-ok c = call _ _ _ _ _ _ (stands_as _ _ _ _ c.in_ok-token.ensures.ok c.in-Head.is) c.in_ok-arguments-in-Head.ensures.ok c.in_ok-name-in-Head.ensures

pub returns-in-Some : goal.returns-in-Some
returns-in-Some c =
    record {
      ok = terminal _ _ _ _ _ c.in_ok-token.ensures.ok (rw c.in-Some.is at c.in_ok-pattern-in_default.ensures) c.terminal.ensures;
      progress = omega arith;
      err = tt;
    }
