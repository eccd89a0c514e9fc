use Rattle.std.proofs.Common.{refl, [], ◌∷◌}
use Rattle.std.proofs.lemmas.Result.{IfOk-weaker, IfErr-weaker}
use Rattle.ig_notation_syntax.specs.Token.{Close}
use Rattle.ig_notation_syntax.specs.Machine as want
use Rattle.ig_notation_terms.specs.Steps.{missed, stop_sign}
use Rattle.ig_notation_terms.proofs.Around.{group_end}
use Rattle.ig_notation_terms.proofs.parts.read_group_end.Goals as goal

pub returns-in-Ok : goal.returns-in-Ok
returns-in-Ok c =
    record {
      ok = IfOk-weaker _ _ _ (λ x g. group_end _ _ _ _ _ _ c.in-Ok.ensures.ok g) c.read_atom_end.ensures.ok;
      err =
          IfErr-weaker _ _ _
          (λ e s. stop_sign want.close_bracket Close (want.sign ∷ want.filters ∷ []) _ _ _ e c.in-Ok.ensures.ok refl s)
          c.read_atom_end.ensures.err;
    }

pub returns-in-Err-clause-err : goal.returns-in-Err-clause-err
returns-in-Err-clause-err c = missed want.close_bracket (want.sign ∷ want.filters ∷ []) _ _ _ refl c.in-Err.ensures.err
