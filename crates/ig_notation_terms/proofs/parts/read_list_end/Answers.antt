use Rattle.std.proofs.Common.{[], ◌∷◌}
use Rattle.std.proofs.lemmas.Result.{IfOk-weaker, IfErr-weaker}
use Rattle.ig_notation_syntax.specs.Machine as want
use Rattle.ig_notation_terms.specs.Steps.{stop_first, stop_past}
use Rattle.ig_notation_terms.specs.Parts.{ReadsClosing}
use Rattle.ig_notation_terms.proofs.Around.{list_end}
use Rattle.ig_notation_terms.proofs.parts.read_list_end.Goals as goal

pub returns-in_ok-list-in-Ok : goal.returns-in_ok-list-in-Ok
returns-in_ok-list-in-Ok c =
    record {
      ok = IfOk-weaker _ _ _ (λ x g. list_end _ _ _ _ _ _ _ _ _ c.in-Ok.ensures.ok c.in_ok-list-in-Ok.ensures.ok g) c.read_filters_behind.ensures.ok;
      err =
          IfErr-weaker _ _ _
          (λ e s. stop_past ReadsClosing (want.close_brace ∷ want.list_sign ∷ []) (want.filters ∷ []) _ _ _ _ e c.in-Ok.ensures.ok s)
          c.read_filters_behind.ensures.err;
    }

pub returns-in-Err-clause-err : goal.returns-in-Err-clause-err
returns-in-Err-clause-err c = stop_first (want.close_brace ∷ want.list_sign ∷ []) (want.filters ∷ []) _ _ _ c.in-Err.ensures.err
