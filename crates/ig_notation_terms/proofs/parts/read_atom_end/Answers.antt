use Rattle.std.proofs.Common.{[], ◌∷◌}
use Rattle.std.proofs.lemmas.Result.{IfOk-weaker, IfErr-weaker}
use Rattle.ig_notation_syntax.specs.Machine as want
use Rattle.ig_notation_terms.specs.Steps.{stop_past}
use Rattle.ig_notation_terms.specs.Parts.{ReadsRepetition}
use Rattle.ig_notation_terms.proofs.Around.{atom_end}
use Rattle.ig_notation_terms.proofs.parts.read_atom_end.Goals as goal

pub returns : goal.returns
returns c =
    record {
      ok = IfOk-weaker _ _ _ (λ x g. atom_end _ _ _ _ _ _ _ _ c.read_repetition-repetition.ensures c.in_ok-symbol.ensures.ok g) c.read_filters_behind.ensures.ok;
      err =
          IfErr-weaker _ _ _
          (λ e s. stop_past ReadsRepetition (want.sign ∷ []) (want.filters ∷ []) _ _ _ _ e c.read_repetition-repetition.ensures s)
          c.read_filters_behind.ensures.err;
    }
