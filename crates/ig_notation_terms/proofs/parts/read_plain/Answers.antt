use Rattle.std.proofs.Math.Nat.{le_trans}
use Rattle.std.proofs.lemmas.Result.{IfOk-weaker, IfErr-weaker}
use Rattle.ig_notation_terms.specs.Steps.{exits}
use Rattle.ig_notation_terms.proofs.Around.{plain, leaf_stops, end_stops}
use Rattle.ig_notation_terms.proofs.parts.read_plain.Goals as goal

pub returns-in_err-atom-clause-err : goal.returns-in_err-atom-clause-err
returns-in_err-atom-clause-err c =
    exits _ _ _ c.from_residual.ensures.1
    (leaf_stops _ _ _ c.requires c.in_err-atom.ensures.err)

pub returns : goal.returns
returns c =
    record {
      ok = IfOk-weaker _ _ _ (λ x g. plain _ _ _ _ _ _ c.requires c.in_ok-atom.ensures.ok g) c.read_atom_end.ensures.ok;
      progress = IfOk-weaker _ _ _ (λ x g. le_trans c.in_ok-atom.ensures.progress g.onward) c.read_atom_end.ensures.ok;
      err = IfErr-weaker _ _ _ (λ e s. end_stops _ _ _ _ e c.requires c.in_ok-atom.ensures.ok s) c.read_atom_end.ensures.err;
    }
