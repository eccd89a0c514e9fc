use Rattle.std.proofs.Common.{length, sym, subst}
use Rattle.ig_query.specs.Ambiguity.{AreAmbiguous}
use Rattle.ig_query.specs.CodeAmbiguity.{AreNumbers}
use Rattle.ig_query.proofs.Forks.{are_ambiguous}
use Rattle.ig_query.proofs.ambiguity.ambiguous_nodes.Goals as goal

pub returns : goal.returns
returns c =
    subst (AreAmbiguous c.args.forest.now) (sym c.from_vec.ensures)
    (are_ambiguous c.args.forest.now c.root-root.ensures.trim c.in_ok-marks.marks.items c.in_ok-numbers.numbers.items c.in_ok-marks.ensures
    (subst (λ m. AreNumbers c.args.forest.now m (length c.args.forest.now.nodes) c.in_ok-numbers.numbers.items) c.as_slice.ensures.value
    c.in_ok-numbers.ensures))
