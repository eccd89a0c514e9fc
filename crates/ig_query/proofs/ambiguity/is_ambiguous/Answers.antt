use Rattle.std.proofs.Common.{⊎_elim}
use Rattle.ig_query.proofs.Forks.{two_somewhere}
use Rattle.ig_query.proofs.Uses.{from_fork}
use Rattle.ig_query.proofs.ambiguity.is_ambiguous.Goals as goal

pub returns-else-has_choice : goal.returns-else-has_choice
returns-else-has_choice c = (
  λ t. from_fork c.args.forest.now c.root-root.ensures.trim (c.has_fork.ensures.0 t),
  λ a.
      ⊎_elim (λ h. let t = c.has_choice.ensures.1 h in let f = c.if-has_choice.false in cc) (λ h. c.has_fork.ensures.1 h)
      (two_somewhere c.args.forest.now a),
)
