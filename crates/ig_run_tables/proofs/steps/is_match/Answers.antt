use Rattle.std.proofs.Common.{subst}
use Rattle.std.proofs.lemmas.Bool.{false≢true, eqb-true, eq-eqb}
use Rattle.ig_text.specs.Pattern.{Matches}
use Rattle.ig_text.proofs.Matching.{one_end}
use Rattle.ig_run_tables.proofs.steps.is_match.Goals as goal

pub returns-in_default : goal.returns-in_default
returns-in_default c = (λ e. absurd (false≢true e), λ m. absurd (c.in_default.ensures _ m))

pub returns : goal.returns
returns c = (
  λ e. subst (Matches c.args.text.now c.args.pattern.now c.args.i) (eqb-true c.in-Some.end c.args.j e) c.in-Some.ensures,
  λ m. eq-eqb c.in-Some.end c.args.j (one_end c.args.text.now c.args.pattern.now c.args.i c.in-Some.end c.args.j c.in-Some.ensures m),
)
