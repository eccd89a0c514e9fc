use Rattle.std.proofs.Common.{sym, ap}
use Rattle.ig_item.specs.Items.{span_of}
use Rattle.ig_run_tables.proofs.steps.span_bound.Goals as goal

pub returns-in-Some : goal.returns-in-Some
returns-in-Some c = sym (ap (λ l. span_of l c.args.i c.args.j) c.in-Some.is)

pub returns-in-None : goal.returns-in-None
returns-in-None c = sym (ap (λ l. span_of l c.args.i c.args.j) c.in-None.is)
