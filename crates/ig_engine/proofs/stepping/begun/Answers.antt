use Rattle.ig_engine.proofs.Begin.{unbegun_stops}
use Rattle.ig_engine.proofs.stepping.begun.Goals as goal

pub returns-in_err-begin : goal.returns-in_err-begin
returns-in_err-begin g c =
    λ core text.
    unbegun_stops core text c.args.budget _ c.from_residual-in_err-begin.result c.in_err-begin.field-0.0 c.from_residual-in_err-begin.ensures.1
    (c.in_err-begin.ensures core text)
