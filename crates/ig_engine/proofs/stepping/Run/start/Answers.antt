use Rattle.ig_engine.proofs.Begin.{unbegun_fault}
use Rattle.ig_engine.proofs.stepping.Run.start.Goals as goal

pub returns-in_err-state-clause-fault : goal.returns-in_err-state-clause-fault
returns-in_err-state-clause-fault g c =
    unbegun_fault c.args.core.now c.args.text.now c.args.budget c.from_residual-in_err-state.result c.in_err-state.field-0.0
    c.from_residual-in_err-state.ensures.1 (c.in_err-state.ensures c.args.core.now c.args.text.now)

pub invariant_of-result : goal.invariant_of-result
invariant_of-result g c = (c.in_ok-dots.ensures, λ none. (c.in_ok-state.ensures c.args.core.now c.args.text.now).between)
