use Rattle.std.proofs.Common.{◌≡◌, ◌∙◌, None, subst}
use Rattle.std.specs.Prelude.{Ok, Err}
use Rattle.ig_engine.specs.Reached.{reached}
use Rattle.ig_engine.specs.Running.{Running}
use Rattle.ig_engine.specs.Stepping.{Steps}
use Rattle.ig_engine.specs.declared.progress.Progress.TheVariants as progress
use Rattle.ig_engine.proofs.Taking.{goes_on, stops, taken}
use Rattle.ig_engine.proofs.stepping.Run.step.Goals as goal

pub take_in-taken-requires-clause-known : goal.take_in-taken-requires-clause-known
take_in-taken-requires-clause-known g c = c.as_slice.ensures ∙ c.self.invariant.0

pub take_in-taken-requires-clause-taking : goal.take_in-taken-requires-clause-taking
take_in-taken-requires-clause-taking g c =
    taken c.self.inside.core.now c.self.inside.text.now c.self.inside.budget c.self.inside.state.envs.keys c.self.inside.state.stacks
    c.self.inside.state.found c.take.new.self (c.self.invariant.1 c.in_default.is) c.in-Some-take.item c.in-Some-take.number c.in-Some-take.ensures.found
    c.in-Some-take.ensures.taken c.in-Some-take.ensures.gone c.in-Some-take.ensures.items c.in-Some-take.ensures.ways c.in-Some-take.ensures.indexed

pub returns-in-Ok-clause-steps : goal.returns-in-Ok-clause-steps
returns-in-Ok-clause-steps g c =
    let next = reached c.take_in-taken.new.state.envs.keys c.take_in-taken.new.state.stacks c.take_in-taken.new.state.found in
    subst (λ (r : Running). r.refused ≡ None → Steps r.core r.text r.budget r.state next (Ok progress.More)) c.self.view_is
    (λ none.
    goes_on c.self.inside.core.now c.self.inside.text.now c.self.inside.budget c.self.inside.state.envs.keys c.self.inside.state.stacks
    c.self.inside.state.found c.take.new.self (c.self.invariant.1 none) c.in-Some-take.item c.in-Some-take.number c.in-Some-take.ensures.found
    c.in-Some-take.ensures.taken c.in-Some-take.ensures.gone c.in-Some-take.ensures.items c.in-Some-take.ensures.ways c.in-Some-take.ensures.indexed next c.in-Ok.ensures)

pub returns-in-Err-clause-steps : goal.returns-in-Err-clause-steps
returns-in-Err-clause-steps g c =
    let next = reached c.take_in-taken.new.state.envs.keys c.take_in-taken.new.state.stacks c.take_in-taken.new.state.found in
    subst (λ (r : Running). r.refused ≡ None → Steps r.core r.text r.budget r.state next (Err c.in-Err.fault)) c.self.view_is
    (λ none.
    stops c.self.inside.core.now c.self.inside.text.now c.self.inside.budget c.self.inside.state.envs.keys c.self.inside.state.stacks
    c.self.inside.state.found c.take.new.self (c.self.invariant.1 none) c.in-Some-take.item c.in-Some-take.number c.in-Some-take.ensures.found
    c.in-Some-take.ensures.taken c.in-Some-take.ensures.gone c.in-Some-take.ensures.items c.in-Some-take.ensures.ways c.in-Some-take.ensures.indexed next c.in-Err.fault
    c.in-Err.ensures)
