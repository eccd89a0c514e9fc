use Rattle.std.proofs.Common.{ap, ◌∙◌}
use Rattle.ig_engine.specs.Running.{Running}
use Rattle.ig_engine.proofs.stepping.Run.finish.Goals as goal

pub recorded-requires-clause-tables : goal.recorded-requires-clause-tables
recorded-requires-clause-tables g c =
    (c.self.invariant.1 (ap (λ (z : Running). z.refused) c.self.view_is ∙ c.requires.going)).tables

pub recorded-requires-clause-whole : goal.recorded-requires-clause-whole
recorded-requires-clause-whole g c =
    (c.self.invariant.1 (ap (λ (z : Running). z.refused) c.self.view_is ∙ c.requires.going)).whole

pub recorded-requires-clause-ended : goal.recorded-requires-clause-ended
recorded-requires-clause-ended g c = ap (λ (z : Running). z.state.found.waiting) c.self.view_is ∙ c.requires.ended
