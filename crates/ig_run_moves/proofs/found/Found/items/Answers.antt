use Rattle.std.proofs.Common.{subst}
use Rattle.ig_run_moves.specs.Finding.{IsFinding}
use Rattle.ig_run_moves.proofs.Keeping.{is_finding}
use Rattle.ig_run_moves.proofs.found.Found.items.Goals as goal

pub returns-clause-finding : goal.returns-clause-finding
returns-clause-finding g c =
    let before = c.self.inside in
    subst IsFinding c.self.view_is
    (is_finding before.items.items before.ways before.index (g.S.Schedule.waiting before.schedule) c.self.invariant)
