use Rattle.std.proofs.Common.{subst}
use Rattle.ig_run_moves.specs.Finding.{IsFinding}
use Rattle.ig_run_moves.proofs.Keeping.{is_finding}
use Rattle.ig_run_moves.proofs.found.Found.into_parts.Goals as goal

pub returns-in_err-next_number-clause-finding : goal.returns-in_err-next_number-clause-finding
returns-in_err-next_number-clause-finding g c =
    let before = c.self.inside in
    subst IsFinding c.self.view_is
    (is_finding before.items.items before.ways before.index (g.S.Schedule.waiting before.schedule) c.self.invariant)

pub returns-clause-finding : goal.returns-clause-finding
returns-clause-finding g c =
    let before = c.self.inside in
    subst IsFinding c.self.view_is
    (is_finding before.items.items before.ways before.index (g.S.Schedule.waiting before.schedule) c.self.invariant)
