use Rattle.std.proofs.Common.{refl}
use Rattle.ig_heights.proofs.Turns.{here_pops, late_pops}
use Rattle.ig_heights.proofs.work.Work.take.Goals as goal

pub returns-in-Some : goal.returns-in-Some
returns-in-Some c = here_pops c.args.self.now _ c.in-Some.part c.in-Some.ensures refl refl refl

pub returns : goal.returns
returns c =
    late_pops c.args.self.now _ _ _ _ c.in_default.ensures c.turn.ensures.current c.pop-2.ensures c.turn.ensures.heights c.turn.ensures.next c.turn.ensures.height
