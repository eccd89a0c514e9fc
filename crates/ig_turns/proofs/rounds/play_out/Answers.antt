use Rattle.std.proofs.Common.{◌≡◌, rules}
use Rattle.ig_turns.specs.Rounds.{total}
use Rattle.ig_turns.proofs.Totals.{all_finished}
use Rattle.ig_turns.proofs.rounds.play_out.Goals as goal

pub returns-clause-finished : goal.returns-clause-finished
returns-clause-finished g c =
    let none : total g.J.Job.left c.loop-turns.turns ≡ 0 = search rules in
    all_finished g.J.Job.left c.loop-turns.turns none
