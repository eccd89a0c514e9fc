use Rattle.std.proofs.Common.{refl}
use Rattle.std.proofs.lemmas.Result.{on_ok_weaker}
use Rattle.ig_plain.proofs.Recording.{pushed_records, pushed_once}
use Rattle.ig_plain.proofs.adds.add_new.Goals as goal

pub returns-clause-ways : goal.returns-clause-ways
returns-clause-ways c =
    on_ok_weaker c.push.result
    (λ p. pushed_records c.args.item c.args.way c.args.found.now c.push.new.found c.args.trail.now c.args.trail.now c.push.new.trail p refl refl
    (pushed_once c.args.item c.args.way c.args.found.now c.push.new.found c.args.trail.now c.push.new.trail p c.requires.once)) c.push.ensures.pushes
