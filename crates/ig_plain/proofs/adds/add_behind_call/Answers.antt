use Rattle.std.proofs.Common.{◌≡◌, ◌+◌, length, refl, arith}
use Rattle.std.proofs.lemmas.Result.{on_ok_weaker}
use Rattle.ig_item.specs.declared.ways.Way.TheVariants.{Node}
use Rattle.ig_plain.proofs.Growth.{grows_not}
use Rattle.ig_plain.proofs.Extending.{extends_itself}
use Rattle.ig_plain.proofs.Additions.{adds_exit}
use Rattle.ig_plain.proofs.Recording.{pushed_records, pushed_node}
use Rattle.ig_plain.proofs.adds.add_behind_call.Goals as goal

pub returns-in_err-number-clause-adds : goal.returns-in_err-number-clause-adds
returns-in_err-number-clause-adds c =
    adds_exit c.args.item.position _ c.args.context.now.budget c.args.found.now _ c.from_residual.result c.from_residual.ensures.1
    (grows_not c.args.item.position _ c.args.found.now _ (extends_itself c.args.found.now.envs.keys) (λ h. h) refl refl refl refl)

pub returns-in_err-add-clause-adds : goal.returns-in_err-add-clause-adds
returns-in_err-add-clause-adds c =
    adds_exit c.args.item.position _ c.args.context.now.budget c.args.found.now _ c.from_residual-in_err-add.result c.from_residual-in_err-add.ensures.1
    (grows_not c.args.item.position _ c.args.found.now _ (extends_itself c.args.found.now.envs.keys) (λ h. h) refl refl refl refl)

pub returns-clause-ways : goal.returns-clause-ways
returns-clause-ways c =
    let behind : c.in_ok-number.number ≡ length c.args.found.now.done.items + length c.args.found.now.here.items =
    omega (arith, c.in_ok-number.ensures.number, c.len.ensures) in
    on_ok_weaker c.push.result
    (λ p. pushed_records c.args.item (Node c.args.prev c.args.done) c.args.found.now c.push.new.found c.args.trail.now _ c.push.new.trail p refl refl
    (pushed_node c.args.item (Node c.args.prev c.args.done) c.in_ok-number.number c.args.found.now c.push.new.found c.args.trail.now _ c.push.new.trail p
    behind refl c.in_ok-add.ensures.ok)) c.push.ensures.pushes
