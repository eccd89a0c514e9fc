use Rattle.std.proofs.Common.{◌+◌, arith}
use Rattle.ig_scope.proofs.Levels.{level_stopped, level_done}
use Rattle.ig_scope.proofs.alternatives.check_level.Goals as goal

pub returns-in_err-check_alternative-clause-told : goal.returns-in_err-check_alternative-clause-told
returns-in_err-check_alternative-clause-told c =
    level_stopped c.args.numbered.now.declarations.now c.args.numbered.now.decl.now c.args.numbered.now.number c.args.before c.args.alts.now
    c.loop-alternative.alternative-index (c.loop-alternative.next + 1) c.alternative-item.result c.in_err-check_alternative.field-0.0 c.from_residual.result
    c.from_residual.ensures.1 c.loop-alternative-test.true c.alternative-item.is
    (let e = c.loop-alternative.invariant.counted in omega arith) c.loop-alternative.invariant.free c.in_err-check_alternative.ensures.told

pub returns-clause-told : goal.returns-clause-told
returns-clause-told c =
    level_done c.args.numbered.now.declarations.now c.args.numbered.now.decl.now c.args.numbered.now.number c.args.before c.loop-alternative.next
    c.loop-alternative.alternative-index c.args.alts.now c.loop-alternative.invariant.counted c.loop-alternative.invariant.free
    c.loop-alternative.auto.alternative-index-end c.loop-alternative-test.false
