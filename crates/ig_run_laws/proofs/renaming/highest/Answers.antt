use Rattle.std.proofs.Common.{⊎_elim, get_or, ap, arith}
use Rattle.ig_item.specs.declared.ways.FurtherEnd.{FurtherEnd}
use Rattle.ig_run_laws.proofs.Least.{greater, in_next, in_whole}
use Rattle.ig_run_laws.proofs.renaming.highest.Goals as goal

pub loop-end-preserved : goal.loop-end-preserved
loop-end-preserved c =
    let end = get_or c.args.ends.now c.loop-end.end-index (record { first = 0; item = 0 }) in
    let both = greater c.loop-end.highest end.first in
    let is_greater = c.max-highest.ensures in
    λ e m. ⊎_elim
    (λ h. let before = c.loop-end.invariant e h in let low = both.0 in omega (arith, before, low, is_greater))
    (λ same. let first = ap (λ (z : FurtherEnd). z.first) same in let low = both.1 in omega (arith, first, low, is_greater))
    (in_next c.args.ends.now c.loop-end.end-index (record { first = 0; item = 0 }) c.loop-end-test.true e m)

pub returns : goal.returns
returns c = λ e m. c.loop-end.invariant e (in_whole c.args.ends.now c.loop-end.end-index c.loop-end-test.false e m)
