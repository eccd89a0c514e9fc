use Rattle.std.proofs.Common.{◌≤◌, ⊎_elim, sym, subst}
use Rattle.ig_item.specs.declared.ways.FurtherEnd.{FurtherEnd}
use Rattle.ig_run_laws.proofs.Least.{in_next, in_whole}
use Rattle.ig_run_laws.proofs.renaming.has_lower.Goals as goal

pub loop-end-preserved : goal.loop-end-preserved
loop-end-preserved c =
    λ e m. ⊎_elim (c.loop-end.invariant e) (λ is. subst (λ (z : FurtherEnd). z.first ≤ z.item) (sym is) c.if-end.false)
    (in_next c.args.ends.now c.loop-end.end-index (record { first = 0; item = 0 }) c.loop-end-test.true e m)

pub returns : goal.returns
returns c = λ e m. c.loop-end.invariant e (in_whole c.args.ends.now c.loop-end.end-index c.loop-end-test.false e m)
