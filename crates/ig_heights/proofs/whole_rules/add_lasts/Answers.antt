use Rattle.std.proofs.Common.{refl, arith, subst, ◌≡◌, ℕ, length}
use Rattle.ig_heights.specs.Table.{AreLasts}
use Rattle.ig_heights.proofs.Linking.{lasts_none, lasts_next}
use Rattle.ig_heights.proofs.whole_rules.add_lasts.Goals as goal

pub loop-part-init : goal.loop-part-init
loop-part-init c = lasts_none c.args.bottom c.args.rules.now.items c.args.last.now

pub loop-part-preserved : goal.loop-part-preserved
loop-part-preserved c =
    lasts_next c.args.bottom c.args.rules.now.items c.args.last.now c.loop-part.rules.items c.push.new.self.items c.loop-part.part _ refl c.loop-part.invariant
    c.in_ok-push.ensures.items

pub returns : goal.returns
returns c =
    let low = c.loop-part.auto.part-end in let past = c.loop-part-test.false in
    let e : c.loop-part.part ≡ length c.args.last.now = omega (arith, low, past) in
    subst (λ (n : ℕ). AreLasts c.args.bottom c.args.rules.now.items c.loop-part.rules.items c.args.last.now n) e c.loop-part.invariant
