use Rattle.std.proofs.Common.{◌≡◌, ◌-◌, sym, ◌∙◌, ap, subst, arith, Contains, Some, true, false, slice_get}
use Rattle.std.proofs.lemmas.Option.{slice_get-get_or}
use Rattle.ig_run_tables.proofs.Equality.{key_eq-decides}
use Rattle.ig_run_tables.proofs.Instances.{walk_starts, walk_goes, walk_ends}
use Rattle.ig_run_tables.proofs.instance_set.InstanceSet.place_of.Goals as goal

pub loop-at-init : goal.loop-at-init
loop-at-init c =
    walk_starts c.self.inside.keys.items c.self.inside.buckets.heads.items c.self.inside.buckets.earlier.items c.self.inside.buckets.mask c.args.key
    c.last-at.result c.self.invariant.found c.last-at.ensures

pub loop-at-smaller : goal.loop-at-smaller
loop-at-smaller c =
    let goes =
    walk_goes c.self.inside.keys.items c.self.inside.buckets.heads.items c.self.inside.buckets.earlier.items c.self.inside.buckets.mask c.args.key
    c.index.result.now c.loop-at.at (c.loop-at.at - 1) c.index-at.result.now c.self.invariant.found c.loop-at.invariant
    (omega (arith, c.loop-at-test.true)) c.index.ensures
    (λ e. let no : true ≡ false = sym ((key_eq-decides _ _).1 e) ∙ sym c.eq.ensures ∙ c.if-eq.false in cc) c.index-at.ensures in
    let below = goes.1 in
    omega (arith, below, c.loop-at-test.true)

pub loop-at-preserved : goal.loop-at-preserved
loop-at-preserved c =
    let goes =
    walk_goes c.self.inside.keys.items c.self.inside.buckets.heads.items c.self.inside.buckets.earlier.items c.self.inside.buckets.mask c.args.key
    c.index.result.now c.loop-at.at (c.loop-at.at - 1) c.index-at.result.now c.self.invariant.found c.loop-at.invariant
    (omega (arith, c.loop-at-test.true)) c.index.ensures
    (λ e. let no : true ≡ false = sym ((key_eq-decides _ _).1 e) ∙ sym c.eq.ensures ∙ c.if-eq.false in cc) c.index-at.ensures in
    goes.0

pub returns-then-eq-clause-some : goal.returns-then-eq-clause-some
returns-then-eq-clause-some c =
    subst (λ z. slice_get z (c.loop-at.at - 1) ≡ Some c.args.key) c.self.view_is
    (slice_get-get_or c.self.inside.keys.items (c.loop-at.at - 1) c.index.result.now (omega (arith, c.loop-at.invariant.within, c.loop-at-test.true)) ∙
    ap Some (sym c.index.ensures ∙ (key_eq-decides _ _).0 (sym c.eq.ensures ∙ c.if-eq.true)))

pub returns-clause-none : goal.returns-clause-none
returns-clause-none c h =
    walk_ends c.self.inside.buckets.mask c.self.inside.keys.items c.args.key c.loop-at.at c.loop-at.invariant c.loop-at-test.false
    (subst (λ z. Contains z c.args.key) (sym c.self.view_is) h)
