use Rattle.std.proofs.Common.{◌≡◌, ◌-◌, sym, ◌∙◌, subst, arith, Contains, true, false, slice_index_or}
use Rattle.ig_run_tables.specs.Returned.{Walks, entry}
use Rattle.ig_run_tables.proofs.Equality.{item_eq-decides}
use Rattle.ig_run_tables.proofs.Items.{walk_starts, walk_smaller, walk_goes, walk_finds, walk_ends}
use Rattle.ig_run_tables.proofs.returned.Returned.number_of.Goals as goal

pub loop-at-init : goal.loop-at-init
loop-at-init c =
    walk_starts _ _ c.self.inside.heads.items _ _ _ c.self.invariant
    (subst (λ z. c.index-at.result.now ≡ slice_index_or c.self.inside.heads.items z c.index-at.result.now) c.bucket_of.ensures c.index-at.ensures)

pub loop-at-smaller : goal.loop-at-smaller
loop-at-smaller c =
    let s = walk_smaller c.self.inside.mask c.self.inside.base c.self.inside.heads.items c.self.inside.cells.items c.args.item c.loop-at.at c.index.result.now
    c.self.invariant c.loop-at.invariant c.loop-at-test.true c.index.ensures in
    omega (arith, s, c.loop-at-test.true, c.earlier-at.ensures)

pub loop-at-preserved : goal.loop-at-preserved
loop-at-preserved c =
    subst (λ z. Walks c.self.inside.mask c.self.inside.base c.self.inside.cells.items c.args.item z) (sym c.earlier-at.ensures)
    (walk_goes _ _ c.self.inside.heads.items _ _ c.loop-at.at _ c.self.invariant c.loop-at.invariant c.loop-at-test.true c.index.ensures
    (λ e. let no : true ≡ false = sym ((item_eq-decides _ _).1 e) ∙ sym c.eq.ensures ∙ c.if-eq.false in cc))

pub returns-then-eq-clause-some : goal.returns-then-eq-clause-some
returns-then-eq-clause-some c =
    let at = c.loop-at.at - c.self.inside.base - 1 in
    subst (λ z. Contains z (entry c.args.item c.index.result.now.number)) c.self.view_is
    (walk_finds c.self.inside.cells.items c.args.item at c.index.result.now (omega (arith, c.loop-at.invariant.within, c.loop-at-test.true)) c.index.ensures
    ((item_eq-decides _ _).0 (sym c.eq.ensures ∙ c.if-eq.true)))

pub returns-clause-none : goal.returns-clause-none
returns-clause-none c number h =
    absurd (walk_ends _ _ c.self.inside.cells.items c.args.item c.loop-at.at c.loop-at.invariant c.loop-at-test.false number
    (subst (λ z. Contains z (entry c.args.item number)) (sym c.self.view_is) h))

pub returns-then-at-self-clause-none : goal.returns-then-at-self-clause-none
returns-then-at-self-clause-none c number h =
    let walk =
    walk_starts c.self.inside.mask c.self.inside.base c.self.inside.heads.items c.self.inside.cells.items c.args.item c.index-at.result.now c.self.invariant
    (subst (λ z. c.index-at.result.now ≡ slice_index_or c.self.inside.heads.items z c.index-at.result.now) c.bucket_of.ensures c.index-at.ensures) in
    absurd (walk_ends c.self.inside.mask c.self.inside.base c.self.inside.cells.items c.args.item c.index-at.result.now walk c.if-at-self.true number
    (subst (λ z. Contains z (entry c.args.item number)) (sym c.self.view_is) h))
