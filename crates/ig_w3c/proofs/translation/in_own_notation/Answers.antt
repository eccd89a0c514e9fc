use Rattle.std.proofs.Common.{refl, ap, subst, sym, ◌∙◌}
use Rattle.ig_notation_terms.specs.Limits.{meanings as own_meanings, NumbersFit}
use Rattle.ig_w3c_syntax.specs.View.{meanings}
use Rattle.ig_w3c.proofs.Translated.{put_none, put_more, put_all, own_fits}
use Rattle.ig_w3c.proofs.translation.in_own_notation.Goals as goal

pub loop-placed-init : goal.loop-placed-init
loop-placed-init c = put_none c.args.tokens.now _ _ (ap own_meanings c.new-own.ensures.items) c.in_ok-begin.ensures

pub loop-placed-preserved : goal.loop-placed-preserved
loop-placed-preserved c =
    put_more c.args.tokens.now c.loop-placed.placed-index c.placed-item.result c.placed-item.result _ _ _ c.placed-item.is c.loop-placed-test.true
    c.loop-placed.invariant c.in_ok-put.ensures

pub returns-clause-ok : goal.returns-clause-ok
returns-clause-ok c =
    put_all c.args.tokens.now c.loop-placed.placed-index _ _ _ c.loop-placed-test.false c.loop-placed.invariant c.in_ok-add.ensures

pub returns-clause-numbers : goal.returns-clause-numbers
returns-clause-numbers c =
    subst NumbersFit
    (sym (put_all c.args.tokens.now c.loop-placed.placed-index _ _ _ c.loop-placed-test.false c.loop-placed.invariant c.in_ok-add.ensures))
    (own_fits (meanings c.args.tokens.now))
