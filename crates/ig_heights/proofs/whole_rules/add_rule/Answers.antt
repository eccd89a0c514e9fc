use Rattle.std.proofs.Common.{refl, sym, subst, arith, ℕ}
use Rattle.ig_heights.specs.Table.{Links}
use Rattle.ig_heights.specs.Table as table
use Rattle.ig_heights.proofs.Numbers.{read_zero}
use Rattle.ig_heights.proofs.whole_rules.add_rule.Goals as goal

pub returns : goal.returns
returns c =
    let low = c.if-rule-bottom.false in let long = c.requires.last in
    let e = read_zero c.args.last.now.items c.args.rule.target c.index.result.now (omega (arith, low, long)) c.index.ensures in
    table.both c.in_ok-middle.middle c.in_ok-end.end c.add_link.new.links.items low
    (subst (λ (z : ℕ). Links c.args.bottom z c.args.rule.left c.args.links.now.items c.add_link.new.links.items c.in_ok-middle.middle) (sym e)
    c.in_ok-middle.ensures) c.in_ok-end.ensures refl
