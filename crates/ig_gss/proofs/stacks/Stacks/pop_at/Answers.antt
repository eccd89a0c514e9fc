use Rattle.std.proofs.Common.{◌≡◌, ◌<◌, ◌∙◌, length, vec_len, arith, rules, sym, subst}
use Rattle.std.specs.Prelude.{IfSome}
use Rattle.ig_gss.proofs.Called as called
use Rattle.ig_gss.proofs.stacks.Stacks.pop_at.Goals as goal

pub index-tops-requires : goal.index-tops-requires
index-tops-requires c =
    let long : vec_len c.self.inside.tops ≡ length c.self.inside.tops.items = search rules in
    let h : c.args.node < length c.self.inside.tops.items = called.inside _ _ _ _ _ c.self.invariant _ c.self.view_is _ c.requires in
    omega (arith, h, long)

pub last-last-requires : goal.last-last-requires
last-last-requires c = called.pop_in _ _ _ _ _ c.self.invariant _ c.self.view_is _ c.requires _ c.index-tops.ensures

pub returns-in_default-clause-none : goal.returns-in_default-clause-none
returns-in_default-clause-none c = called.asks_none _ _ _ _ _ c.self.invariant _ c.self.view_is _ c.requires _ c.index-tops.ensures (sym c.in_default.is ∙ c.last-last.ensures) c.args.end

pub returns-then-pop-end-clause-some : goal.returns-then-pop-end-clause-some
returns-then-pop-end-clause-some c = called.asks_last _ _ _ _ _ c.self.invariant _ c.self.view_is _ c.requires _ c.index-tops.ensures c.in-Some.pop c.args.end (sym c.in-Some.is ∙ c.last-last.ensures) c.if-pop-end.true

pub returns-then-rise-clause-none : goal.returns-then-rise-clause-none
returns-then-rise-clause-none c =
    called.asks_higher _ _ _ _ _ c.self.invariant _ c.self.view_is _ c.requires _ c.index-tops.ensures c.args.end (c.rise.ensures.is_indexed c.if-rise.true)
    (subst (λ o. IfSome o (λ p. p.end < c.args.end)) (sym c.in-Some.is ∙ c.last-last.ensures) (c.rise.ensures.higher c.if-rise.true))
