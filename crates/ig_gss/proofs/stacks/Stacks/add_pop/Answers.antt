use Rattle.std.proofs.Common.{◌≡◌, ◌<◌, length, vec_len, arith, rules, subst}
use Rattle.std.specs.Prelude.{IfSome}
use Rattle.ig_gss.proofs.Called as called
use Rattle.ig_gss.proofs.stacks.Stacks.add_pop.Goals as goal

pub index-tops-requires : goal.index-tops-requires
index-tops-requires c =
    let long : vec_len c.self.inside.tops ≡ length c.self.inside.tops.items = search rules in
    let h : c.args.node < length c.self.inside.tops.items = called.inside _ _ _ _ _ c.self.invariant _ c.self.view_is _ c.requires.node in
    omega (arith, h, long)

pub last-requires : goal.last-requires
last-requires c = called.pop_in _ _ _ _ _ c.self.invariant _ c.self.view_is _ c.requires.node _ c.index-tops.ensures

pub add-requires : goal.add-requires
add-requires c = called.pop_in _ _ _ _ _ c.self.invariant _ c.self.view_is _ c.requires.node _ c.index-tops.ensures

pub index_mut-requires : goal.index_mut-requires
index_mut-requires c =
    let long : vec_len c.self.inside.tops ≡ length c.self.inside.tops.items = search rules in
    let h : c.args.node < length c.self.inside.tops.items = called.inside _ _ _ _ _ c.self.invariant _ c.self.view_is _ c.requires.node in
    omega (arith, h, long)

pub invariant_of-self-then-rise : goal.invariant_of-self-then-rise
invariant_of-self-then-rise c =
    called.rising_keeps _ _ _ _ _ c.self.invariant _ c.self.view_is _ c.requires.node _ c.index-tops.ensures c.args.pop _ c.index_mut.ensures.value c.in_ok-highest.highest _ c.in_ok-highest.ensures.added c.in_ok-highest.ensures.place
    (c.rise.ensures.is_indexed c.if-rise.true)
    (subst (λ o. IfSome o (λ p. p.end < c.args.pop.end)) c.last.ensures (c.rise.ensures.higher c.if-rise.true)) c.requires.is_new

pub returns-then-rise-clause-ok : goal.returns-then-rise-clause-ok
returns-then-rise-clause-ok c =
    called.rising_shows _ _ _ _ _ c.self.invariant _ c.self.view_is _ c.requires.node _ c.index-tops.ensures c.args.pop _ c.index_mut.ensures.value c.in_ok-highest.highest _ c.in_ok-highest.ensures.added c.in_ok-highest.ensures.place
