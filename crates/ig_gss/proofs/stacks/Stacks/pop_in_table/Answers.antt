use Rattle.std.proofs.Common.{◌≡◌, ◌<◌, length, vec_len, arith, rules}
use Rattle.std.proofs.lemmas.Option.{IfSome_then}
use Rattle.ig_gss.proofs.Called as called
use Rattle.ig_gss.proofs.stacks.Stacks.pop_in_table.Goals as goal

pub index-tops-requires : goal.index-tops-requires
index-tops-requires c =
    let long : vec_len c.self.inside.tops ≡ length c.self.inside.tops.items = search rules in
    let h : c.args.node < length c.self.inside.tops.items = called.inside _ _ _ _ _ c.self.invariant _ c.self.view_is _ c.requires in
    omega (arith, h, long)

pub index_mut-requires : goal.index_mut-requires
index_mut-requires c =
    let long : vec_len c.self.inside.tops ≡ length c.self.inside.tops.items = search rules in
    let h : c.args.node < length c.self.inside.tops.items = called.inside _ _ _ _ _ c.self.invariant _ c.self.view_is _ c.requires in
    omega (arith, h, long)

pub walk-pops-requires : goal.walk-pops-requires
walk-pops-requires c = called.pop_in _ _ _ _ _ c.self.invariant _ c.self.view_is _ c.requires _ c.index-tops.ensures

pub make_ready-requires : goal.make_ready-requires
make_ready-requires c flag = called.had _ _ _ _ _ c.self.invariant _ c.self.view_is _ c.requires _ c.index-tops.ensures _ c.walk-pops.ensures flag

pub invariant_of-self : goal.invariant_of-self
invariant_of-self c = called.ends_keep _ _ _ _ _ c.self.invariant _ c.self.view_is _ c.requires _ c.index-tops.ensures _ _ c.walk-pops.ensures c.make_ready.ensures.grows

pub invariant_of-self-2 : goal.invariant_of-self-2
invariant_of-self-2 c =
    called.flag_keeps _ _ _ _ _ c.self.invariant _ c.self.view_is _ c.requires _ c.index-tops.ensures _ _ c.walk-pops.ensures c.in_ok-make_ready.ensures.grows c.in_ok-make_ready.ensures.all _ c.index_mut.ensures.value

pub returns-clause-same : goal.returns-clause-same
returns-clause-same c =
    called.flag_shows _ _ _ _ _ c.self.invariant _ c.self.view_is _ c.requires _ c.index-tops.ensures _ _ c.walk-pops.ensures c.in_ok-make_ready.ensures.grows c.in_ok-make_ready.ensures.all _ c.index_mut.ensures.value

pub returns-clause-some : goal.returns-clause-some
returns-clause-some c =
    IfSome_then c.done_at.result c.done_at.ensures.some
    (λ done there. called.table_some _ _ _ _ _ c.self.invariant _ c.self.view_is _ c.requires _ c.index-tops.ensures _ _ c.walk-pops.ensures c.in_ok-make_ready.ensures.grows c.in_ok-make_ready.ensures.all c.args.end done there)

pub returns-clause-none : goal.returns-clause-none
returns-clause-none c =
    called.none_then c.done_at.result c.done_at.ensures.none
    (λ none. called.table_none _ _ _ _ _ c.self.invariant _ c.self.view_is _ c.requires _ c.index-tops.ensures _ _ c.walk-pops.ensures c.in_ok-make_ready.ensures.grows c.in_ok-make_ready.ensures.all c.args.end none)
