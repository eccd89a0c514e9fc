use Rattle.std.proofs.Common.{◌≡◌, ◌<◌, length, vec_len, arith, rules}
use Rattle.ig_gss.proofs.Called as called
use Rattle.ig_gss.proofs.stacks.Stacks.add_edge.Goals as goal

pub index-requires : goal.index-requires
index-requires c =
    let long : vec_len c.self.inside.tops ≡ length c.self.inside.tops.items = search rules in
    let h : c.args.node < length c.self.inside.tops.items = called.inside _ _ _ _ _ c.self.invariant _ c.self.view_is _ c.requires.node in
    omega (arith, h, long)

pub add-requires : goal.add-requires
add-requires c = called.edge_in _ _ _ _ _ c.self.invariant _ c.self.view_is _ c.requires.node _ c.index.ensures

pub index_mut-requires : goal.index_mut-requires
index_mut-requires c =
    let long : vec_len c.self.inside.tops ≡ length c.self.inside.tops.items = search rules in
    let h : c.args.node < length c.self.inside.tops.items = called.inside _ _ _ _ _ c.self.invariant _ c.self.view_is _ c.requires.node in
    omega (arith, h, long)

pub invariant_of-self-2 : goal.invariant_of-self-2
invariant_of-self-2 c =
    called.edge_keeps _ _ _ _ _ c.self.invariant _ c.self.view_is _ c.requires.node _ c.index.ensures c.args.edge _ c.index_mut.ensures.value
    c.in_ok-place.place _ c.in_ok-place.ensures.added c.in_ok-place.ensures.place c.requires.is_new

pub returns-clause-ok : goal.returns-clause-ok
returns-clause-ok c =
    called.edge_shows _ _ _ _ _ c.self.invariant _ c.self.view_is _ c.requires.node _ c.index.ensures c.args.edge _ c.index_mut.ensures.value
    c.in_ok-place.place _ c.in_ok-place.ensures.added c.in_ok-place.ensures.place
