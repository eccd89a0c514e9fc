use Rattle.std.proofs.Common.{◌≡◌, ◌<◌, ◌∙◌, length, vec_len, arith, rules}
use Rattle.ig_gss.proofs.Called as called
use Rattle.ig_gss.proofs.stacks.Stacks.edges.Goals as goal

pub index-requires : goal.index-requires
index-requires c =
    let long : vec_len c.self.inside.tops ≡ length c.self.inside.tops.items = search rules in
    let h : c.args.node < length c.self.inside.tops.items = called.inside _ _ _ _ _ c.self.invariant _ c.self.view_is _ c.requires in
    omega (arith, h, long)

pub walk-requires : goal.walk-requires
walk-requires c = called.edge_in _ _ _ _ _ c.self.invariant _ c.self.view_is _ c.requires _ c.index.ensures

pub returns : goal.returns
returns c = c.walk.ensures ∙ called.edges_are _ _ _ _ _ c.self.invariant _ c.self.view_is _ c.requires _ c.index.ensures
