use Rattle.std.proofs.Common.{◌≡◌, ◌∙◌, length, vec_len, arith, rules}
use Rattle.ig_arena.proofs.Filling.{number_in, value_in, value_at}
use Rattle.ig_arena.proofs.arena.Arena.at.Goals as goal

pub index-requires : goal.index-requires
index-requires g c =
    let long : vec_len c.self.inside.chunks ≡ length c.self.inside.chunks.items = search rules in
    let there = number_in _ _ _ _ c.self.invariant.0 c.self.invariant.1 c.self.view_is c.requires in
    omega (arith, long, there)

pub at-requires : goal.at-requires
at-requires g c = value_in _ _ _ _ c.self.invariant.0 c.self.invariant.1 c.self.view_is c.requires _ c.index.ensures

pub returns : goal.returns
returns g c = value_at _ _ _ _ c.self.invariant.0 c.self.invariant.1 c.self.view_is c.requires _ c.index.ensures ∙ c.at.ensures
