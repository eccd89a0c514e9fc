use Rattle.std.proofs.Common.{◌≡◌, ◌<◌, length, vec_len, arith, rules, sym, subst, true≢false}
use Rattle.std.specs.Prelude.{IsOk}
use Rattle.ig_gss.specs.Views.{AreStacks}
use Rattle.ig_gss.proofs.Called as called
use Rattle.ig_gss.proofs.stacks.Stacks.add_to_table.Goals as goal

pub index-tops-requires : goal.index-tops-requires
index-tops-requires c =
    let long : vec_len c.self.inside.tops ≡ length c.self.inside.tops.items = search rules in
    let h : c.args.node < length c.self.inside.tops.items = called.inside _ _ _ _ _ c.self.invariant _ c.self.view_is _ c.requires.node in
    omega (arith, h, long)

pub walk-pops-requires : goal.walk-pops-requires
walk-pops-requires c = called.pop_in _ _ _ _ _ c.self.invariant _ c.self.view_is _ c.requires.node _ c.index-tops.ensures

pub make_ready-requires : goal.make_ready-requires
make_ready-requires c flag = called.had _ _ _ _ _ c.self.invariant _ c.self.view_is _ c.requires.node _ c.index-tops.ensures _ c.walk-pops.ensures flag

pub add-requires : goal.add-requires
add-requires c = called.pop_in _ _ _ _ _ c.self.invariant _ c.self.view_is _ c.requires.node _ c.index-tops.ensures

pub index_mut-requires : goal.index_mut-requires
index_mut-requires c =
    let long : vec_len c.self.inside.tops ≡ length c.self.inside.tops.items = search rules in
    let h : c.args.node < length c.self.inside.tops.items = called.inside _ _ _ _ _ c.self.invariant _ c.self.view_is _ c.requires.node in
    omega (arith, h, long)

pub invariant_of-self : goal.invariant_of-self
invariant_of-self c = called.ends_keep _ _ _ _ _ c.self.invariant _ c.self.view_is _ c.requires.node _ c.index-tops.ensures _ _ c.walk-pops.ensures c.in_err-make_ready.ensures.grows

pub invariant_of-self-in_err-place : goal.invariant_of-self-in_err-place
invariant_of-self-in_err-place c =
    subst (λ z. AreStacks c.self.inside.keys c.self.inside.tops.items c.self.inside.edges z c.make_ready.new.ends.entries) (sym c.in_err-place.ensures.refused)
    (called.ends_keep _ _ _ _ _ c.self.invariant _ c.self.view_is _ c.requires.node _ c.index-tops.ensures _ _ c.walk-pops.ensures c.in_ok-make_ready.ensures.grows)

pub invariant_of-self-2 : goal.invariant_of-self-2
invariant_of-self-2 c =
    called.falling_keeps _ _ _ _ _ c.self.invariant _ c.self.view_is _ c.requires.node _ c.index-tops.ensures _ _ c.walk-pops.ensures c.in_ok-make_ready.ensures.grows c.in_ok-make_ready.ensures.all c.args.pop c.in_ok-place.place _ c.in_ok-place.ensures.added c.in_ok-place.ensures.place c.requires.is_new _ c.in_ok-insert.ensures.entries

pub returns-clause-ok : goal.returns-clause-ok
returns-clause-ok c = called.falling_shows _ _ _ _ _ c.self.invariant _ c.self.view_is _ c.requires.node _ c.index-tops.ensures _ _ c.walk-pops.ensures c.in_ok-make_ready.ensures.grows c.in_ok-make_ready.ensures.all c.args.pop c.in_ok-place.place _ c.in_ok-place.ensures.added c.in_ok-place.ensures.place c.requires.is_new

pub invariant_of-self-in_err-insert : goal.invariant_of-self-in_err-insert
invariant_of-self-in_err-insert c = absurd (true≢false (sym (subst IsOk c.in_err-insert.was (c.insert.ensures.succeeds c.in_ok-make_ready.ensures.room))))

pub returns-in_err-insert-clause-refused : goal.returns-in_err-insert-clause-refused
returns-in_err-insert-clause-refused c = absurd (true≢false (sym (subst IsOk c.in_err-insert.was (c.insert.ensures.succeeds c.in_ok-make_ready.ensures.room))))
