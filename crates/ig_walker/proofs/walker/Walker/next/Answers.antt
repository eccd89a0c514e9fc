use Rattle.std.proofs.Common.{vec_items, refl, sym, subst}
use Rattle.ig_walker.specs.Listing.{GivesTree}
use Rattle.ig_walker.specs.States.{HasWalked, listing_of}
use Rattle.ig_walker.proofs.Closing.{next_keeps, walked_slice, gives_next, gives_none}
use Rattle.ig_walker.proofs.walker.Walker.next.Goals as goal

pub next_walk-requires : goal.next_walk-requires
next_walk-requires c =
    walked_slice c.self.inside.forest c.self.inside.depth (vec_items c.self.inside.visits) _ c.self.invariant c.as_slice.ensures.value

pub returns-in_default-clause-given : goal.returns-in_default-clause-given
returns-in_default-clause-given c =
    gives_none c.self.inside.forest c.self.inside.depth (vec_items c.self.inside.visits) _ _ _ c.self.invariant c.as_slice.ensures.value
    (rw c.in_default.is at c.in_ok-found.ensures) c.self.view_is refl

pub invariant_of-self : goal.invariant_of-self
invariant_of-self c =
    subst (HasWalked c.self.inside.forest c.self.inside.depth) (sym c.go_on.ensures)
    (next_keeps c.self.inside.forest c.self.inside.depth _ (vec_items c.in-Some.visits) (rw c.in-Some.is at c.in_ok-found.ensures))

pub returns-clause-given : goal.returns-clause-given
returns-clause-given c =
    subst (λ z. GivesTree c.args.self.now c.in_ok-tree.tree (listing_of c.self.inside.forest c.self.inside.depth z)) (sym c.go_on.ensures)
    (gives_next c.self.inside.forest c.self.inside.depth (vec_items c.self.inside.visits) _ (vec_items c.in-Some.visits) _ _ _ _
    c.self.invariant c.as_slice.ensures.value (rw c.in-Some.is at c.in_ok-found.ensures) c.as_slice-2.ensures.value c.in_ok-tree.ensures c.self.view_is refl)
