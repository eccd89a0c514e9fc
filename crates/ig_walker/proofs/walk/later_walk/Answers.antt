use Rattle.std.proofs.Common.{List, ◌∷◌, [], sym, subst}
use Rattle.ig_walker.specs.Options.{options, root_goal}
use Rattle.ig_walker.specs.Walks.{Walk}
use Rattle.ig_walker.specs.declared.goal.Visit.{Visit}
use Rattle.ig_walker.proofs.Stacks.{next_code, last_code}
use Rattle.ig_walker.proofs.walk.later_walk.Goals as goal

pub back-requires-clause-walk : goal.back-requires-clause-walk
back-requires-clause-walk c =
    subst (λ (z : List Visit). Walk (options c.args.forest.now) (root_goal c.args.forest.now c.args.depth ∷ []) z) (sym c.in_ok-copy.ensures) c.requires

pub returns-then-not-branch : goal.returns-then-not-branch
returns-then-not-branch c =
    last_code c.args.forest.now _ _ _ _ _ _ c.in_ok-copy.ensures c.if-not-branch.true c.in_ok-back.ensures

pub returns : goal.returns
returns c =
    next_code c.args.forest.now _ _ _ _ _ _ _ c.in_ok-copy.ensures c.if-not-branch.false c.in_ok-back.ensures c.in_ok-complete.ensures
