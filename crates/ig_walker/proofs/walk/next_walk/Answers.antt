use Rattle.std.proofs.Common.{vec_items, refl}
use Rattle.std.proofs.lemmas.Result.{IfOk-weaker}
use Rattle.ig_text.proofs.Emptiness.{is_nothing, is_something}
use Rattle.ig_walker.proofs.Starting.{found_weaker, none_first, is_first, has_walk, none_later, is_later}
use Rattle.ig_walker.proofs.walk.next_walk.Goals as goal

pub returns-then-is_empty : goal.returns-then-is_empty
returns-then-is_empty c =
    let empty = is_nothing c.args.visits.now c.args.visits.now c.is_empty.result c.is_empty.ensures c.if-is_empty.true refl in
    IfOk-weaker c.first_walk.result _ _
    (λ found. found_weaker found _ _ _ _
    (none_first c.args.forest.now c.args.depth c.args.visits.now empty)
    (λ next. is_first c.args.forest.now c.args.depth c.args.visits.now (vec_items next) empty))
    c.first_walk.ensures

pub later_walk-requires : goal.later_walk-requires
later_walk-requires c =
    has_walk c.args.forest.now c.args.depth c.args.visits.now
    (is_something c.args.visits.now c.args.visits.now c.is_empty.result c.is_empty.ensures c.if-is_empty.false refl) c.requires

pub returns-else-is_empty : goal.returns-else-is_empty
returns-else-is_empty c =
    let some = is_something c.args.visits.now c.args.visits.now c.is_empty.result c.is_empty.ensures c.if-is_empty.false refl in
    IfOk-weaker c.later_walk.result _ _
    (λ found. found_weaker found _ _ _ _
    (none_later c.args.forest.now c.args.depth c.args.visits.now some)
    (λ next. is_later c.args.forest.now c.args.depth c.args.visits.now (vec_items next) some))
    c.later_walk.ensures
