use Rattle.std.proofs.Common.{[], ◌∷◌, refl, vec_items, arith}
use Rattle.std.proofs.lemmas.List.{drop_all}
use Rattle.ig_text.proofs.Emptiness.{emptied}
use Rattle.ig_walker.specs.Behind.{listed}
use Rattle.ig_walker.specs.Options.{root_goal}
use Rattle.ig_walker.proofs.Starting.{root_alone}
use Rattle.ig_walker.proofs.follow.follow.Goals as goal
use Rattle.ig_walker.proofs.Following.{follow_starts, follow_goes_code, follow_ends_code, follow_fails_code, follow_lower_code, follow_left_code, follow_done_code, drop_some}

pub loop-goal-init : goal.loop-goal-init
loop-goal-init c =
    follow_starts c.args.forest.now (root_goal c.args.forest.now c.args.depth ∷ []) c.args.cursor.now _ _ _ c.new-visits.ensures.items refl
    (root_alone c.args.forest.now c.args.depth c.root-node.result (vec_items c.push.new.self) (vec_items c.new-pending.result) c.root-node.ensures.number
    c.new-pending.ensures.items c.in_ok-push.ensures.items)

pub returns-in_default-told : goal.returns-in_default-told
returns-in_default-told c =
    follow_ends_code c.args.forest.now (root_goal c.args.forest.now c.args.depth ∷ []) c.args.cursor.now (vec_items c.loop-goal.visits) _ _ c.in-Some.goal
    (vec_items c.loop-goal.pending) (vec_items c.pop.new.self) c.loop-goal.invariant c.in-Some.ensures.items c.count_options.ensures c.in_default-told.ensures

pub returns-in_default-opening_option : goal.returns-in_default-opening_option
returns-in_default-opening_option c =
    follow_fails_code c.args.forest.now (root_goal c.args.forest.now c.args.depth ∷ []) c.args.cursor.now (vec_items c.loop-goal.visits) _ _ _ c.in-Some.goal
    (vec_items c.loop-goal.pending) (vec_items c.pop.new.self) c.in-Some-told.choice c.loop-goal.invariant c.in-Some.ensures.items c.count_options.ensures
    c.in-Some-told.ensures c.in_default-opening_option.ensures

pub loop-goal-smaller : goal.loop-goal-smaller
loop-goal-smaller c =
    follow_lower_code c.args.forest.now (root_goal c.args.forest.now c.args.depth ∷ []) c.args.cursor.now c.root-node.ensures.trim
    (vec_items c.loop-goal.pending) (vec_items c.pop.new.self) _ (listed c.in-Some-opening_option.behind) c.in-Some.goal c.in-Some-told.choice
    c.in-Some.ensures.items c.in-Some-opening_option.ensures c.in_ok-push_behind.ensures

pub loop-goal-preserved : goal.loop-goal-preserved
loop-goal-preserved c =
    follow_goes_code c.args.forest.now (root_goal c.args.forest.now c.args.depth ∷ []) c.args.cursor.now (vec_items c.loop-goal.visits) _ _ _ _ c.in-Some.goal
    (vec_items c.loop-goal.pending) (vec_items c.pop.new.self) (listed c.in-Some-opening_option.behind) _ c.in-Some-told.choice
    c.loop-goal.invariant c.in-Some.ensures.items c.count_options.ensures c.in-Some-told.ensures c.in-Some-opening_option.ensures
    c.in_ok-add_visit.ensures c.in_ok-push_behind.ensures

pub returns-then-place-cursor : goal.returns-then-place-cursor
returns-then-place-cursor c =
    follow_left_code c.args.forest.now (root_goal c.args.forest.now c.args.depth ∷ []) c.args.cursor.now (vec_items c.loop-goal.visits) _
    (vec_items c.loop-goal.pending) c.loop-goal.invariant
    (emptied (vec_items c.loop-goal.pending) _ c.loop-goal.pending.ok.0 c.in_default.ensures.cases.0)
    (drop_some c.args.cursor.now c.loop-goal.place (let h = c.if-place-cursor.true in omega (arith, h)))

pub returns : goal.returns
returns c =
    follow_done_code c.args.forest.now (root_goal c.args.forest.now c.args.depth ∷ []) c.args.cursor.now (vec_items c.loop-goal.visits) _
    (vec_items c.loop-goal.pending) c.loop-goal.invariant
    (emptied (vec_items c.loop-goal.pending) _ c.loop-goal.pending.ok.0 c.in_default.ensures.cases.0)
    (drop_all c.loop-goal.place c.args.cursor.now (let h = c.if-place-cursor.false in omega (arith, h)))
