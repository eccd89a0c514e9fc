use Rattle.std.proofs.Common.{sym, subst, ◌∙◌, ◌≤◌, ℕ}
use Rattle.ig_forest_live.specs.CodeWayMarks.{AreFound}
use Rattle.ig_forest_live.proofs.CodeWalk.{walk_begins, walk_next, turn_within, walk_stops, walk_runs_out}
use Rattle.ig_forest_live.proofs.CodeWayMarks.{reached_live}
use Rattle.ig_forest_live.proofs.marks.marks_of.Goals as goal

pub loop-turn-init : goal.loop-turn-init
loop-turn-init c =
    walk_begins c.args.links.now.ways c.args.root c.in_ok-walk.walk c.mark_node.new.self
    (subst (λ (n : ℕ). AreFound c.in_ok-walk.walk n) c.len-count.ensures.number c.in_ok-walk.ensures.found) c.in_ok-walk.ensures.none
    c.in_ok-mark_node.ensures.more c.in_ok-mark_node.ensures.whole

pub returns-in_default : goal.returns-in_default
returns-in_default c =
    reached_live c.args.links.now c.len-count.ensures.recorded c.alternatives_are_one.ensures c.args.root c.requires _
    (walk_stops c.args.links.now.ways c.args.root c.loop-turn.walk c.loop-turn.turn c.loop-turn.invariant (sym c.at.ensures ∙ c.in_default.is))

pub visit-requires-clause-number : goal.visit-requires-clause-number
visit-requires-clause-number c =
    turn_within c.args.links.now.ways c.args.root c.loop-turn.walk c.loop-turn.turn c.in-Some.number c.loop-turn.invariant (sym c.in-Some.ensures)

pub loop-turn-preserved : goal.loop-turn-preserved
loop-turn-preserved c =
    walk_next c.args.links.now.ways c.args.root c.loop-turn.walk c.visit.new.self c.loop-turn.turn c.in-Some.number c.loop-turn.invariant
    (sym c.in-Some.ensures) c.in_ok-visit.ensures.more c.in_ok-visit.ensures.whole

pub returns : goal.returns
returns c =
    reached_live c.args.links.now c.len-count.ensures.recorded c.alternatives_are_one.ensures c.args.root c.requires _
    (walk_runs_out c.args.links.now.ways c.args.root c.loop-turn.walk c.loop-turn.turn c.loop-turn.invariant
    (subst (λ (n : ℕ). n ≤ c.loop-turn.turn) c.len-count.ensures.number c.loop-turn-test.false))
