use Rattle.std.proofs.Common.{◌≡◌, ℕ, suc, List, ◌∷◌, [], length, reverse, vec_items, subst, sym}
use Rattle.ig_text.proofs.Emptiness.{emptied}
use Rattle.ig_walker.specs.Options.{options, root_goal}
use Rattle.ig_walker.specs.States.{Backs, FirstOption}
use Rattle.ig_walker.specs.Behind.{listed}
use Rattle.ig_walker.specs.Walks.{Passed}
use Rattle.ig_walker.specs.declared.goal.Goal.{Goal}
use Rattle.ig_walker.proofs.Running.{at_end}
use Rattle.ig_walker.proofs.Stacks.{goes_back_code, found_code, exhausted_code}
use Rattle.ig_walker.proofs.walk.back.Goals as goal

pub loop-visit-init : goal.loop-visit-init
loop-visit-init c =
    subst (λ (z : List Goal). Backs c.args.forest.now (root_goal c.args.forest.now c.args.depth ∷ []) (vec_items c.args.visits.now) (vec_items c.args.visits.now) (reverse z))
    (sym c.requires.empty) (at_end c.args.forest.now _ _ c.requires.walk)

pub returns-in-Some-first_option : goal.returns-in-Some-first_option
returns-in-Some-first_option c =
    found_code c.args.forest.now _ _ (vec_items c.pop.new.self) (vec_items c.loop-visit.visits) _ c.in-Some.visit.goal c.in-Some.visit.choice c.in-Some-first_option.number
    (vec_items c.loop-visit.pending) (vec_items c.undo.new.pending) (vec_items c.push_behind.new.pending) (listed c.in-Some-first_option.behind)
    c.loop-visit.invariant c.in-Some.ensures.items c.undo.ensures
    (let e : c.number_behind-from.result ≡ suc c.in-Some.visit.choice = c.number_behind-from.ensures in
    subst (λ (n : ℕ). FirstOption c.args.forest.now c.in-Some.visit.goal n c.in-Some-first_option.number (listed c.in-Some-first_option.behind)) e c.in-Some-first_option.ensures)
    c.in_ok-note.ensures c.in_ok-push_behind.ensures

pub loop-visit-preserved : goal.loop-visit-preserved
loop-visit-preserved c =
    goes_back_code c.args.forest.now _ _ (vec_items c.pop.new.self) (vec_items c.loop-visit.visits) c.in-Some.visit.goal c.in-Some.visit.choice
    (vec_items c.loop-visit.pending) (vec_items c.undo.new.pending) (vec_items c.push.new.self)
    c.loop-visit.invariant c.in-Some.ensures.items c.undo.ensures c.in_ok-push.ensures.items
    (let e : c.number_behind-from.result ≡ suc c.in-Some.visit.choice = c.number_behind-from.ensures in
    subst (λ (n : ℕ). Passed (options c.args.forest.now) c.in-Some.visit.goal n (length (options c.args.forest.now c.in-Some.visit.goal))) e c.in_default-first_option.ensures)

pub returns : goal.returns
returns c =
    exhausted_code c.args.forest.now _ _ (vec_items c.loop-visit.visits) _ c.loop-visit.invariant
    (emptied (vec_items c.loop-visit.visits) _ c.loop-visit.visits.ok.0 c.in_default.ensures.cases.0)
