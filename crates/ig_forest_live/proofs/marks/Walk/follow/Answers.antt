use Rattle.std.proofs.Common.{◌≡◌, ℕ, refl, sym, subst}
use Rattle.std.proofs.lemmas.Result.{on_ok_weaker}
use Rattle.ig_item.specs.declared.ways.Way.{Way}
use Rattle.ig_item.specs.declared.ways.Way.TheVariants.{Pass, Leaf, Node}
use Rattle.ig_forest_live.specs.CodeWayMarks.{HasPrev}
use Rattle.ig_forest_live.proofs.CodeWalk.{leads_by_pass, leads_by_leaf, leads_by_node}
use Rattle.ig_forest_live.proofs.CodeWayMarks.{prev_fits, prev_whole, done_fits}
use Rattle.ig_forest_live.proofs.marks.Walk.follow.Goals as goal

by_pass : (way : Way) (k : ℕ) → way ≡ Pass k → HasPrev way k
by_pass way k is = subst (λ (z : Way). HasPrev z k) (sym is) refl

by_leaf : (way : Way) (k : ℕ) → way ≡ Leaf k → HasPrev way k
by_leaf way k is = subst (λ (z : Way). HasPrev z k) (sym is) refl

by_node : (way : Way) (k d : ℕ) → way ≡ Node k d → HasPrev way k
by_node way k d is = subst (λ (z : Way). HasPrev z k) (sym is) refl

pub mark-requires-clause-number : goal.mark-requires-clause-number
mark-requires-clause-number c =
    prev_fits c.args.links.now c.args.way c.requires.way c.in-Pass.prev (by_pass c.args.way c.in-Pass.prev c.in-Pass.is) c.args.self.now
    c.requires.found

pub mark-requires-in-Leaf-clause-number : goal.mark-requires-in-Leaf-clause-number
mark-requires-in-Leaf-clause-number c =
    prev_fits c.args.links.now c.args.way c.requires.way c.in-Leaf.prev (by_leaf c.args.way c.in-Leaf.prev c.in-Leaf.is) c.args.self.now
    c.requires.found

pub mark-requires-in-Node-clause-number : goal.mark-requires-in-Node-clause-number
mark-requires-in-Node-clause-number c =
    prev_fits c.args.links.now c.args.way c.requires.way c.in-Node.prev (by_node c.args.way c.in-Node.prev c.in-Node.done c.in-Node.is)
    c.args.self.now c.requires.found

pub mark_node-requires-clause-whole : goal.mark_node-requires-clause-whole
mark_node-requires-clause-whole c =
    prev_whole c.args.links.now c.args.way c.requires.way c.in-Node.prev (by_node c.args.way c.in-Node.prev c.in-Node.done c.in-Node.is)
    c.alternatives_are_one.ensures c.args.self.now c.mark-in-Node.new.self c.requires.found c.requires.whole c.in_ok-mark-in-Node.ensures

pub mark_node-requires-clause-done : goal.mark_node-requires-clause-done
mark_node-requires-clause-done c = done_fits c.args.links.now c.args.way c.requires.way c.in-Node.prev c.in-Node.done c.in-Node.is

pub returns-in-Pass-clause-more : goal.returns-in-Pass-clause-more
returns-in-Pass-clause-more c =
    on_ok_weaker c.mark.result
    (leads_by_pass c.args.links.now.ways c.args.self.now c.mark.new.self c.args.way c.in-Pass.prev c.in-Pass.is) c.mark.ensures

pub returns-in-Pass-clause-whole : goal.returns-in-Pass-clause-whole
returns-in-Pass-clause-whole c =
    on_ok_weaker c.mark.result
    (prev_whole c.args.links.now c.args.way c.requires.way c.in-Pass.prev (by_pass c.args.way c.in-Pass.prev c.in-Pass.is)
    c.alternatives_are_one.ensures c.args.self.now c.mark.new.self c.requires.found c.requires.whole) c.mark.ensures

pub returns-in-Leaf-clause-more : goal.returns-in-Leaf-clause-more
returns-in-Leaf-clause-more c =
    on_ok_weaker c.mark-in-Leaf.result
    (leads_by_leaf c.args.links.now.ways c.args.self.now c.mark-in-Leaf.new.self c.args.way c.in-Leaf.prev c.in-Leaf.is)
    c.mark-in-Leaf.ensures

pub returns-in-Leaf-clause-whole : goal.returns-in-Leaf-clause-whole
returns-in-Leaf-clause-whole c =
    on_ok_weaker c.mark-in-Leaf.result
    (prev_whole c.args.links.now c.args.way c.requires.way c.in-Leaf.prev (by_leaf c.args.way c.in-Leaf.prev c.in-Leaf.is)
    c.alternatives_are_one.ensures c.args.self.now c.mark-in-Leaf.new.self c.requires.found c.requires.whole) c.mark-in-Leaf.ensures

pub returns-in_ok-mark-in-Node-clause-more : goal.returns-in_ok-mark-in-Node-clause-more
returns-in_ok-mark-in-Node-clause-more c =
    on_ok_weaker c.mark_node.result
    (leads_by_node c.args.links.now.ways c.args.self.now c.mark-in-Node.new.self c.mark_node.new.self c.args.way c.in-Node.prev
    c.in-Node.done c.in-Node.is c.in_ok-mark-in-Node.ensures) c.mark_node.ensures.more
