use Rattle.std.proofs.Common.{◌≡◌, ◌∙◌, ◌+◌, ◌∷◌, [], ◌++◌, ℕ, ap, subst, arith, rules}
use Rattle.std.proofs.lemmas.List.Elements.{Contains-get_or}
use Rattle.ig_forest_tables.specs.declared.entry.Entry.{Entry}
use Rattle.ig_forest.proofs.CodeItemNodes.{AreGathered, gathered_none, gathered_all, gathered_beside}
use Rattle.ig_forest.proofs.item_nodes.Sources.gather.Goals as goal

pub loop-turn-init : goal.loop-turn-init
loop-turn-init c =
    let low = c.lowest-begin.ensures in
    record {
      within = omega (arith, low);
      gathered =
          let same : c.lowest-begin.result ≡ c.lowest-begin.result + 0 = omega arith in
          subst (λ (n : ℕ). AreGathered c.args.self.now c.args.further.now c.lowest-begin.result n c.clear.new.self.items) same
          (gathered_none c.args.self.now c.args.further.now c.lowest-begin.result c.clear.new.self.items (search rules));
    }

pub next_place-place-requires-clause-left : goal.next_place-place-requires-clause-left
next_place-place-requires-clause-left c none =
    let lt = c.loop-turn-test.true in
    omega (arith, lt, none)

pub taken-requires : goal.taken-requires
taken-requires c = c.requires _ (Contains-get_or c.args.further.now c.next_place-place.result _ c.next_place-place.ensures.there)

pub loop-turn-preserved : goal.loop-turn-preserved
loop-turn-preserved c =
    let next =
    gathered_beside c.args.self.now c.args.further.now c.loop-turn.begin c.loop-turn.turn c.next_place-place.result c.least-begin.result _
    c.loop-turn.entries.items c.push.new.self.items c.next_place-place.ensures.beside c.next_place-place.ensures.there c.loop-turn.invariant.within
    c.least-begin.ensures.first c.least-begin.ensures.second
    (c.in_ok-push.ensures.items ∙ ap (λ (e : Entry). c.loop-turn.entries.items ++ e ∷ []) c.taken.ensures)
    c.loop-turn.invariant.gathered in
    record { within = next.0; gathered = next.1 }

pub returns : goal.returns
returns c =
    let end = c.loop-turn-test.false in
    let within = c.loop-turn.invariant.within in
    gathered_all c.args.self.now c.args.further.now c.loop-turn.begin (c.loop-turn.begin + c.loop-turn.turn) c.loop-turn.entries.items
    (omega (arith, end, within)) (omega (arith, end)) c.loop-turn.invariant.gathered
