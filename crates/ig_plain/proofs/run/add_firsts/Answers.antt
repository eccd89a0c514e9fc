use Rattle.std.proofs.Common.{arith, length}
use Rattle.ig_item.specs.declared.core_grammar.Nonterminal.{Nonterminal}
use Rattle.ig_plain.proofs.Additions.{adds_stops}
use Rattle.ig_plain.proofs.Firsts.{no_firsts, records_none, begins, records_begins, next_named, goes, records_goes, is_new, ends, records_ends, stops, mapped_some, mapped_none}
use Rattle.ig_plain.proofs.run.add_firsts.Goals as goal

pub returns-in_default-clause-adds : goal.returns-in_default-clause-adds
returns-in_default-clause-adds c =
    no_firsts c.args.context.now.core.now c.args.instance c.args.key c.args.context.now.budget c.args.found.now c.requires.there
    (mapped_none (λ (n : Nonterminal). length n.alternatives) _ c.in_default.ensures)

pub returns-in_default-clause-ways : goal.returns-in_default-clause-ways
returns-in_default-clause-ways c =
    records_none c.args.context.now.core.now c.args.instance c.args.key c.args.context.now.budget c.args.found.now c.requires.there c.args.trail.now
    (mapped_none (λ (n : Nonterminal). length n.alternatives) _ c.in_default.ensures)

pub loop-alternative-init : goal.loop-alternative-init
loop-alternative-init c =
    record {
      adds = begins c.args.context.now.core.now c.args.instance c.args.key c.args.context.now.budget c.args.found.now c.requires.there;
      ways = records_begins c.args.context.now.core.now c.args.instance c.args.key c.args.context.now.budget c.args.found.now c.requires.there c.args.trail.now;
    }

pub add_new-requires-clause-named : goal.add_new-requires-clause-named
add_new-requires-clause-named c =
    let m = mapped_some (λ (n : Nonterminal). length n.alternatives) _ c.in-Some.count c.in-Some.ensures in
    next_named c.args.context.now.core.now c.args.instance c.args.key c.args.context.now.budget c.args.found.now c.requires.there
    c.loop-alternative.alternative m.0 c.loop-alternative.found m.1 (let e = m.2 in omega (arith, e, c.loop-alternative-test.true)) c.loop-alternative.invariant.adds.grows
    c.first_item-first.result c.first_item-first.ensures

pub add_new-requires-clause-new : goal.add_new-requires-clause-new
add_new-requires-clause-new c =
    let m = mapped_some (λ (n : Nonterminal). length n.alternatives) _ c.in-Some.count c.in-Some.ensures in
    is_new c.args.context.now.core.now c.args.instance c.args.key c.args.context.now.budget c.args.found.now c.requires.there
    c.loop-alternative.alternative m.0 c.loop-alternative.found m.1 (let e = m.2 in omega (arith, e, c.loop-alternative-test.true)) c.loop-alternative.invariant.adds.grows
    c.first_item-first.result c.first_item-first.ensures c.requires.new

pub returns-in_err-add_new-clause-adds : goal.returns-in_err-add_new-clause-adds
returns-in_err-add_new-clause-adds c =
    let m = mapped_some (λ (n : Nonterminal). length n.alternatives) _ c.in-Some.count c.in-Some.ensures in
    adds_stops c.args.key.start _ c.args.context.now.budget c.args.found.now c.add_new.new.found c.from_residual.result c.in_err-add_new.field-0.0 c.from_residual.ensures.1
    (stops c.args.context.now.core.now c.args.instance c.args.key c.args.context.now.budget c.args.found.now c.requires.there _ m.0 c.add_new.new.found c.in_err-add_new.field-0.0
    (goes c.args.context.now.core.now c.args.instance c.args.key c.args.context.now.budget c.args.found.now c.requires.there
    c.loop-alternative.alternative m.0 c.loop-alternative.found m.1 (let e = m.2 in omega (arith, e, c.loop-alternative-test.true)) c.loop-alternative.invariant.adds.grows c.first_item-first.result c.first_item-first.ensures c.add_new.new.found _
    c.loop-alternative.invariant.adds c.in_err-add_new.ensures.adds))

pub loop-alternative-preserved : goal.loop-alternative-preserved
loop-alternative-preserved c =
    let m = mapped_some (λ (n : Nonterminal). length n.alternatives) _ c.in-Some.count c.in-Some.ensures in
    record {
      adds = goes c.args.context.now.core.now c.args.instance c.args.key c.args.context.now.budget c.args.found.now c.requires.there
          c.loop-alternative.alternative m.0 c.loop-alternative.found m.1 (let e = m.2 in omega (arith, e, c.loop-alternative-test.true)) c.loop-alternative.invariant.adds.grows c.first_item-first.result c.first_item-first.ensures c.add_new.new.found _
          c.loop-alternative.invariant.adds c.in_ok-add_new.ensures.adds;
      ways = records_goes c.args.context.now.core.now c.args.instance c.args.key c.args.context.now.budget c.args.found.now c.requires.there
          c.loop-alternative.alternative m.0 c.loop-alternative.found m.1 (let e = m.2 in omega (arith, e, c.loop-alternative-test.true)) c.loop-alternative.invariant.adds.grows c.first_item-first.result c.first_item-first.ensures c.add_new.new.found
          c.args.trail.now c.loop-alternative.trail c.add_new.new.trail c.loop-alternative.invariant.ways c.in_ok-add_new.ensures.ways;
    }

pub returns-clause-adds : goal.returns-clause-adds
returns-clause-adds c =
    let m = mapped_some (λ (n : Nonterminal). length n.alternatives) _ c.in-Some.count c.in-Some.ensures in
    ends c.args.context.now.core.now c.args.instance c.args.key c.args.context.now.budget c.args.found.now c.requires.there
    c.loop-alternative.alternative m.0 c.loop-alternative.found m.1
    (let e = m.2 in omega (arith, e, c.loop-alternative-test.false, c.loop-alternative.auto.alternative-end)) c.loop-alternative.invariant.adds

pub returns-clause-ways : goal.returns-clause-ways
returns-clause-ways c =
    let m = mapped_some (λ (n : Nonterminal). length n.alternatives) _ c.in-Some.count c.in-Some.ensures in
    records_ends c.args.context.now.core.now c.args.instance c.args.key c.args.context.now.budget c.args.found.now c.requires.there
    c.loop-alternative.alternative m.0 c.loop-alternative.found c.args.trail.now c.loop-alternative.trail m.1
    (let e = m.2 in omega (arith, e, c.loop-alternative-test.false, c.loop-alternative.auto.alternative-end)) c.loop-alternative.invariant.ways
