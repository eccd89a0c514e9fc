use Rattle.std.proofs.Common.{◌+◌, ◌∙◌, arith, length, refl, subst, sym}
use Rattle.std.specs.Prelude.{Contains, Ok, Err}
use Rattle.ig_item.specs.declared.core_grammar.Nonterminal.{Nonterminal}
use Rattle.ig_item.specs.declared.ways.Way.TheVariants.{Begin}
use Rattle.ig_engine.specs.Adding.{Pushes}
use Rattle.ig_engine.specs.Reached.{reached}
use Rattle.ig_engine.proofs.Adding.{adds_stops, pushes_of}
use Rattle.ig_engine.proofs.Firsts.{no_firsts, begins, goes, is_new, ends, stops, mapped_some, mapped_none}
use Rattle.ig_engine.proofs.events.add_firsts.Goals as goal

pub returns-in_default-clause-adds : goal.returns-in_default-clause-adds
returns-in_default-clause-adds g c =
    no_firsts c.laws.ensures.tables c.args.context.now.core.now c.args.node c.args.key c.args.context.now.budget (reached c.args.state.now.envs.keys c.args.state.now.stacks c.args.state.now.found) c.requires.tables c.requires.there (mapped_none (λ (n : Nonterminal). length n.alternatives) _ c.in_default.ensures)

pub loop-alternative-init : goal.loop-alternative-init
loop-alternative-init g c = record { envs = refl; stacks = refl; indexed = refl; adds = begins c.laws.ensures.tables c.args.context.now.core.now c.args.node c.args.key c.args.context.now.budget (reached c.args.state.now.envs.keys c.args.state.now.stacks c.args.state.now.found) c.requires.tables c.requires.there }

pub push-requires : goal.push-requires
push-requires g c =
    let m = mapped_some (λ (n : Nonterminal). length n.alternatives) _ c.in-Some.count c.in-Some.ensures in
    subst (λ z. Contains c.loop-alternative.state.found.items z → ⊥) (sym c.first_item-first.ensures)
    (is_new c.laws.ensures.tables c.args.context.now.core.now c.args.node c.args.key c.args.context.now.budget (reached c.args.state.now.envs.keys c.args.state.now.stacks c.args.state.now.found) c.requires.tables c.requires.there c.loop-alternative.alternative m.0 c.loop-alternative.state.found m.1 (let e = m.2 in omega (arith, e, c.loop-alternative-test.true)) c.loop-alternative.invariant.adds c.requires.new)

pub returns-in_err-push-clause-adds : goal.returns-in_err-push-clause-adds
returns-in_err-push-clause-adds g c =
    let m = mapped_some (λ (n : Nonterminal). length n.alternatives) _ c.in-Some.count c.in-Some.ensures in
    let f = c.in_err-push.field-0.0 in
    adds_stops _ c.args.context.now.budget (reached c.args.state.now.envs.keys c.args.state.now.stacks c.args.state.now.found) (reached c.args.state.now.envs.keys c.args.state.now.stacks c.push.new.self) c.from_residual.result f c.from_residual.ensures.1
    (stops c.laws.ensures.tables c.args.context.now.core.now c.args.node c.args.key c.args.context.now.budget (reached c.args.state.now.envs.keys c.args.state.now.stacks c.args.state.now.found) c.requires.tables c.requires.there (c.loop-alternative.alternative + 1) (reached c.args.state.now.envs.keys c.args.state.now.stacks c.push.new.self) f
    (goes c.laws.ensures.tables c.args.context.now.core.now c.args.node c.args.key c.args.context.now.budget (reached c.args.state.now.envs.keys c.args.state.now.stacks c.args.state.now.found) c.requires.tables c.requires.there c.loop-alternative.alternative m.0 c.loop-alternative.state.found m.1 (let e = m.2 in omega (arith, e, c.loop-alternative-test.true)) c.loop-alternative.invariant.adds c.requires.new c.push.new.self (Err f)
    (subst (λ z. Pushes c.loop-alternative.state.found c.push.new.self z Begin c.args.context.now.budget (Err f)) c.first_item-first.ensures
    (pushes_of c.loop-alternative.state.found c.push.new.self c.first_item-first.result Begin c.args.context.now.budget (Err f) c.in_err-push.ensures.pushed c.in_err-push.ensures.within c.in_err-push.ensures.over))))

pub loop-alternative-preserved : goal.loop-alternative-preserved
loop-alternative-preserved g c =
    let m = mapped_some (λ (n : Nonterminal). length n.alternatives) _ c.in-Some.count c.in-Some.ensures in
    record {
      envs = c.loop-alternative.invariant.envs;
      stacks = c.loop-alternative.invariant.stacks;
      indexed = c.in_ok-push.ensures.indexed ∙ c.loop-alternative.invariant.indexed;
      adds = goes c.laws.ensures.tables c.args.context.now.core.now c.args.node c.args.key c.args.context.now.budget (reached c.args.state.now.envs.keys c.args.state.now.stacks c.args.state.now.found) c.requires.tables c.requires.there c.loop-alternative.alternative m.0 c.loop-alternative.state.found m.1 (let e = m.2 in omega (arith, e, c.loop-alternative-test.true)) c.loop-alternative.invariant.adds c.requires.new c.push.new.self (Ok tt)
          (subst (λ z. Pushes c.loop-alternative.state.found c.push.new.self z Begin c.args.context.now.budget (Ok tt)) c.first_item-first.ensures
          (pushes_of c.loop-alternative.state.found c.push.new.self c.first_item-first.result Begin c.args.context.now.budget (Ok tt) c.in_ok-push.ensures.pushed c.in_ok-push.ensures.within tt));
    }

pub returns-clause-adds : goal.returns-clause-adds
returns-clause-adds g c =
    let m = mapped_some (λ (n : Nonterminal). length n.alternatives) _ c.in-Some.count c.in-Some.ensures in
    ends c.laws.ensures.tables c.args.context.now.core.now c.args.node c.args.key c.args.context.now.budget (reached c.args.state.now.envs.keys c.args.state.now.stacks c.args.state.now.found) c.requires.tables c.requires.there c.loop-alternative.alternative m.0 _ m.1 (let e = m.2 in omega (arith, e, c.loop-alternative-test.false, c.loop-alternative.auto.alternative-end)) c.loop-alternative.invariant.adds
