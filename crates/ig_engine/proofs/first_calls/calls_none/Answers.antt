use Rattle.std.proofs.Common.{◌-◌, ℕ, arith, map, subst}
use Rattle.std.specs.Prelude.{false, true, ◌≡◌}
use Rattle.ig_item.specs.View.{step_of}
use Rattle.ig_engine.proofs.FirstCalls.{all_none, none_further, one_there}
use Rattle.ig_engine.proofs.first_calls.calls_none.Goals as goal

pub loop-number-init : goal.loop-number-init
loop-number-init c = λ k le lt call. omega (arith, le, lt)

pub returns-then-is_call_in : goal.returns-then-is_call_in
returns-then-is_call_in c =
    let k : ℕ = c.loop-number.number - 1 in
    one_there (map step_of c.args.steps.now) k c.args.dot
    (omega (arith, c.loop-number-test.true, c.loop-number.auto.number)) (c.is_call_in.ensures.0 c.if-is_call_in.true)

pub loop-number-preserved : goal.loop-number-preserved
loop-number-preserved c =
    let k : ℕ = c.loop-number.number - 1 in
    none_further (map step_of c.args.steps.now) k c.loop-number.number c.args.dot (omega (arith, c.loop-number-test.true))
    c.loop-number.invariant
    (λ call. let q : false ≡ true = subst (λ z. z ≡ true) c.if-is_call_in.false (c.is_call_in.ensures.1 call) in cc)

pub returns : goal.returns
returns c =
    all_none (map step_of c.args.steps.now) c.loop-number.number c.args.dot (omega (arith, c.loop-number-test.false))
    c.loop-number.invariant
