use Rattle.std.proofs.Common.{sym, subst, map, drop, ◌+◌}
use Rattle.ig_item.specs.View.{step_of}
use Rattle.ig_analyse.proofs.Adding.{IsAlone, next_step, adds_alone, passes_over, adds_last, stops_before}
use Rattle.ig_analyse.proofs.edges.push_alones.Goals as goal
use Rattle.ig_analyse.proofs.edges.push_alones.Goals.{then-left-eq0+in_ok-push_callee-2, else-left-eq0}

pub returns-in_ok-push_callee : goal.returns-in_ok-push_callee
returns-in_ok-push_callee c =
    adds_last c.args.nullable.now c.args.row.now.items c.loop-step.row.items c.args.alternative.now.steps (step_of c.step-item.result) _ _
    (subst (λ z. IsAlone c.args.nullable.now c.args.row.now.items c.loop-step.row.items c.args.alternative.now.steps z c.full-left.result)
    (next_step c.as_slice-step-items.result.now c.loop-step.step-index c.step-item.result c.loop-step-test.true c.step-item.is)
    c.loop-step.invariant)
    _ (sym c.if-not-passes.ensures) c.if-left-eq1.true c.in_ok-push_callee.ensures

pub returns-else-left-eq1 : goal.returns-else-left-eq1
returns-else-left-eq1 c =
    stops_before c.args.nullable.now c.args.row.now.items c.loop-step.row.items c.args.alternative.now.steps (step_of c.step-item.result) _ _
    (subst (λ z. IsAlone c.args.nullable.now c.args.row.now.items c.loop-step.row.items c.args.alternative.now.steps z c.full-left.result)
    (next_step c.as_slice-step-items.result.now c.loop-step.step-index c.step-item.result c.loop-step-test.true c.step-item.is)
    c.loop-step.invariant)
    (sym c.if-not-passes.ensures) c.if-left-eq1.false

pub loop-step-preserved : goal.loop-step-preserved
loop-step-preserved c =
    let here =
    subst (λ z. IsAlone c.args.nullable.now c.args.row.now.items c.loop-step.row.items c.args.alternative.now.steps z c.full-left.result)
    (next_step c.as_slice-step-items.result.now c.loop-step.step-index c.step-item.result c.loop-step-test.true c.step-item.is)
    c.loop-step.invariant in
    elim c.if-left-eq0.branch [
      | then-left-eq0+in_ok-push_callee-2 w ↦
          subst (λ z. IsAlone c.args.nullable.now c.args.row.now.items z.items c.args.alternative.now.steps
          (map step_of (drop (c.loop-step.step-index + 1) c.as_slice-step-items.result.now)) c.full-left.result) (sym w.row-is)
          (adds_alone c.args.nullable.now c.args.row.now.items c.loop-step.row.items c.args.alternative.now.steps (step_of c.step-item.result)
          _ _ here _ (sym c.if-not-passes.ensures) w.if-left-eq0.true w.in_ok-push_callee-2.ensures)
      | else-left-eq0 w ↦
          subst (λ z. IsAlone c.args.nullable.now c.args.row.now.items z.items c.args.alternative.now.steps
          (map step_of (drop (c.loop-step.step-index + 1) c.as_slice-step-items.result.now)) c.full-left.result) (sym w.row-is)
          (passes_over c.args.nullable.now c.args.row.now.items c.loop-step.row.items c.args.alternative.now.steps (step_of c.step-item.result)
          _ _ here (sym c.if-not-passes.ensures) w.if-left-eq0.false)
    ]
