use Rattle.ig_load.proofs.Inputs.{first_written, one_more}
use Rattle.ig_load.proofs.input.bytes_of.Goals as goal

pub loop-init : goal.loop-init
loop-init c =
    first_written c.new-bytes.result.items c.push.new.self.items c.args.size c.args.number c.next_state-state.result c.operand.result
    c.next_state-state.ensures c.operand.ensures c.new-bytes.ensures.items c.in_ok-push.ensures.items

pub loop-preserved : goal.loop-preserved
loop-preserved c =
    one_more c.loop.bytes.items c.push-in-loop.new.self.items c.push-in-loop-2.new.self.items _ c.args.size c.loop.counter c.loop.state
    c.next_state-state-in-loop.result c.next_state-state-in-loop-2.result c.loop.invariant c.loop-test.true c.next_state-state-in-loop.ensures
    c.next_state-state-in-loop-2.ensures (rw (← c.operator.ensures) c.in_ok-push-2.ensures.items)
    (rw (← c.operand-in-loop.ensures) c.in_ok-push-3.ensures.items)
