use Rattle.std.proofs.Common.{◌≡◌, ◌≤◌, drop}
use Rattle.ig_w3c_syntax.specs.View.{meanings}
use Rattle.ig_w3c_syntax.specs.declared.machine.State.TheVariants.{Begin as begin}
use Rattle.ig_w3c_syntax.specs.Machine.{run}
use Rattle.ig_w3c_syntax.proofs.machine.stop.Given as goal

abbrev pub invariant-loop-number : goal.invariant-loop-number
invariant-loop-number l =
    (run l.number l.state l.brackets (meanings (drop l.number l.fn.tokens)) ≡ run 0 begin 0 (meanings l.fn.tokens)) × (l.brackets ≤ l.number)
