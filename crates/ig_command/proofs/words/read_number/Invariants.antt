use Rattle.std.proofs.Common.{◌≡◌, ◌≤◌, drop}
use Rattle.ig_command.specs.Commands.{number_of}
use Rattle.ig_command.proofs.Numbers.{number_behind}
use Rattle.ig_command.proofs.words.read_number.Given as goal

abbrev pub invariant-loop-digit : goal.invariant-loop-digit
invariant-loop-digit l =
    (l.number ≤ l.most) × (number_behind l.number l.least l.most (drop l.digit-index l.digit-items) ≡ number_of l.least l.most l.digits)
