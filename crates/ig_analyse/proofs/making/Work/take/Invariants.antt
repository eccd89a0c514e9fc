use Rattle.std.proofs.Common.{length, take}
use Rattle.ig_analyse.specs.Rules.{IsUsing}
use Rattle.ig_analyse.proofs.making.Work.take.Given as goal

abbrev pub invariant-loop-rule : goal.invariant-loop-rule
invariant-loop-rule l =
    IsUsing l.rules (length l.users.lists) l.users.lists l.self (take l.turn l.fn.self.found.items) l.number l.rule-iterator
