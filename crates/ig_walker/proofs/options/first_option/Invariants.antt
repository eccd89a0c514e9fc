use Rattle.ig_walker.specs.Options.{options}
use Rattle.ig_walker.specs.Walks.{Passed}
use Rattle.ig_walker.proofs.options.first_option.Given as goal

abbrev pub invariant-loop-number : goal.invariant-loop-number
invariant-loop-number l = Passed (options l.forest) l.goal l.from l.number
