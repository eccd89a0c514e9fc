use Rattle.std.proofs.Common.{◌≡◌, drop, map}
use Rattle.ig_grammar.specs.Binding.{binding_of}
use Rattle.ig_grammar.specs.Visible.{replaced}
use Rattle.ig_grammar.proofs.variables.Variables.replaced.Given as goal

abbrev pub invariant-loop-name : goal.invariant-loop-name
invariant-loop-name l =
    replaced l.self l.variables (map binding_of (drop l.name-index l.name-items)) ≡ replaced l.self l.self (map binding_of l.name-items)
