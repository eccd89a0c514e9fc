use Rattle.std.proofs.Common.{◌≡◌, drop, map}
use Rattle.ig_grammar.specs.Binding.{binding_of}
use Rattle.ig_ebnf_variables.specs.Lists.{argument}
use Rattle.ig_ebnf_variables.proofs.entries.argument.Given as goal

abbrev pub invariant-loop-bound : goal.invariant-loop-bound
invariant-loop-bound l =
    argument (map binding_of (drop l.bound-index l.bindings)) l.name ≡ argument (map binding_of l.bindings) l.name
