use Rattle.std.proofs.Common.{◌≡◌, drop, map}
use Rattle.ig_grammar.specs.Binding.{binding_of}
use Rattle.ig_pass.specs.Needs.{bindings_use}
use Rattle.ig_ebnf_variables.proofs.wanting.bindings_use.Given as goal

abbrev pub invariant-loop-value : goal.invariant-loop-value
invariant-loop-value l =
    bindings_use l.name (map binding_of (drop l.value-index l.bindings)) ≡ bindings_use l.name
    (map binding_of l.bindings)
