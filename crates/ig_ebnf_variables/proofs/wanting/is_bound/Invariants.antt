use Rattle.std.proofs.Common.{◌≡◌, drop, map}
use Rattle.ig_grammar.specs.Binding.{binding_of}
use Rattle.ig_pass.specs.Needs.{is_bound}
use Rattle.ig_ebnf_variables.proofs.wanting.is_bound.Given as goal

abbrev pub invariant-loop-bound : goal.invariant-loop-bound
invariant-loop-bound l =
    is_bound l.name (map binding_of (drop l.bound-index l.bindings)) ≡ is_bound l.name (map binding_of l.bindings)
