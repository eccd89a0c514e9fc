use Rattle.ig_grammar.specs.Binding.{binding_of}
use Rattle.ig_show.specs.CanonicalText.{bindings_pieces}
use Rattle.std.proofs.Common.{drop, map}
use Rattle.std.specs.Prelude.{string_bytes}
use Rattle.ig_show.proofs.Steps.{Ahead}
use Rattle.ig_show.proofs.symbols.push_bindings.Given as goal

abbrev pub invariant-loop-binding : goal.invariant-loop-binding
invariant-loop-binding l =
    Ahead (string_bytes l.fn.out) (string_bytes l.out) (bindings_pieces (map binding_of l.fn.bindings)) (bindings_pieces (map binding_of (drop l.binding-index l.bindings)))
