use Rattle.ig_show.specs.CanonicalText.{declaration_pieces, separated}
use Rattle.std.proofs.Common.{drop, []}
use Rattle.std.specs.Prelude.{string_bytes}
use Rattle.ig_show.proofs.Steps.{Ahead}
use Rattle.ig_show.proofs.grammar.push_declarations.Given as goal

abbrev pub invariant-loop-decl : goal.invariant-loop-decl
invariant-loop-decl l =
    Ahead (string_bytes l.fn.out) (string_bytes l.out) (separated [] declaration_pieces l.fn.decls) (separated [] declaration_pieces (drop l.decl-index l.decls))
