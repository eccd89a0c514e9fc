use Rattle.std.proofs.Common.{sym, subst}
use Rattle.ig_scope.specs.Places.{AreNumbered}
use Rattle.ig_scope.specs.Told.{TellsDeclarations}
use Rattle.ig_scope.proofs.Bounds.{are_numbered}
use Rattle.ig_scope.proofs.Checks.{grammar_told}
use Rattle.ig_scope.proofs.checking.check_declared.Goals as goal

pub check_declarations-requires : goal.check_declarations-requires
check_declarations-requires c = subst AreNumbered (sym c.requires.same) (are_numbered c.counts_by_form.ensures c.args.grammar.now c.requires.regular)

pub returns : goal.returns
returns c =
    grammar_told c.args.grammar.now c.check_declarations.result c.in_default.ensures
    (subst (λ z. TellsDeclarations z c.check_declarations.result) c.requires.same c.check_declarations.ensures)
