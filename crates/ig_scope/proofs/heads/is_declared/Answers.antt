use Rattle.std.proofs.Common.{sym, ◌∙◌, refl, Some, None, false}
use Rattle.std.specs.Prelude.{nat_lt}
use Rattle.ig_scope.proofs.Repeats.{before_told}
use Rattle.ig_scope.proofs.heads.is_declared.Goals as goal

pub returns-in-Some : goal.returns-in-Some
returns-in-Some c =
    before_told c.args.head.now.declarations.now c.args.head.now.before c.args.head.now.decl.now.name (Some c.in-Some.place) (nat_lt c.in-Some.place c.args.head.now.before)
    (sym c.in-Some.is ∙ c.place_of.ensures) refl

pub returns-in-None : goal.returns-in-None
returns-in-None c =
    before_told c.args.head.now.declarations.now c.args.head.now.before c.args.head.now.decl.now.name None false (sym c.in-None.is ∙ c.place_of.ensures) refl
