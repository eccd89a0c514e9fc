use Rattle.std.proofs.Common.{◌≡◌, ℕ, ◌+◌, ◌-◌, Some, slice_get, subst, arith}
use Rattle.ig_scope.specs.Causes.{Tells}
use Rattle.ig_scope.specs.AtHeads.{HeadHas}
use Rattle.ig_scope.proofs.Checks.{few_parameters, declaration_told}
use Rattle.ig_scope.proofs.checking.check_declaration.Goals as goal

one_less : (n : ℕ) → n ≡ (n + 1) - 1
one_less n = omega arith

pub room_of-requires : goal.room_of-requires
room_of-requires c =
    few_parameters c.args.head.now.declarations.now c.args.head.now.before c.args.head.now.decl.now
    (subst (Tells (HeadHas c.args.head.now)) c.in_default.is c.in_ok-cause.ensures)

pub invariant_of-numbered : goal.invariant_of-numbered
invariant_of-numbered c = record {
  counted = omega arith;
  there =
      subst (λ k. slice_get c.args.head.now.declarations.now k ≡ Some c.args.head.now.decl.now) (one_less c.args.head.now.before)
      c.args.head.now.there;
  few =
      few_parameters c.args.head.now.declarations.now c.args.head.now.before c.args.head.now.decl.now
      (subst (Tells (HeadHas c.args.head.now)) c.in_default.is c.in_ok-cause.ensures);
  left = c.room_of.ensures;
  alternatives = c.requires.alternatives;
  symbols = c.requires.symbols;
}

pub returns : goal.returns
returns c =
    declaration_told c.args.head.now.declarations.now c.args.head.now.decl.now c.args.head.now.before c.check_alternatives.result
    (subst (Tells (HeadHas c.args.head.now)) c.in_default.is c.in_ok-cause.ensures)
    c.check_alternatives.ensures
