use Rattle.std.proofs.Common.{◌≡◌, ◌+◌, ◌∙◌, ℕ, ap, sym, subst, cond, take, ◌||◌, Err}
use Rattle.ig_grammar.specs.WellScoped.{DeclarationHas}
use Rattle.ig_scope.specs.Causes.{NoneHolds}
use Rattle.ig_scope.specs.Heads.{count_names, have_layout}
use Rattle.ig_scope.specs.Told.{AreFree, TellsDeclaration, TellsDeclarations}
use Rattle.ig_scope.proofs.Checks.{free_more, declarations_stopped, named_more, layout_more}
use Rattle.ig_scope.proofs.checking.check_declarations.Goals as goal
use Rattle.ig_scope.proofs.checking.check_declarations.Goals.{then-is_name, else-is_name}

pub loop-before-preserved : goal.loop-before-preserved
loop-before-preserved c =
    let same = c.as_slice-decls.ensures in
    let d = c.index-decls-before.result in
    let i = c.loop-before.before in
    record {
      free =
          subst (λ z. AreFree z (i + 1)) same
          (free_more c.as_slice-decls.result.now i d c.loop-before-test.true c.index-decls-before.is (subst (λ z. AreFree z i) (sym same) c.loop-before.invariant.free)
          (subst (λ z. (a k : ℕ) → NoneHolds (DeclarationHas z i d a k)) (sym same) c.in_ok-check_declaration.ensures));
      named = elim c.if-is_name.branch [
        | then-is_name w ↦
            subst (λ z. c.if-is_name.named ≡ count_names (take (i + 1) z)) same
            (named_more c.as_slice-decls.result.now i c.loop-before.named c.if-is_name.named d c.is_name.result c.loop-before-test.true c.index-decls-before.is
            c.is_name.ensures (subst (λ z. c.loop-before.named ≡ count_names (take i z)) (sym same) c.loop-before.invariant.named)
            (w.named-is ∙ ap (λ b. cond b (c.loop-before.named + 1) c.loop-before.named) (sym w.if-is_name.true)))
        | else-is_name w ↦
            subst (λ z. c.if-is_name.named ≡ count_names (take (i + 1) z)) same
            (named_more c.as_slice-decls.result.now i c.loop-before.named c.if-is_name.named d c.is_name.result c.loop-before-test.true c.index-decls-before.is
            c.is_name.ensures (subst (λ z. c.loop-before.named ≡ count_names (take i z)) (sym same) c.loop-before.invariant.named)
            (w.named-is ∙ ap (λ b. cond b (c.loop-before.named + 1) c.loop-before.named) (sym w.if-is_name.false)))
      ];
      layout =
          subst (λ z. (c.loop-before.has_layout || c.is_layout-has_layout.result) ≡ have_layout (take (i + 1) z)) same
          (layout_more c.as_slice-decls.result.now i d c.loop-before.has_layout c.is_layout-has_layout.result c.loop-before-test.true c.index-decls-before.is
          (subst (λ z. c.loop-before.has_layout ≡ have_layout (take i z)) (sym same) c.loop-before.invariant.layout) c.is_layout-has_layout.ensures);
    }

pub returns-in_err-check_declaration : goal.returns-in_err-check_declaration
returns-in_err-check_declaration c =
    let same = c.as_slice-decls.ensures in
    let d = c.index-decls-before.result in
    let i = c.loop-before.before in
    subst (λ z. TellsDeclarations z c.from_residual.result) same
    (declarations_stopped c.as_slice-decls.result.now i d c.in_err-check_declaration.field-0.0 c.from_residual.result c.from_residual.ensures.1
    c.loop-before-test.true c.index-decls-before.is (subst (λ z. AreFree z i) (sym same) c.loop-before.invariant.free)
    (subst (λ z. TellsDeclaration z d i {T = Unit {0}} (Err c.in_err-check_declaration.field-0.0)) (sym same) c.in_err-check_declaration.ensures))
