use Rattle.std.proofs.Common.{refl, ap, sym, ◌∙◌, true≢false}
use Rattle.ig_grammar.specs.Symbol.{gathered}
use Rattle.ig_grammar.specs.Visible.{inside_sequence}
use Rattle.ig_scope.proofs.Levels.{alternative_passed, alternative_stopped, alternative_free}
use Rattle.ig_scope.proofs.alternatives.check_alternative.Goals as goal

pub returns-then-is_passed-clause-told : goal.returns-then-is_passed-clause-told
returns-then-is_passed-clause-told c =
    (refl, refl, alternative_passed c.args.numbered.now.declarations.now c.args.numbered.now.decl.now c.args.alternative.now (c.is_passed.ensures.0 c.if-is_passed.true))

pub returns-in_err-walk_sequence-clause-told : goal.returns-in_err-walk_sequence-clause-told
returns-in_err-walk_sequence-clause-told c =
    alternative_stopped c.args.numbered.now.declarations.now c.args.numbered.now.decl.now c.args.numbered.now.number c.args.alt c.args.alternative.now
    (inside_sequence c.args.variables.now (gathered c.args.alternative.now.symbols)) c.in_err-walk_sequence.field-0.0 c.from_residual.result c.from_residual.ensures.1
    (λ m. true≢false (sym (c.is_passed.ensures.1 m) ∙ c.if-is_passed.false))
    (ap (λ v. inside_sequence v (gathered c.args.alternative.now.symbols)) c.requires.visible) c.in_err-walk_sequence.ensures

pub returns-clause-told : goal.returns-clause-told
returns-clause-told c =
    alternative_free c.args.numbered.now.declarations.now c.args.numbered.now.decl.now c.args.alternative.now
    (inside_sequence c.args.variables.now (gathered c.args.alternative.now.symbols)) (λ m. true≢false (sym (c.is_passed.ensures.1 m) ∙ c.if-is_passed.false))
    (ap (λ v. inside_sequence v (gathered c.args.alternative.now.symbols)) c.requires.visible) c.in_ok-walk_sequence.ensures.1
