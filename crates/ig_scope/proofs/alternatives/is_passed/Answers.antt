use Rattle.std.proofs.Common.{sym, ◌∙◌, subst}
use Rattle.std.specs.Prelude.{IsTrue, ◌↔◌}
use Rattle.ig_grammar.specs.Visible.{parameters}
use Rattle.ig_scope.specs.Binders.{HasTooMany}
use Rattle.ig_text.proofs.Options.{is_missing}
use Rattle.ig_scope.proofs.Levels.{passed_told, uncounted}
use Rattle.ig_scope.proofs.alternatives.is_passed.Goals as goal

pub returns-in-Some : goal.returns-in-Some
returns-in-Some c =
    subst (λ b. IsTrue b ↔ HasTooMany c.args.numbered.now.decl.now c.args.alternative.now) (is_missing c.leave_sequence.result c.is_none.result c.is_none.ensures)
    (passed_told c.args.numbered.now.decl.now c.args.alternative.now c.in-Some.room c.leave_sequence.result c.args.numbered.now.few
    (sym c.in-Some.is ∙ c.args.numbered.now.left) (c.leave_sequence.ensures (parameters c.args.numbered.now.decl.now.params)))

pub returns-in-None : goal.returns-in-None
returns-in-None c =
    uncounted c.args.numbered.now.decl.now c.args.alternative.now (sym c.in-None.is ∙ c.args.numbered.now.left)
