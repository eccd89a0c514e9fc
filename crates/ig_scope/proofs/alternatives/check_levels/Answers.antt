use Rattle.std.proofs.Common.{◌≡◌, ◌<◌, ◌+◌, length, take, refl, sym, subst, ap, ◌∙◌, arith, Ok, Err}
use Rattle.std.specs.Prelude.{Contains}
use Rattle.std.proofs.lemmas.List.Elements.{All-nil}
use Rattle.ig_text.specs.Limits.{numbers_end}
use Rattle.ig_grammar.specs.Numbering.{alternatives}
use Rattle.ig_scope.specs.AlternativesTold.{TellsLevel, AlternativeFree}
use Rattle.ig_scope.proofs.Levels.{split_levels, more_levels, level_fits, level_within, levels_step, levels_stopped}
use Rattle.ig_scope.proofs.alternatives.check_levels.Goals as goal

pub check_level-requires-clause-numbers : goal.check_level-requires-clause-numbers
check_level-requires-clause-numbers c =
    let s = split_levels c.as_slice-level-items.result.now c.loop-level.level-index c.level-item.result c.loop-level-test.true c.level-item.is in
    subst (λ z. c.loop-level.before + length z < numbers_end) (sym c.as_slice.ensures)
    (level_fits c.as_slice-level-items.result.now (take c.loop-level.level-index c.as_slice-level-items.result.now) c.level-item.result c.loop-level.before s (let e = c.loop-level.invariant.told.0 in let z : c.loop-level.before ≡ length (alternatives (take c.loop-level.level-index c.as_slice-level-items.result.now)) = omega arith in z)
    (subst (λ z. length (alternatives z) < numbers_end) (sym c.as_slice-level-items.ensures) c.args.numbered.now.alternatives))

pub check_level-requires-clause-among : goal.check_level-requires-clause-among
check_level-requires-clause-among c = λ a m.
    let s = split_levels c.as_slice-level-items.result.now c.loop-level.level-index c.level-item.result c.loop-level-test.true c.level-item.is in
    subst (λ z. Contains (alternatives z) a) c.as_slice-level-items.ensures
    (level_within c.as_slice-level-items.result.now (take c.loop-level.level-index c.as_slice-level-items.result.now) c.level-item.result a s (subst (λ z. Contains z a) c.as_slice.ensures m))

pub returns-in_err-before : goal.returns-in_err-before
returns-in_err-before c =
    let s = split_levels c.as_slice-level-items.result.now c.loop-level.level-index c.level-item.result c.loop-level-test.true c.level-item.is in
    levels_stopped c.args.numbered.now.declarations.now c.args.numbered.now.decl.now c.args.numbered.now.number (alternatives (take c.loop-level.level-index c.as_slice-level-items.result.now)) c.level-item.result.alts s.rest c.loop-level.before c.in_err-before.field-0.0
    c.from_residual.result c.from_residual.ensures.1
    (ap alternatives (sym c.as_slice-level-items.ensures) ∙ s.whole) c.loop-level.invariant.told
    (subst (λ z. TellsLevel c.args.numbered.now c.loop-level.before z (Err c.in_err-before.field-0.0)) c.as_slice.ensures c.in_err-before.ensures.told)

pub loop-level-preserved : goal.loop-level-preserved
loop-level-preserved c = record {
  told =
      subst (λ z. TellsLevel c.args.numbered.now 0 z (Ok c.in_ok-before.before))
      (sym (more_levels c.as_slice-level-items.result.now c.loop-level.level-index c.level-item.result c.loop-level-test.true c.level-item.is))
      (levels_step c.args.numbered.now.declarations.now c.args.numbered.now.decl.now c.args.numbered.now.number (alternatives (take c.loop-level.level-index c.as_slice-level-items.result.now)) c.level-item.result.alts c.loop-level.before c.in_ok-before.before c.loop-level.invariant.told
      (subst (λ z. TellsLevel c.args.numbered.now c.loop-level.before z (Ok c.in_ok-before.before)) c.as_slice.ensures c.in_ok-before.ensures.told));
  visible = c.in_ok-before.ensures.kept ∙ c.loop-level.invariant.visible;
}

pub loop-level-init : goal.loop-level-init
loop-level-init c = record {
  told = (refl, All-nil (AlternativeFree c.args.numbered.now.declarations.now c.args.numbered.now.decl.now));
  visible = c.requires;
}
