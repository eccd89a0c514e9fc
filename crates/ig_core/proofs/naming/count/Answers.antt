use Rattle.std.proofs.Common.{arith, sym, ◌∙◌, ap}
use Rattle.ig_pass.specs.Rooted.{is_root}
use Rattle.ig_core.proofs.Building.{count_more, count_same}
use Rattle.ig_core.proofs.naming.count.Goals as goal
use Rattle.ig_core.proofs.naming.count.Goals.{then-not-is_root, else-not-is_root}

pub loop-index-preserved : goal.loop-index-preserved
loop-index-preserved c =
    elim c.if-not-is_root.branch [
      | then-not-is_root w ↦ (
        count_more c.args.decls.now c.args.checked.now.shapes c.loop-index.index c.index-decls-index.result _ c.loop-index.number c.if-not-is_root.number
            c.requires.beside c.loop-index-test.true c.index-decls-index.is (sym (c.is_root.ensures ∙ ap is_root c.shape_behind.ensures) ∙ w.if-not-is_root.true) c.loop-index.invariant.0
            w.number-is,
        (let a = w.number-is in let b = c.loop-index.invariant.1 in omega arith),
      )
      | else-not-is_root w ↦ (
        count_same c.args.decls.now c.args.checked.now.shapes c.loop-index.index c.index-decls-index.result _ c.loop-index.number c.if-not-is_root.number
            c.requires.beside c.loop-index-test.true c.index-decls-index.is (sym (c.is_root.ensures ∙ ap is_root c.shape_behind.ensures) ∙ w.if-not-is_root.false) c.loop-index.invariant.0
            w.number-is,
        (let a = w.number-is in let b = c.loop-index.invariant.1 in omega arith),
      )
    ]
