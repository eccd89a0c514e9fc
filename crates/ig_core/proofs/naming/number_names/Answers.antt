use Rattle.std.proofs.Common.{arith, refl, sym, ◌∙◌, ap}
use Rattle.ig_text.proofs.Characters.{word_bytes}
use Rattle.ig_pass.specs.Rooted.{is_root}
use Rattle.ig_core.proofs.NameNumbers.{numbers_begin, names_more, names_same, next_more, next_same}
use Rattle.ig_core.proofs.naming.number_names.Goals as goal
use Rattle.ig_core.proofs.naming.number_names.Goals.{then-not-is_root+in_ok-insert, else-not-is_root}

pub loop-index-init : goal.loop-index-init
loop-index-init c = (numbers_begin c.new-numbers.result c.new-numbers.ensures.empty, refl, omega arith)

pub loop-index-preserved : goal.loop-index-preserved
loop-index-preserved c =
    elim c.if-not-is_root.branch [
      | then-not-is_root+in_ok-insert w ↦ (
        names_more c.args.decls.now c.args.checked.now.shapes c.loop-index.index c.index-decls-index.result _ c.loop-index.numbers _ c.if-not-is_root.numbers
            w.as_str.result.now c.loop-index.next c.requires.beside c.requires.distinct c.loop-index-test.true c.index-decls-index.is
            (sym (c.is_root.ensures ∙ ap is_root c.shape_behind.ensures) ∙ w.if-not-is_root.true) c.loop-index.invariant.0 c.loop-index.invariant.1
            (word_bytes w.as_str.result.now c.index-decls-index.result.name w.as_str.utf8 w.as_str.ensures) w.in_ok-insert.ensures.updates w.numbers-is,
        next_more c.args.decls.now c.args.checked.now.shapes c.loop-index.index c.index-decls-index.result _ c.loop-index.next c.if-not-is_root.next
            c.requires.beside c.loop-index-test.true c.index-decls-index.is (sym (c.is_root.ensures ∙ ap is_root c.shape_behind.ensures) ∙ w.if-not-is_root.true) c.loop-index.invariant.1
            w.next-is,
        (let a = w.next-is in let b = c.loop-index.invariant.2 in omega arith),
      )
      | else-not-is_root w ↦ (
        names_same c.args.decls.now c.args.checked.now.shapes c.loop-index.index c.index-decls-index.result _ c.loop-index.numbers c.if-not-is_root.numbers
            c.requires.beside c.loop-index-test.true c.index-decls-index.is (sym (c.is_root.ensures ∙ ap is_root c.shape_behind.ensures) ∙ w.if-not-is_root.false) c.loop-index.invariant.0
            w.numbers-is,
        next_same c.args.decls.now c.args.checked.now.shapes c.loop-index.index c.index-decls-index.result _ c.loop-index.next c.if-not-is_root.next
            c.requires.beside c.loop-index-test.true c.index-decls-index.is (sym (c.is_root.ensures ∙ ap is_root c.shape_behind.ensures) ∙ w.if-not-is_root.false) c.loop-index.invariant.1
            w.next-is,
        (let a = w.next-is in let b = c.loop-index.invariant.2 in omega arith),
      )
    ]
