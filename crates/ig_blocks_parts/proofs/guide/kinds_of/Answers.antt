use Rattle.std.proofs.Common.{◌≡◌, ◌∙◌, suc, ◌-◌, arith, sym}
use Rattle.std.proofs.lemmas.Option.{get_or_from_slice_get}
use Rattle.ig_text.proofs.Lists.{get_within}
use Rattle.ig_text.proofs.Characters.{word_bytes}
use Rattle.ig_grammar.specs.declared.place.Shape.TheVariants.{Rule}
use Rattle.ig_blocks_parts.proofs.KindTable.{kinds_more, kinds_same}
use Rattle.ig_blocks_parts.proofs.guide.kinds_of.Goals as goal

pub loop-index-preserved-in_ok-insert : goal.loop-index-preserved-in_ok-insert
loop-index-preserved-in_ok-insert c =
    let i = c.loop-index.index - 1 in
    let next : c.loop-index.index ≡ suc i = omega (arith, c.loop-index-test.true) in
    kinds_more c.args.decls.now c.args.checked.now.shapes c.loop-index.index i c.index-decls-index.result Rule c.shape_behind.result
    c.requires.beside next c.loop-index.auto.index c.index-decls-index.is c.shape_behind.ensures
    c.loop-index.kinds c.insert.new.self c.as_str.result.now (sym c.is_root.ensures ∙ c.if-not-is_root.true) c.loop-index.invariant
    (word_bytes c.as_str.result.now c.index-decls-index.result.name c.as_str.utf8 c.as_str.ensures) c.in_ok-insert.ensures.updates

pub loop-index-preserved : goal.loop-index-preserved
loop-index-preserved c =
    let i = c.loop-index.index - 1 in
    let next : c.loop-index.index ≡ suc i = omega (arith, c.loop-index-test.true) in
    let at = get_within c.args.decls.now i (omega (arith, next, c.loop-index.auto.index)) in
    kinds_same c.args.decls.now c.args.checked.now.shapes c.loop-index.index i at.0 Rule c.shape_behind.result
    c.requires.beside next c.loop-index.auto.index (sym (get_or_from_slice_get c.args.decls.now i at.0 at.0 at.1)) c.shape_behind.ensures
    c.loop-index.kinds (sym c.is_root.ensures ∙ c.if-not-is_root.false) c.loop-index.invariant
