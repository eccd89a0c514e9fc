use Rattle.std.proofs.Common.{◌≡◌, ◌∙◌, ◌+◌, ◌-◌, ap, refl, sym, subst, drop, arith, ℕ}
use Rattle.ig_text.proofs.Characters.{word_bytes}
use Rattle.ig_levels.specs.Levels.{is_levelled}
use Rattle.ig_levels.specs.Tables.{Tells}
use Rattle.ig_levels.proofs.Telling.{tells_more}
use Rattle.ig_levels.proofs.naming.levelled_names.Goals as goal

pub loop-index-preserved : goal.loop-index-preserved
loop-index-preserved c =
    let above = c.loop-index-test.true in
    let least = c.loop-index.auto.index in
    let i : ℕ = c.loop-index.index - 1 in
    let next : i + 1 ≡ c.loop-index.index = omega (arith, above) in
    tells_more c.loop-index.table _ c.insert.new.self c.args.decls.now i c.index-decls-index.result c.as_str.result.now c.is_levelled-levelled.result (omega (arith, above, least))
    c.index-decls-index.is (subst (λ z. Tells c.loop-index.table (drop z c.args.decls.now)) (sym next) c.loop-index.invariant)
    (word_bytes c.as_str.result.now c.index-decls-index.result.name c.as_str.utf8 c.as_str.ensures)
    (c.is_levelled-levelled.ensures ∙ ap is_levelled c.as_slice.ensures) c.in_ok-insert.ensures.updates refl
