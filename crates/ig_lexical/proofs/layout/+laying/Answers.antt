use Rattle.std.proofs.Common.{◌≡◌, ◌∙◌, IfOk, sym, ap, subst}
use Rattle.std.specs.Prelude.{if◌then◌else◌}
use Rattle.ig_grammar.specs.Symbol.{Label, Filtered}
use Rattle.ig_grammar.specs.View.{symbol_of}
use Rattle.ig_lexical.specs.Layout.{then_layout, laid_inside}
use Rattle.ig_lexical.proofs.layout.+laying.Goals as goal

pub lay_inside-returns-in_ok-inside-in-Label : goal.lay_inside-returns-in_ok-inside-in-Label
lay_inside-returns-in_ok-inside-in-Label t c =
    let laid = laid_inside c.args.guide.now c.args.layout.now in
    subst (λ y. IfOk c.relabelled.result (λ r. symbol_of r ≡ y))
    (ap (λ y. Label c.in-Label.name y) (c.in_ok-inside-in-Label.ensures ∙ ap laid c.into_symbol.ensures) ∙
    ap (λ s. laid (symbol_of s)) (sym c.in-Label.is)) c.relabelled.ensures

pub lay_inside-returns-in-Filtered : goal.lay_inside-returns-in-Filtered
lay_inside-returns-in-Filtered t c =
    let laid = laid_inside c.args.guide.now c.args.layout.now in
    subst (λ y. IfOk c.lay_filtered.result (λ r. symbol_of r ≡ y))
    (ap (λ s. laid (symbol_of s)) (sym c.in-Filtered.is)) c.lay_filtered.ensures

pub lay_filtered-returns-in-Ok : goal.lay_filtered-returns-in-Ok
lay_filtered-returns-in-Ok t c =
    let laid = laid_inside c.args.guide.now c.args.layout.now in
    subst (λ y. IfOk c.refiltered.result (λ r. symbol_of r ≡ y))
    (ap (λ y. Filtered y c.args.filters) (c.in-Ok.ensures ∙ ap laid c.into_symbol.ensures)) c.refiltered.ensures

pub lay-returns-then-is_token : goal.lay-returns-then-is_token
lay-returns-then-is_token t c =
    let x = symbol_of c.args.symbol in
    let w = c.args.layout.now in
    subst (λ b. IfOk c.then_layout.result (λ r.
    symbol_of r ≡ (if b then then_layout w x else laid_inside c.args.guide.now w x)))
    (sym c.if-is_token.true ∙ c.is_token.ensures) c.then_layout.ensures

pub lay-returns-else-is_token : goal.lay-returns-else-is_token
lay-returns-else-is_token t c =
    let x = symbol_of c.args.symbol in
    let w = c.args.layout.now in
    subst (λ b. IfOk c.lay_inside.result (λ r.
    symbol_of r ≡ (if b then then_layout w x else laid_inside c.args.guide.now w x)))
    (sym c.if-is_token.false ∙ c.is_token.ensures) c.lay_inside.ensures
