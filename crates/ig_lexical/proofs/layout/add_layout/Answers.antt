use Rattle.std.proofs.Common.{◌≡◌, ◌∙◌, IfOk, true, sym, ap, subst}
use Rattle.std.specs.Prelude.{if◌then◌else◌}
use Rattle.ig_grammar.specs.Checked.{CheckedGrammar, FitShapes}
use Rattle.ig_grammar.specs.WellScoped.{IsWellScoped}
use Rattle.ig_grammar.specs.declared.declaration.DeclKind.TheVariants.{Syntax}
use Rattle.ig_pass.specs.Rooted.{has_root, rooted, with_root}
use Rattle.ig_lexical.specs.Layout.{laid_of}
use Rattle.ig_lexical.proofs.layout.add_layout.Goals as goal

stays : (c : CheckedGrammar) → has_root c.shapes ≡ true → rooted Syntax c ≡ c
stays c e = ap (λ b. if b then c else with_root Syntax c) e

pub lay_rooted-requires : goal.lay_rooted-requires
lay_rooted-requires c =
    let g = c.args.checked.now in
    let k = c.layout_keeps.ensures g c.requires.sound c.requires.free c.requires.unmarked in
    let e = stays g (sym c.has_root.ensures ∙ c.if-has_root.true) in
    record {
      scoped = subst (λ z. IsWellScoped (laid_of z).grammar) e k.sound.scoped;
      fit = subst (λ z. FitShapes (laid_of z).grammar (laid_of z).shapes) e k.sound.fit;
    }

pub lay_rooted-requires-2 : goal.lay_rooted-requires-2
lay_rooted-requires-2 c =
    let k = c.layout_keeps.ensures c.args.checked.now c.requires.sound c.requires.free c.requires.unmarked in
    record {
      scoped = subst (λ z. IsWellScoped (laid_of z).grammar) (sym c.in_ok-rooted.ensures) k.sound.scoped;
      fit = subst (λ z. FitShapes (laid_of z).grammar (laid_of z).shapes) (sym c.in_ok-rooted.ensures) k.sound.fit;
    }

pub returns-then-has_root : goal.returns-then-has_root
returns-then-has_root c =
    let e = stays c.args.checked.now (sym c.has_root.ensures ∙ c.if-has_root.true) in
    subst (λ z. IfOk c.lay_rooted.result (λ r. r ≡ laid_of z)) (sym e) c.lay_rooted.ensures

pub returns : goal.returns
returns c = subst (λ z. IfOk c.lay_rooted-2.result (λ r. r ≡ laid_of z)) c.in_ok-rooted.ensures c.lay_rooted-2.ensures
