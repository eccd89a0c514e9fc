use Rattle.std.proofs.Common.{◌≡◌, ◌∙◌, ℕ, List, true, false, IfOk, Some, refl, sym, ap, subst}
use Rattle.ig_grammar.specs.Symbol.{Symbol}
use Rattle.ig_grammar.specs.View.{symbol_of}
use Rattle.ig_grammar.specs.declared.declaration.Decl.{Decl}
use Rattle.ig_grammar.specs.declared.declaration.DeclKind.{DeclKind}
use Rattle.ig_grammar.specs.declared.declaration.DeclKind.TheVariants.{Syntax, Lexical, Layout, Plain}
use Rattle.ig_lexical.specs.Layout.{is_syntax, laid, laid_in}
use Rattle.ig_lexical.proofs.layout.LaidOwnRule.apply.Goals as goal

in_syntax : (w : List ℕ) (decls : List Decl) (kind : DeclKind) (x : Symbol) → is_syntax kind ≡ true →
    laid decls w x ≡ laid_in (Some w) decls kind x
in_syntax w decls Syntax x e = refl
in_syntax w decls Lexical x e = absurd (cc)
in_syntax w decls Layout x e = absurd (cc)
in_syntax w decls Plain x e = absurd (cc)

in_others : (w : List ℕ) (decls : List Decl) (kind : DeclKind) (x : Symbol) → is_syntax kind ≡ false →
    x ≡ laid_in (Some w) decls kind x
in_others w decls Syntax x e = absurd (cc)
in_others w decls Lexical x e = refl
in_others w decls Layout x e = refl
in_others w decls Plain x e = refl

pub returns-then-is_syntax : goal.returns-then-is_syntax
returns-then-is_syntax c =
    let decls = c.args.self.now.guide.now in
    let kind = c.args.decl.now.kind in
    let x = symbol_of c.args.symbol in
    subst (λ y. IfOk c.lay.result (λ r. symbol_of r ≡ y))
    (in_syntax c.in-Some.layout.now decls kind x (sym c.is_syntax.ensures ∙ c.if-is_syntax.true) ∙
    ap (λ o. laid_in o decls kind x) (sym c.in-Some.ensures)) c.lay.ensures

pub returns-else-is_syntax : goal.returns-else-is_syntax
returns-else-is_syntax c =
    let decls = c.args.self.now.guide.now in
    let kind = c.args.decl.now.kind in
    let x = symbol_of c.args.symbol in
    in_others c.in-Some.layout.now decls kind x (sym c.is_syntax.ensures ∙ c.if-is_syntax.false) ∙
    ap (λ o. laid_in o decls kind x) (sym c.in-Some.ensures)
