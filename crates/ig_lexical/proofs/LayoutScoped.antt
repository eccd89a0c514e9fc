-- The layout pass keeps a grammar well scoped.
use Rattle.std.proofs.Common.{◌≡◌, ℕ, suc, List, [], Option, Some, None, refl, sym, subst, inr}
use Rattle.ig_text.proofs.Emptiness.{empty_unless}
use Rattle.ig_grammar.specs.Symbol.{Symbol, Call}
use Rattle.ig_grammar.specs.Visible.{Visible}
use Rattle.ig_grammar.specs.Regular.{AlternativesHaveNoMark, OfEachLevel}
use Rattle.ig_grammar.specs.Condition.{declaration_of}
use Rattle.ig_grammar.specs.Condition as meets
use Rattle.ig_grammar.specs.Numbering.{layout_among}
use Rattle.ig_grammar.specs.WellScoped.{IsWellScoped}
use Rattle.ig_grammar.specs.declared.declaration.DeclKind.{DeclKind}
use Rattle.ig_grammar.specs.declared.declaration.DeclKind.TheVariants.{Syntax, Lexical, Layout, Plain}
use Rattle.ig_grammar.specs.declared.grammar.Grammar.{Grammar}
use Rattle.ig_pass.specs.Found.{DeclarationsAreFound}
use Rattle.ig_lexical.specs.Layout.{laid_in, laid_grammar}
use Rattle.ig_pass.specs.Asked.{Fit, Asks}
use Rattle.ig_pass.specs.Passing.{ResultsAreReady}
use Rattle.ig_lexical.proofs.Keeping.{Keeps, same_keeps, laid_keeps}
use Rattle.ig_pass.specs.Binders.{binders}
use Rattle.ig_lexical.proofs.Counting.{laid_binders}
use Rattle.ig_lexical.proofs.RewrittenScoped.{KeepsKinds, heads, turned_is_well_scoped}

pub plain_kinds : KeepsKinds (λ kind. Plain)
plain_kinds = record { kept = λ k. inr refl; lexical = λ k i. absurd i; syntax = λ k e. cc; layout = λ k e. cc }

module _ (passes : ResultsAreReady) (found : DeclarationsAreFound) (g : Grammar) (scoped : IsWellScoped g) (none : OfEachLevel AlternativesHaveNoMark g) where
  layout_asks : (w : List ℕ) → layout_among g.decls ≡ Some w → (v : Visible) → Asks g.decls Syntax v (Call w [])
  layout_asks w e v =
      let l = found.layout g.decls w e in
      let none = empty_unless l.1.params (λ some. scoped (record { decl = suc l.0; alt = 0; symbol = 0 }) meets.LayoutNotPlain (l.1, l.2, meets.layout_not_plain l.4 (meets.parametrized some))) in
      record {
        callee = l.1;
        declared = subst (λ n. declaration_of g.decls n ≡ Some l.1) l.3 (found.itself g.decls (found.distinct g scoped) l.0 l.1 l.2);
        fit = subst (Fit v []) (sym none) tt;
        allowed = λ i. absurd i;
      }

  keeps_in : (kind : DeclKind) → Keeps (Asks g.decls kind) (heads g kind) (laid_in (layout_among g.decls) g.decls kind)
  keeps_in kind = go (layout_among g.decls) refl kind
    where
      go : (o : Option (List ℕ)) → layout_among g.decls ≡ o → (kind : DeclKind) → Keeps (Asks g.decls kind) (heads g kind) (laid_in o g.decls kind)
      go (Some w) e Syntax = laid_keeps (Asks g.decls Syntax) (heads g Syntax) g.decls w (λ v xs. tt) (layout_asks w e)
      go (Some w) e Lexical = same_keeps (Asks g.decls Lexical) (heads g Lexical)
      go (Some w) e Layout = same_keeps (Asks g.decls Layout) (heads g Layout)
      go (Some w) e Plain = same_keeps (Asks g.decls Plain) (heads g Plain)
      go None e kind = same_keeps (Asks g.decls kind) (heads g kind)

  binders_in : (kind : DeclKind) (x : Symbol) → binders (laid_in (layout_among g.decls) g.decls kind x) ≡ binders x
  binders_in kind x = go (layout_among g.decls) kind
    where
      go : (o : Option (List ℕ)) (kind : DeclKind) → binders (laid_in o g.decls kind x) ≡ binders x
      go (Some w) Syntax = laid_binders g.decls w x
      go (Some w) Lexical = refl
      go (Some w) Layout = refl
      go (Some w) Plain = refl
      go None kind = refl

  pub laid_is_well_scoped : IsWellScoped (laid_grammar g)
  laid_is_well_scoped =
      turned_is_well_scoped passes found (λ kind. Plain) (λ decl. laid_in (layout_among g.decls) g.decls decl.kind) plain_kinds g scoped none
      (λ decl. keeps_in decl.kind) (λ decl x. binders_in decl.kind x)
