-- The shapes of a grammar fit it after the layout pass.
use Rattle.std.proofs.Common.{◌≡◌, ◌∙◌, ℕ, List, [], ◌∷◌, Option, Some, None, Bool, true, false, map, refl, sym, ap, subst}
use Rattle.std.specs.Prelude.{◌≢◌, All, slice_get, if◌then◌else◌}
use Rattle.std.proofs.lemmas.List.Elements.{All-nil, All-cons, All-map}
use Rattle.ig_grammar.specs.Symbol.{Symbol, Call, Seq}
use Rattle.ig_grammar.specs.Symbol.{listed}
use Rattle.ig_grammar.specs.Regular.{AlternativesHaveNoMark, OfEachLevel}
use Rattle.ig_grammar.specs.Condition.{declaration_of}
use Rattle.ig_grammar.specs.Numbering.{layout_among}
use Rattle.ig_grammar.specs.WellScoped.{IsWellScoped}
use Rattle.ig_grammar.specs.Checked.{FitShapes, IsRoot, IsOfCalls, IsCall}
use Rattle.ig_grammar.specs.declared.declaration.DeclKind.{DeclKind}
use Rattle.ig_grammar.specs.declared.declaration.DeclKind.TheVariants.{Syntax, Lexical, Layout, Plain}
use Rattle.ig_grammar.specs.declared.declaration.Decl.{Decl}
use Rattle.ig_grammar.specs.declared.grammar.Grammar.{Grammar}
use Rattle.ig_grammar.specs.declared.place.Shape.{Shape}
use Rattle.ig_pass.specs.Rewriting.{rewritten}
use Rattle.ig_lexical.specs.Layout.{declares_lexical, then_layout, laid, laid_in, laid_grammar}
use Rattle.ig_pass.specs.Sound.{RootHasCallsAlone}
use Rattle.ig_pass.specs.Found.{DeclarationsAreFound}
use Rattle.ig_lexical.proofs.Keeping.{Keeps, same_keeps, laid_keeps}
use Rattle.ig_lexical.proofs.LayoutScoped.{plain_kinds}
use Rattle.ig_lexical.proofs.RewrittenShaped.{IsUncalled, heads, listed_rewritten, turned_fits}

plain_call : (x : Symbol) → IsCall x → IsCall (rewritten (λ y. y) x)
plain_call (Call name arguments) c = tt
plain_call x c = absurd c

plain_of_calls : (x : Symbol) → IsOfCalls x → IsOfCalls (rewritten (λ y. y) x)
plain_of_calls (Call name arguments) c = tt
plain_of_calls (Seq xs) c =
    subst (All IsCall) (sym (listed_rewritten (λ y. y) xs)) (All-map IsCall (rewritten (λ y. y)) (listed xs) (λ k d l. plain_call _ (c k d l)))
plain_of_calls x c = absurd c

laid_of_calls : (decls : List Decl) (w : List ℕ) (x : Symbol) → IsCall x → IsOfCalls (rewritten (laid decls w) x)
laid_of_calls decls w (Call name arguments) c = go (declares_lexical (declaration_of decls name))
  where
    go : (b : Bool) → IsOfCalls (if b then then_layout w (Call name arguments) else Call name arguments)
    go true = All-cons IsCall (Call name arguments) (Call w [] ∷ []) tt (All-cons IsCall (Call w []) [] tt (All-nil IsCall))
    go false = tt
laid_of_calls decls w x c = absurd c

module _ (found : DeclarationsAreFound) (g : Grammar) (shapes : List Shape) (scoped : IsWellScoped g) (none : OfEachLevel AlternativesHaveNoMark g) (fit : FitShapes g shapes)
    (alone : RootHasCallsAlone (record { grammar = g; shapes = shapes })) where
  abbrev own : Decl → Symbol → Symbol
  own decl = laid_in (layout_among g.decls) g.decls decl.kind

  keeps_in : (name : List ℕ) → ((w : List ℕ) → layout_among g.decls ≡ Some w → w ≢ name) → (kind : DeclKind) → Keeps (IsUncalled name) (heads name) (laid_in (layout_among g.decls) g.decls kind)
  keeps_in name apart kind = go (layout_among g.decls) refl kind
    where
      go : (o : Option (List ℕ)) → layout_among g.decls ≡ o → (kind : DeclKind) → Keeps (IsUncalled name) (heads name) (laid_in o g.decls kind)
      go (Some w) e Syntax =
          laid_keeps (IsUncalled name) (heads name) g.decls w (λ v xs arguments f. cc)
          (λ v arguments f. apart w e (let same : Call w [] ≡ Call name arguments = f in cc))
      go (Some w) e Lexical = same_keeps (IsUncalled name) (heads name)
      go (Some w) e Layout = same_keeps (IsUncalled name) (heads name)
      go (Some w) e Plain = same_keeps (IsUncalled name) (heads name)
      go None e kind = same_keeps (IsUncalled name) (heads name)

  apart : (before : ℕ) (decl : Decl) → slice_get g.decls before ≡ Some decl → IsRoot g shapes before decl → (w : List ℕ) → layout_among g.decls ≡ Some w → w ≢ decl.name
  apart before decl at root w e same =
      let l = found.layout g.decls w e in
      let one : declaration_of g.decls decl.name ≡ Some l.1 = subst (λ n. declaration_of g.decls n ≡ Some l.1) (l.3 ∙ same) (found.itself g.decls (found.distinct g scoped) l.0 l.1 l.2) in
      let both : Some l.1 ≡ Some decl = sym one ∙ found.itself g.decls (found.distinct g scoped) before decl at in
      root.no_layout (let d : l.1 ≡ decl = cc in ap (λ z. z.kind) (sym d) ∙ l.4)

  calls_kept : (decl : Decl) (xs : List Symbol) → All IsOfCalls xs → (decl.kind ≡ Syntax → All IsCall xs) → All IsOfCalls (map (rewritten (own decl)) xs)
  calls_kept decl xs all syntactic = go (layout_among g.decls) decl.kind syntactic
    where
      go : (o : Option (List ℕ)) (kind : DeclKind) → (kind ≡ Syntax → All IsCall xs) → All IsOfCalls (map (rewritten (laid_in o g.decls kind)) xs)
      go (Some w) Syntax f = All-map IsOfCalls (rewritten (laid g.decls w)) xs (λ k d l. laid_of_calls g.decls w _ (f refl k d l))
      go (Some w) Lexical f = All-map IsOfCalls (rewritten (λ y. y)) xs (λ k d l. plain_of_calls _ (all k d l))
      go (Some w) Layout f = All-map IsOfCalls (rewritten (λ y. y)) xs (λ k d l. plain_of_calls _ (all k d l))
      go (Some w) Plain f = All-map IsOfCalls (rewritten (λ y. y)) xs (λ k d l. plain_of_calls _ (all k d l))
      go None kind f = All-map IsOfCalls (rewritten (λ y. y)) xs (λ k d l. plain_of_calls _ (all k d l))

  pub laid_fits : FitShapes (laid_grammar g) shapes
  laid_fits =
      turned_fits (λ kind. Plain) (λ decl. laid_in (layout_among g.decls) g.decls decl.kind) plain_kinds g shapes none fit
      (λ before decl at rooted root. record {
        uncalled = λ other. keeps_in decl.name (apart before decl at root) other.kind;
        calls = λ a m. calls_kept decl a.symbols (root.calls a m) (λ syntactic. alone before decl a at rooted syntactic m);
      })
