-- What a call with the pair asks.
use Rattle.std.proofs.Common.{◌≡◌, ◌∙◌, ℕ, zero, suc, Bool, true, false, List, [], ◌∷◌, ◌++◌, length, Some, None, refl, sym, ap, subst, inl, inr}
use Rattle.std.specs.Prelude.{◌⊎◌, slice_get}
use Rattle.std.proofs.lemmas.List.{append-nil}
use Rattle.ig_text.proofs.Lists.{at_from_contains}
use Rattle.ig_expr.specs.Expression.{Expression}
use Rattle.ig_grammar.specs.Visible.{Visible}
use Rattle.ig_grammar.specs.Symbol.{Call}
use Rattle.ig_grammar.specs.declared.declaration.DeclKind.{DeclKind}
use Rattle.ig_grammar.specs.declared.declaration.DeclKind.TheVariants.{Syntax, Lexical, Layout, Plain}
use Rattle.ig_grammar.specs.declared.declaration.Decl.{Decl}
use Rattle.ig_grammar.specs.declared.grammar.Grammar.{Grammar}
use Rattle.ig_grammar.specs.declared.place.Shape.{Shape}
use Rattle.ig_grammar.specs.declared.place.Shape.TheVariants as shape
use Rattle.ig_pass.specs.Found.{DeclarationsAreFound}
use Rattle.ig_pass.specs.Rooted.{is_root}
use Rattle.ig_blocks_parts.specs.Setting.{Setting, Pair, m_of, f_of, extra, extra_by}
use Rattle.ig_blocks_parts.specs.Body.{arguments_of}
use Rattle.ig_blocks_parts.specs.Blocks.{int_param, declaration_by, lowered_declaration, lowered_declarations, setting_of}
use Rattle.ig_blocks_parts.proofs.Reading.{Reads, AllRead}
use Rattle.ig_blocks_parts.proofs.Suiting.{IsGood, called_kind}
use Rattle.ig_blocks_parts.proofs.Taking.{not_root, root_or_not}
use Rattle.ig_blocks_parts.proofs.Declared.{Undeclared, Declared, declared_by}
use Rattle.ig_pass.specs.Asked.{Fit, Calls, AsksElsewhere}
use Rattle.std.proofs.lemmas.Option.{same_Some}
use Rattle.ig_blocks_parts.proofs.Sights.{SeeSame, IsPair, margin_kind, first_kind, kind_same}

pub read_at : (s : Setting) (es : List Expression) (k : ℕ) (e : Expression) → AllRead s es → slice_get es k ≡ Some e → Reads s e
read_at s [] k e r at = cc
read_at s (d ∷ es) zero e r at = let same : d ≡ e = cc in subst (Reads s) same r.0
read_at s (d ∷ es) (suc k) e r at = read_at s es k e r.1 at

-- the pair fits the parameters that a declaration gets
extra_fit : (s : Setting) (p : Pair) (w : Visible) → IsPair s w p → (b : Bool) →
    Fit w (extra_by b (m_of s p) (f_of s p)) (extra_by b (int_param s.m) (int_param s.f))
extra_fit s p w pair false = tt
extra_fit s p w pair true = (margin_kind s w p pair, (first_kind s w p pair, tt))

pub arguments_are : (s : Setting) (p : Pair) (kind : DeclKind) (arguments : List Expression) → s.paired Lexical ≡ false →
    arguments ++ extra s kind (m_of s p) (f_of s p) ≡ arguments_of s p (Some kind) arguments
arguments_are s p Lexical arguments e = ap (λ z. arguments ++ extra_by z (m_of s p) (f_of s p)) e ∙ append-nil arguments
arguments_are s p Syntax arguments e = refl
arguments_are s p Layout arguments e = refl
arguments_are s p Plain arguments e = refl

module _ (elsewhere : AsksElsewhere) (found : DeclarationsAreFound) (g : Grammar) (shapes : List Shape) (counted : length shapes ≡ length g.decls)
    (place : (n k : ℕ) (d e : Decl) → slice_get g.decls n ≡ Some d → slice_get g.decls k ≡ Some e → d.name ≡ e.name → n ≡ k) where
  abbrev s : Setting
  s = setting_of g.decls shapes

  abbrev lowered : List Decl
  lowered = lowered_declarations s shapes g.decls

  pub call_asks : (c : DeclKind) (p : Pair) (v w : Visible) → SeeSame s v w → IsPair s w p → (name : List ℕ) (arguments : List Expression) → AllRead s arguments →
      IsGood g shapes c v (Call name arguments) → Calls lowered c w name (arguments_of s p (s.kind_of name) arguments)
  call_asks c p v w seen pair name arguments read good = go (declared_by found s g.decls shapes name counted)
    where
      made : (d : Declared s g.decls shapes name) → (d.shape ≡ shape.Root) ⊎ (is_root d.shape ≡ false) → lowered_declaration s d.shape d.d ≡ declaration_by s d.d
      made d (inl e) = absurd (good.uncalled d.n d.d arguments d.at (d.shaped ∙ ap Some e) (ap (λ z. Call z arguments) (sym d.named)))
      made d (inr e) = not_root s d.shape d.d e

      asks : Calls g.decls c v name arguments
      asks = good.asks

      go : Undeclared s g.decls shapes name ⊎ Declared s g.decls shapes name → Calls lowered c w name (arguments_of s p (s.kind_of name) arguments)
      go (inl u) = let clash : Some asks.callee ≡ None = sym asks.declared ∙ u.before in absurd (cc)
      go (inr d) =
          let same : asks.callee ≡ d.d = same_Some asks.callee d.d (sym asks.declared ∙ d.before) in
          let kind = called_kind found g shapes counted place c v name arguments d.d good d.before in
          record {
            callee = declaration_by s d.d;
            declared = d.after ∙ ap Some (made d (root_or_not d.shape));
            fit = subst (λ z. Fit w z (declaration_by s d.d).params) (arguments_are s p d.d.kind arguments refl ∙ ap (λ z. arguments_of s p z arguments) (sym kind))
                (elsewhere.fit_more w arguments (extra s d.d.kind (m_of s p) (f_of s p)) d.d.params (extra s d.d.kind (int_param s.m) (int_param s.f))
                (elsewhere.fit_still v w arguments d.d.params
                (λ e m. let k = at_from_contains arguments e m in sym (kind_same s v w seen e (read_at s arguments k.0 e read k.1)))
                (subst (λ (z : Decl). Fit v arguments z.params) same asks.fit))
                (extra_fit s p w pair (s.paired d.d.kind)));
            allowed = λ l k. asks.allowed l (ap (λ (z : Decl). z.kind) same ∙ k);
          }
