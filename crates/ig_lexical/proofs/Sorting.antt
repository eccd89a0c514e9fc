-- The kinds of declarations, before the layout pass and after it.
use Rattle.std.proofs.Common.{◌≡◌, ◌∙◌, ℕ, List, true, false, Option, Some, None, refl, sym, ap, subst}
use Rattle.std.specs.Prelude.{◌≢◌}
use Rattle.ig_text.specs.Input.{Input}
use Rattle.ig_text.specs.Tree.{Tree, Trees, none}
use Rattle.ig_text.proofs.Lists.{from_map}
use Rattle.ig_expr.specs.declared.value.Value.{Value}
use Rattle.ig_grammar.specs.Symbol.{Symbol}
use Rattle.ig_grammar.specs.Numbering.{layout_among}
use Rattle.ig_grammar.specs.Condition.{declaration_of}
use Rattle.ig_grammar.specs.WellScoped.{IsWellScoped}
use Rattle.ig_meaning.specs.Derivation.{Instance, Trails, alternative, layout, no_layout, outside}
use Rattle.ig_grammar.specs.declared.declaration.DeclKind.{DeclKind}
use Rattle.ig_grammar.specs.declared.declaration.DeclKind.TheVariants.{Syntax, Lexical, Layout, Plain}
use Rattle.ig_grammar.specs.declared.grammar.Grammar.{Grammar}
use Rattle.ig_grammar.specs.declared.place.Shape.{Shape}
use Rattle.ig_pass.specs.Found.{DeclarationsAreFound}
use Rattle.ig_lexical.specs.Layout.{is_lexical, declares_lexical, laid, laid_in, laid_declaration, laid_grammar}
use Rattle.ig_lexical.proofs.Tight.{IsTight}
use Rattle.ig_lexical.proofs.Laying.{Decides}
use Rattle.ig_lexical.proofs.LayingBack.{AllPlain}

pub lexical_kind : (kind : DeclKind) → is_lexical kind ≡ true → kind ≡ Lexical
lexical_kind Lexical e = refl
lexical_kind Syntax e = absurd (cc)
lexical_kind Layout e = absurd (cc)
lexical_kind Plain e = absurd (cc)

other_kind : (kind : DeclKind) → is_lexical kind ≡ false → kind ≢ Lexical
other_kind Lexical e = absurd (cc)
other_kind Syntax e = λ f. cc
other_kind Layout e = λ f. cc
other_kind Plain e = λ f. cc

module _ (found : DeclarationsAreFound) (g : Grammar) (scoped : IsWellScoped g) (shapes : List Shape) (text : Input) where
  instance_kind : (name : List ℕ) (vs : List Value) (kind : DeclKind) (i e : ℕ) (t : Tree) (ks : List ℕ) → Instance g shapes text name vs kind i e t ks →
      declares_lexical (declaration_of g.decls name) ≡ is_lexical kind
  instance_kind name vs kind i e t ks (alternative _ _ _ d k decl shape a env after _ _ ts _ _ declares numbered bound same covers tree) =
      ap declares_lexical (subst (λ z. declaration_of g.decls z ≡ Some decl) declares.named (found.itself g.decls (found.distinct g scoped) declares.numbered.0 decl declares.numbered.2)) ∙ ap is_lexical (sym same)

  pub decided : (h : Grammar) (forms : List Shape) → Decides g shapes h forms text
  decided h forms =
      record {
        lexical = λ name q vs kind i e t ks instance. lexical_kind kind (sym (instance_kind name vs kind i e t ks instance) ∙ q);
        other = λ name q vs kind i e t ks instance. other_kind kind (sym (instance_kind name vs kind i e t ks instance) ∙ q);
      }

pub all_plain : (g : Grammar) (forms : List Shape) (text : Input) → AllPlain (laid_grammar g) forms text
all_plain g forms text name vs kind i e t ks (alternative _ _ _ d k decl shape a env after _ _ ts _ _ declares numbered bound same covers tree) =
    let r = from_map (laid_declaration g.decls) g.decls declares.numbered.0 decl declares.numbered.2 in
    same ∙ ap (λ z. z.kind) r.2

outside_tight : (g : Grammar) (shapes : List Shape) (text : Input) (c : DeclKind) → c ≢ Syntax → IsTight g shapes text c
outside_tight g shapes text c other = record { nothing = λ e j ts trails. go c other e j ts trails; allowed = λ e. outside c e other }
  where
    go : (c : DeclKind) → c ≢ Syntax → (e j : ℕ) (ts : Trees) → Trails g shapes text c e j ts → (e ≡ j) × (ts ≡ none)
    go c other e j ts (layout _ _ _ _ _ _ _ _) = absurd (other refl)
    go c other e j ts (no_layout _ _) = absurd (other refl)
    go c other e j ts (outside _ _ _) = (refl, refl)

unlaid_tight : (g : Grammar) (shapes : List Shape) (text : Input) → layout_among g.decls ≡ None → IsTight g shapes text Syntax
unlaid_tight g shapes text unlaid = record { nothing = go; allowed = λ e. no_layout e unlaid }
  where
    go : (e j : ℕ) (ts : Trees) → Trails g shapes text Syntax e j ts → (e ≡ j) × (ts ≡ none)
    go e j ts (layout name _ _ _ _ _ declared _) = absurd (let f : None ≡ Some name = sym unlaid ∙ declared in cc)
    go e j ts (no_layout _ _) = (refl, refl)
    go e j ts (outside _ _ _) = (refl, refl)

pub plain_tight : (g : Grammar) (shapes : List Shape) (text : Input) → IsTight g shapes text Plain
plain_tight g shapes text = outside_tight g shapes text Plain (λ e. cc)

-- in a declaration of the kind either layout is declared and it is a syntax declaration, or nothing stands behind a token
pub data Sort (g : Grammar) (shapes : List Shape) (text : Input) : DeclKind → (Symbol → Symbol) → Type 0 where
  laid_sort : (w : List ℕ) → layout_among g.decls ≡ Some w → Sort g shapes text Syntax (laid g.decls w)
  tight_sort : (c : DeclKind) → IsTight g shapes text c → Sort g shapes text c (λ x. x)

pub sort_of : (g : Grammar) (shapes : List Shape) (text : Input) (c : DeclKind) → Sort g shapes text c (laid_in (layout_among g.decls) g.decls c)
sort_of g shapes text c = go (layout_among g.decls) refl c
  where
    go : (o : Option (List ℕ)) → layout_among g.decls ≡ o → (c : DeclKind) → Sort g shapes text c (laid_in o g.decls c)
    go (Some w) e Syntax = laid_sort w e
    go (Some w) e Lexical = tight_sort Lexical (outside_tight g shapes text Lexical (λ f. cc))
    go (Some w) e Layout = tight_sort Layout (outside_tight g shapes text Layout (λ f. cc))
    go (Some w) e Plain = tight_sort Plain (outside_tight g shapes text Plain (λ f. cc))
    go None e Syntax = tight_sort Syntax (unlaid_tight g shapes text e)
    go None e Lexical = tight_sort Lexical (outside_tight g shapes text Lexical (λ f. cc))
    go None e Layout = tight_sort Layout (outside_tight g shapes text Layout (λ f. cc))
    go None e Plain = tight_sort Plain (outside_tight g shapes text Plain (λ f. cc))
