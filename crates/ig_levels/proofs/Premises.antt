-- What the proofs use of a checked grammar in which the added names are not bound.
use Rattle.std.proofs.Common.{◌≡◌, ℕ, suc, ◌<◌, Bool, true, false, cond, List, [], ◌∷◌, length, Some, refl, sym, ◌∙◌, ap, subst, arith}
use Rattle.std.specs.Prelude.{◌≢◌, Contains, slice_get, not}
use Rattle.std.proofs.lemmas.Option.{same_Some}
use Rattle.ig_text.specs.Words.{is_word}
use Rattle.ig_grammar.specs.declared.grammar.Grammar.{Grammar}
use Rattle.ig_grammar.specs.declared.declaration.Assoc.{Assoc}
use Rattle.ig_grammar.specs.declared.declaration.Assoc.TheVariants.{Free, Left, Right, Nonassoc}
use Rattle.ig_grammar.specs.declared.declaration.DeclKind.TheVariants.{Layout}
use Rattle.ig_grammar.specs.declared.declaration.Decl.{Decl}
use Rattle.ig_grammar.specs.declared.declaration.Level.{Level}
use Rattle.ig_grammar.specs.declared.place.Shape.{Shape}
use Rattle.ig_grammar.specs.declared.place.Shape.TheVariants.{Rule}
use Rattle.ig_grammar.specs.Checked.{FitShapes, IsOneFreeLevel}
use Rattle.ig_grammar.specs.Condition.{declaration_of, LayoutNotPlain, layout_not_plain, IsNotPlain}
use Rattle.ig_grammar.specs.Condition as plain
use Rattle.ig_grammar.specs.Names.{AreDistinct, names}
use Rattle.ig_grammar.specs.Numbering.{IsDeclaration, HasShape, Levelled, IsAlternative, layout_among}
use Rattle.ig_grammar.specs.WellScoped.{IsWellScoped}
use Rattle.ig_pass.specs.Found.{HasLayout, DeclarationsAreFound}
use Rattle.ig_levels.specs.Levels.{names_levelled, is_levelled, is_free}
use Rattle.ig_levels.proofs.WithBounds.{AllClear, ParametersOfSource}

-- a name is levelled where its declaration is
pub levelled_known : DeclarationsAreFound → (decls : List Decl) (name : List ℕ) (d : Decl) → declaration_of decls name ≡ Some d → names_levelled decls name ≡ is_levelled d.levels
levelled_known found [] name d e = absurd (cc)
levelled_known found (first ∷ others) name d e =
    go (is_word first.name name) (sym (found.first first others name) ∙ e) (levelled_known found others name d)
  where
    go : (b : Bool) → cond b (Some first) (declaration_of others name) ≡ Some d → (declaration_of others name ≡ Some d → names_levelled others name ≡ is_levelled d.levels) →
        cond b (is_levelled first.levels) (names_levelled others name) ≡ is_levelled d.levels
    go true e rest = ap (λ (z : Decl). is_levelled z.levels) (same_Some first d e)
    go false e rest = rest e

pub record Lowerable (g : Grammar) (shapes : List Shape) : Type 0 where
  pub distinct : AreDistinct (names g.decls)
  pub known : (k : ℕ) (decl : Decl) → slice_get g.decls k ≡ Some decl → names_levelled g.decls decl.name ≡ is_levelled decl.levels
  pub layout : (name : List ℕ) → layout_among g.decls ≡ Some name → HasLayout g.decls name
  -- a levelled declaration is a rule
  pub rules : (d : ℕ) (decl : Decl) (shape : Shape) → IsDeclaration g d decl → HasShape shapes d shape → is_levelled decl.levels ≡ true → shape ≡ Rule
  pub plain_layout : (d : ℕ) (decl : Decl) → IsDeclaration g d decl → decl.kind ≡ Layout → is_levelled decl.levels ≡ false
  pub parameters : (d : ℕ) (decl : Decl) → IsDeclaration g d decl → ParametersOfSource decl.params
  pub clear : (d : ℕ) (decl : Decl) (k : ℕ) (a : Levelled) → IsDeclaration g d decl → IsAlternative decl k a → AllClear a.alternative.symbols

-- no name that is bound or read in the grammar is one of the added ones
pub record IsClear (g : Grammar) : Type 0 where
  pub parameters : (d : ℕ) (decl : Decl) → IsDeclaration g d decl → ParametersOfSource decl.params
  pub clear : (d : ℕ) (decl : Decl) (k : ℕ) (a : Levelled) → IsDeclaration g d decl → IsAlternative decl k a → AllClear a.alternative.symbols

pub one_free : (levels : List Level) → IsOneFreeLevel levels → is_levelled levels ≡ false
one_free [] h = absurd h
one_free (level ∷ []) h = ap (λ z. not (is_free z)) h
one_free (level ∷ next ∷ others) h = absurd h

module _ (found : DeclarationsAreFound) (g : Grammar) (shapes : List Shape) (scoped : IsWellScoped g) (fit : FitShapes g shapes) (clear : IsClear g) where
  places : (d : ℕ) (decl : Decl) (shape : Shape) → (at : IsDeclaration g d decl) (shaped : HasShape shapes d shape) → slice_get shapes at.0 ≡ Some shape
  places d decl shape at shaped =
      let same : shaped.0 ≡ at.0 = (let e : suc shaped.0 ≡ suc at.0 = sym shaped.1 ∙ at.1 in omega (arith, e)) in
      subst (λ z. slice_get shapes z ≡ Some shape) same shaped.2

  pub only_rules : (d : ℕ) (decl : Decl) (shape : Shape) → IsDeclaration g d decl → HasShape shapes d shape → is_levelled decl.levels ≡ true → shape ≡ Rule
  only_rules d decl shape at shaped lev = go shape refl
    where
      other : shape ≢ Rule → ⊥
      other not_rule =
          let free : is_levelled decl.levels ≡ false = one_free decl.levels ((fit.each at.0 decl shape at.2 (places d decl shape at shaped)).level not_rule) in cc

      go : (s : Shape) → shape ≡ s → s ≡ Rule
      go Rule e = refl
      go s e = absurd (other (λ r. absurd (cc)))

  plain_layout : (d : ℕ) (decl : Decl) → IsDeclaration g d decl → decl.kind ≡ Layout → is_levelled decl.levels ≡ false
  plain_layout d decl at layout = go decl.levels refl
    where
      never : IsNotPlain g.decls at.0 decl → ⊥
      never bad = scoped (record { decl = suc at.0; alt = 0; symbol = 0 }) LayoutNotPlain (decl, at.2, layout_not_plain layout bad)

      free : (level : Level) → Contains decl.levels level → (assoc : Assoc) → level.assoc ≡ assoc → not (is_free assoc) ≡ false
      free level among Free e = refl
      free level among Left e = absurd (never (plain.associativity level among (λ f. let h : Left ≡ Free = sym e ∙ f in absurd (cc))))
      free level among Right e = absurd (never (plain.associativity level among (λ f. let h : Right ≡ Free = sym e ∙ f in absurd (cc))))
      free level among Nonassoc e = absurd (never (plain.associativity level among (λ f. let h : Nonassoc ≡ Free = sym e ∙ f in absurd (cc))))

      go : (levels : List Level) → decl.levels ≡ levels → is_levelled levels ≡ false
      go [] e = refl
      go (level ∷ []) e =
          free level (subst (λ (z : List Level). Contains z level) (sym e) (0, omega arith, refl)) level.assoc refl
      go (level ∷ next ∷ others) e =
          absurd (never (plain.levels (subst (λ (z : List Level). 1 < length z) (sym e) (omega arith))))

  pub lowerable : Lowerable g shapes
  lowerable =
      record {
        distinct = found.distinct g scoped;
        known = λ k decl e. levelled_known found g.decls decl.name decl (found.itself g.decls (found.distinct g scoped) k decl e);
        layout = found.layout g.decls;
        rules = only_rules;
        plain_layout = plain_layout;
        parameters = clear.parameters;
        clear = clear.clear;
      }
