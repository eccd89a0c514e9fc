-- Leaves, in declarations where nothing stands behind a token.
use Rattle.std.proofs.Common.{◌≡◌, ◌∙◌, ℕ, ◌≤◌, max, List, [], ◌∷◌, ◌++◌, refl, sym, ap, subst, arith, inl, inr}
use Rattle.std.specs.Prelude.{◌≢◌, ◌⊎◌, true}
use Rattle.ig_text.specs.Input.{Input}
use Rattle.ig_text.specs.Tree.{Tree, Trees, Leaf, none, more, one, height, greatest_height}
use Rattle.ig_expr.specs.Expression.{Expression}
use Rattle.ig_expr.specs.declared.value.Value.{Value}
use Rattle.ig_expr.specs.declared.value.Value.TheVariants as value
use Rattle.ig_grammar.specs.Symbol.{Symbol, Literal, OneOf, Call}
use Rattle.ig_meaning.specs.Environment.{Environment, HasValue, HaveValues}
use Rattle.ig_meaning.specs.Derivation.{exposed, Derives, Instance, Trails}
use Rattle.ig_meaning.specs.Derivation.{literal, one_of, token, call, guard, let_be}
use Rattle.ig_grammar.specs.declared.declaration.DeclKind.{DeclKind}
use Rattle.ig_grammar.specs.declared.declaration.DeclKind.TheVariants.{Syntax, Lexical, Layout, Plain}
use Rattle.ig_grammar.specs.declared.grammar.Grammar.{Grammar}
use Rattle.ig_grammar.specs.declared.place.Shape.{Shape}
use Rattle.ig_lexical.proofs.Simulation as sim
use Rattle.ig_lexical.proofs.Alike.{IsLeaf}
use Rattle.ig_lexical.proofs.Instances.{Low, LowInstances}
use Rattle.ig_lexical.proofs.Leaves.{SameEnv, AnyStarts}

pub lexical_or_not : (kind : DeclKind) → (kind ≡ Lexical) ⊎ (kind ≢ Lexical)
lexical_or_not Lexical = inl refl
lexical_or_not Syntax = inr (λ e. cc)
lexical_or_not Layout = inr (λ e. cc)
lexical_or_not Plain = inr (λ e. cc)

abbrev pub AnyName : List ℕ → Type 0
AnyName name = Unit {0}

-- nothing stands behind a token in a declaration of the kind
pub record IsTight (g : Grammar) (shapes : List Shape) (text : Input) (c : DeclKind) : Type 0 where
  pub nothing : (e j : ℕ) (ts : Trees) → Trails g shapes text c e j ts → (e ≡ j) × (ts ≡ none)
  pub allowed : (e : ℕ) → Trails g shapes text c e e none

-- an instance of any kind is called there
pub called : (g : Grammar) (shapes : List Shape) (text : Input) (c : DeclKind) → IsTight g shapes text c →
    (name : List ℕ) (arguments : List Expression) (vs : List Value) (env : Environment) (kind : DeclKind) (i e : ℕ) (t : Tree) (ks : List ℕ) →
    HaveValues text env i arguments vs → Instance g shapes text name vs kind i e t ks → (ms : List ℕ) × Derives g shapes text c (Call name arguments) env i e e (one t) env ms
called g shapes text c tight name arguments vs env kind i e t ks have instance = go (lexical_or_not kind)
  where
    go : (kind ≡ Lexical) ⊎ (kind ≢ Lexical) → (ms : List ℕ) × Derives g shapes text c (Call name arguments) env i e e (one t) env ms
    go (inl same) = (
      exposed c i,
      token c name arguments vs env i e e t none (one t) ks (exposed c i) have
          (subst (λ k. Instance g shapes text name vs k i e t ks) same instance) (tight.allowed e) refl refl,
    )
    go (inr other) = (ks, call c kind name arguments vs env i e t ks have instance other)

pub first_low : (n : ℕ) (t : Tree) (us ts : Trees) → ts ≡ more t us → greatest_height ts ≤ n → height t ≤ n
first_low n t us ts same low = let l : max (height t) (greatest_height us) ≤ n = subst (λ vs. greatest_height vs ≤ n) same low in omega (arith, l)

module _ (g : Grammar) (shapes : List Shape) (h : Grammar) (forms : List Shape) (text : Input) (c d : DeclKind)
    (here : IsTight g shapes text c) (there : IsTight h forms text d)
    (Kinds : DeclKind → DeclKind → Type 0) (n : ℕ) (known : LowInstances g shapes h forms text SameEnv AnyStarts Kinds AnyName n) where
  abbrev There : Symbol → Environment → ℕ → ℕ → ℕ → Trees → Environment → List ℕ → Type 0
  There x env i e j ts after starts = sim.Derived g shapes h forms text SameEnv (Low n) AnyStarts d x env i e j ts after starts

  called_there : (name : List ℕ) (arguments : List Expression) (vs : List Value) (env other : Environment) (kind : DeclKind) (i e j : ℕ) (t : Tree) (us ts : Trees) (ks starts : List ℕ) →
      env ≡ other → ts ≡ more t us → us ≡ none → e ≡ j → height t ≤ n →
      HaveValues text env i arguments vs → Instance g shapes text name vs kind i e t ks → There (Call name arguments) other i e j ts env starts
  called_there name arguments vs env other kind i e j t us ts ks starts m trees nothing tight low have instance =
      let r = known name vs kind i e t ks tt low instance in
      let s = called h forms text d there name arguments vs other r.other i e t r.exposes (subst (λ v. HaveValues text v i arguments vs) m have) r.derives in
      record {
        later = other;
        exposes = s.0;
        meets = m;
        gains = tt;
        derives = subst (λ ws. Derives h forms text d (Call name arguments) other i e j ws other s.0) (sym (trees ∙ ap (more t) nothing))
            (subst (λ p. Derives h forms text d (Call name arguments) other i e p (one t) other s.0) tight s.1);
      }

  pub leaf_there : (x : Symbol) → IsLeaf x → sim.Follows g shapes h forms text SameEnv (Low n) AnyStarts c d x x
  leaf_there x l env other after i e j ts starts m low (literal _ word _ _ _ _ us _ _ spelled trails trees exposes) =
      let q = here.nothing e j us trails in
      record {
        later = other;
        exposes = exposed d i;
        meets = m;
        gains = tt;
        derives = subst (λ p. Derives h forms text d (Literal word) other i e p ts other (exposed d i)) q.0
            (literal d word other i e e none ts (exposed d i) spelled (there.allowed e) (trees ∙ ap (more (Leaf i e)) q.1) refl);
      }
  leaf_there x l env other after i e j ts starts m low (one_of _ class _ _ _ _ us _ _ among trails trees exposes) =
      let q = here.nothing e j us trails in
      record {
        later = other;
        exposes = exposed d i;
        meets = m;
        gains = tt;
        derives = subst (λ p. Derives h forms text d (OneOf class) other i e p ts other (exposed d i)) q.0
            (one_of d class other i e e none ts (exposed d i) among (there.allowed e) (trees ∙ ap (more (Leaf i e)) q.1) refl);
      }
  leaf_there x l env other after i e j ts starts m low (token _ name arguments vs _ _ _ _ t us _ ks _ have instance trails trees exposes) =
      let q = here.nothing e j us trails in
      called_there name arguments vs env other Lexical i e j t us ts ks starts m trees q.1 q.0 (first_low n t us ts trees low) have instance
  leaf_there x l env other after i e j ts starts m low (call _ kind name arguments vs _ _ _ t _ have instance differs) =
      called_there name arguments vs env other kind i j j t none (one t) starts starts m refl refl refl (first_low n t none ts refl low) have instance
  leaf_there x l env other after i e j ts starts m low (guard _ condition _ _ holds) =
      record { later = other; exposes = []; derives = guard d condition other i (subst (λ v. HasValue text v i condition (value.Bool true)) m holds); meets = m; gains = tt }
  leaf_there x l env other after i e j ts starts m low (let_be _ name expression v _ _ _ has bound) =
      record {
        later = other ++ (name, v) ∷ [];
        exposes = [];
        derives = let_be d name expression v other (other ++ (name, v) ∷ []) i (subst (λ w. HasValue text w i expression v) m has) refl;
        meets = bound ∙ ap (λ w. w ++ (name, v) ∷ []) m;
        gains = tt;
      }
  leaf_there x l env other after i e j ts starts m low derived = absurd l
