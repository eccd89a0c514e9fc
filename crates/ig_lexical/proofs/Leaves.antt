-- Leaves, where environments and kinds stay and the calls in them are of names whose instances are known.
use Rattle.std.proofs.Common.{◌≡◌, ◌∙◌, ℕ, ◌≤◌, max, List, [], ◌∷◌, ◌++◌, map, refl, sym, ap, subst, arith}
use Rattle.std.specs.Prelude.{Some, true}
use Rattle.ig_text.specs.Input.{Input}
use Rattle.ig_text.specs.Tree.{Tree, Trees, Leaf, none, more, height, greatest_height}
use Rattle.ig_expr.specs.declared.value.Value.TheVariants as value
use Rattle.ig_grammar.specs.Symbol.{Symbol, Call}
use Rattle.ig_meaning.specs.Environment.{Environment, HasValue, HaveValues, replaced}
use Rattle.ig_meaning.specs.Blocks.{IsOffside}
use Rattle.ig_grammar.specs.Numbering.{layout_among}
use Rattle.ig_meaning.specs.Derivation.{Instance, Trails}
use Rattle.ig_meaning.specs.Derivation.{literal, one_of, token, call, guard, let_be, layout, no_layout, outside}
use Rattle.ig_grammar.specs.declared.declaration.DeclKind.{DeclKind}
use Rattle.ig_grammar.specs.declared.declaration.DeclKind.TheVariants.{Lexical}
use Rattle.ig_grammar.specs.declared.grammar.Grammar.{Grammar}
use Rattle.ig_grammar.specs.declared.place.Shape.{Shape}
use Rattle.ig_lexical.proofs.Simulation as sim
use Rattle.ig_lexical.proofs.Simulation.{Fits}
use Rattle.ig_lexical.proofs.Alike.{IsLeaf}
use Rattle.ig_lexical.proofs.Instances.{Low, low_first, low_others, low_inside, LowInstances}

abbrev pub SameEnv : Environment → Environment → Type 0
SameEnv env other = env ≡ other

-- the same starts of tokens
abbrev pub SameStarts : List ℕ → List ℕ → Trees → Type 0
SameStarts ks ms ts = ks ≡ ms

-- any starts
abbrev pub AnyStarts : List ℕ → List ℕ → Trees → Type 0
AnyStarts ks ms ts = Unit {0}

abbrev pub SameKind : DeclKind → DeclKind → Type 0
SameKind c d = c ≡ d

-- what a leaf calls is named
abbrev pub IsCallOf : (List ℕ → Type 0) → Symbol → Type 0
IsCallOf Named (Call name arguments) = Named name
IsCallOf Named x = Unit {0}

pub fits_same : (text : Input) (n : ℕ) → Fits text SameEnv (Low n) SameStarts (Unit {0}) (λ bs. Unit {0})
fits_same text n =
    record {
      given_first = low_first n;
      given_others = low_others n;
      given_inside = λ t i j ks ts form low. low_inside n t i j ks ts low;
      gains_none = refl;
      gains_join = λ ks ls ms ns ts us a b. rw (a, b) refl;
      gains_node = λ t i j ks ms ts form same. same;
      grows = λ env other name v same. ap (λ e. e ++ (name, v) ∷ []) same;
      given_ignored = λ mark ks ts low. low;
      gains_ignored = λ mark ks ms ts same. refl;
      stays_offside = λ mark i ks ms ts same right. subst (IsOffside text i) same right;
      enters_values = λ bs env other i vs enters same have. subst (λ e. HaveValues text e i (map (λ b. b.value) bs) vs) same have;
      enters_meets = λ bs env other vs enters same. ap (λ e. replaced e bs vs) same;
    }

pub fits_any : (text : Input) (n : ℕ) → Fits text SameEnv (Low n) AnyStarts (⊥) (λ bs. Unit {0})
fits_any text n =
    record {
      given_first = low_first n;
      given_others = low_others n;
      given_inside = λ t i j ks ts form low. low_inside n t i j ks ts low;
      gains_none = tt;
      gains_join = λ ks ls ms ns ts us a b. tt;
      gains_node = λ t i j ks ms ts form same. tt;
      grows = λ env other name v same. ap (λ e. e ++ (name, v) ∷ []) same;
      given_ignored = λ mark ks ts low. low;
      gains_ignored = λ mark ks ms ts same. tt;
      stays_offside = λ mark i ks ms ts same right. absurd mark;
      enters_values = λ bs env other i vs enters same have. subst (λ e. HaveValues text e i (map (λ b. b.value) bs) vs) same have;
      enters_meets = λ bs env other vs enters same. ap (λ e. replaced e bs vs) same;
    }

module _ (g : Grammar) (shapes : List Shape) (h : Grammar) (forms : List Shape) (text : Input)
    (Gains : List ℕ → List ℕ → Trees → Type 0) (kept : (ks : List ℕ) (ts : Trees) → Gains ks ks ts)
    (shown : (ks ms : List ℕ) (ts us : Trees) → Gains ks ms ts → Gains ks ms us)
    (Named : List ℕ → Type 0)
    (same_layout : layout_among g.decls ≡ layout_among h.decls) (layout_named : (name : List ℕ) → layout_among g.decls ≡ Some name → Named name)
    (n : ℕ) (known : LowInstances g shapes h forms text SameEnv Gains SameKind Named n) where
  pub trails_too : (c : DeclKind) (e j : ℕ) (ts : Trees) → greatest_height ts ≤ n → Trails g shapes text c e j ts → Trails h forms text c e j ts
  trails_too c e j ts low (layout name kind _ _ t starts declared instance) =
      let r = known name [] kind e j t starts (layout_named name declared) (omega (arith, low)) instance in
      layout name r.other e j t r.exposes (sym same_layout ∙ declared) r.derives
  trails_too c e j ts low (no_layout _ undeclared) = no_layout e (sym same_layout ∙ undeclared)
  trails_too c e j ts low (outside _ _ other) = outside c e other

  under : (t : Tree) (us ts : Trees) → ts ≡ more t us → greatest_height ts ≤ n → greatest_height us ≤ n
  under t us ts same low = let l : max (height t) (greatest_height us) ≤ n = subst (λ vs. greatest_height vs ≤ n) same low in omega (arith, l)

  first_under : (t : Tree) (us ts : Trees) → ts ≡ more t us → greatest_height ts ≤ n → height t ≤ n
  first_under t us ts same low = let l : max (height t) (greatest_height us) ≤ n = subst (λ vs. greatest_height vs ≤ n) same low in omega (arith, l)

  pub leaf_follows : (c : DeclKind) (x : Symbol) → IsLeaf x → IsCallOf Named x → sim.Follows g shapes h forms text SameEnv (Low n) Gains c c x x
  leaf_follows c x l q env other after i e j ts starts m low (literal _ word _ _ _ _ us _ _ spelled trails trees exposes) =
      record { later = other; exposes = starts; derives = literal c word other i e j us ts starts spelled (trails_too c e j us (under (Leaf i e) us ts trees low) trails) trees exposes; meets = m; gains = kept starts ts }
  leaf_follows c x l q env other after i e j ts starts m low (one_of _ class _ _ _ _ us _ _ among trails trees exposes) =
      record { later = other; exposes = starts; derives = one_of c class other i e j us ts starts among (trails_too c e j us (under (Leaf i e) us ts trees low) trails) trees exposes; meets = m; gains = kept starts ts }
  leaf_follows c x l q env other after i e j ts starts m low (token _ name arguments vs _ _ _ _ t us _ ks _ have instance trails trees exposes) =
      let r = known name vs Lexical i e t ks q (first_under t us ts trees low) instance in
      record {
        later = other;
        exposes = starts;
        derives = token c name arguments vs other i e j t us ts r.exposes starts (subst (λ v. HaveValues text v i arguments vs) m have)
            (subst (λ k. Instance h forms text name vs k i e t r.exposes) (sym r.kinds) r.derives)
            (trails_too c e j us (under t us ts trees low) trails) trees exposes;
        meets = m;
        gains = kept starts ts;
      }
  leaf_follows c x l q env other after i e j ts starts m low (call _ kind name arguments vs _ _ _ t _ have instance differs) =
      let r = known name vs kind i j t starts q (first_under t none ts refl low) instance in
      record {
        later = other;
        exposes = r.exposes;
        derives = call c kind name arguments vs other i j t r.exposes (subst (λ v. HaveValues text v i arguments vs) m have)
            (subst (λ k. Instance h forms text name vs k i j t r.exposes) (sym r.kinds) r.derives) differs;
        meets = m;
        gains = r.gains;
      }
  leaf_follows c x l q env other after i e j ts starts m low (guard _ condition _ _ holds) =
      record { later = other; exposes = []; derives = guard c condition other i (subst (λ v. HasValue text v i condition (value.Bool true)) m holds); meets = m; gains = kept [] none }
  leaf_follows c x l q env other after i e j ts starts m low (let_be _ name expression v _ _ _ has bound) =
      record {
        later = other ++ (name, v) ∷ [];
        exposes = [];
        derives = let_be c name expression v other (other ++ (name, v) ∷ []) i (subst (λ w. HasValue text w i expression v) m has) refl;
        meets = bound ∙ ap (λ w. w ++ (name, v) ∷ []) m;
        gains = kept [] none;
      }
  leaf_follows c x l q env other after i e j ts starts m low derived = absurd l
