-- Instances of added declarations.
use Rattle.std.proofs.Common.{◌≡◌, ℕ, suc, ◌+◌, Bool, true, List, [], ◌∷◌, refl, sym, ◌∙◌, ap, subst, Some, None}
use Rattle.std.proofs.lemmas.Bool.{or_left, or_right}
use Rattle.std.proofs.lemmas.Option.{same_Some}
use Rattle.std.specs.Prelude.{slice_get}
use Rattle.ig_ebnf_variables.proofs.Definitions.{Quiet, Agree, AllDeclared, SymbolsProper, AlternativesProper, IsForm}
use Rattle.ig_ebnf_variables.proofs.Environments.{Holds, zipped, holding, held, bound_to, params_wanted}
use Rattle.ig_ebnf_variables.proofs.Elements.{declared_first, declared_second}
use Rattle.ig_ebnf_variables.specs.Lists.{made, alts_of, params_for, arguments, entering, new_alternatives, new_symbols}
use Rattle.ig_ebnf_variables.specs.Lists.{new_symbol, added_symbols}
use Rattle.ig_ebnf_variables.specs.Lists.{added_alternatives, count_symbols}
use Rattle.ig_expr.specs.Expression.{Expression}
use Rattle.ig_expr.specs.declared.value.Value.{Value}
use Rattle.ig_grammar.specs.Numbering.{Declares, tag_of, by_level, Levelled, choice}
use Rattle.ig_grammar.specs.Symbol.{Symbol, Call, Symbols, Alternatives, no_alternatives, next_alternative, Literal}
use Rattle.ig_grammar.specs.Symbol.{OneOf, Label, Guard, Let, Opt}
use Rattle.ig_grammar.specs.Symbol.{Star, Plus, SepStar, SepPlus, Group, Offside, Ignore, Align, Filtered, Seq, Entry}
use Rattle.ig_grammar.specs.Visible.{Visible}
use Rattle.ig_grammar.specs.declared.declaration.Assoc.TheVariants.{Free}
use Rattle.ig_grammar.specs.declared.declaration.DeclKind.{DeclKind}
use Rattle.ig_grammar.specs.declared.declaration.DeclKind.TheVariants.{Plain, Syntax, Lexical, Layout}
use Rattle.ig_grammar.specs.declared.grammar.Grammar.{Grammar}
use Rattle.ig_grammar.specs.declared.place.Shape.{Shape}
use Rattle.ig_meaning.specs.Derivation.{Covers, Derives, Instance, Trails, alternative, call, token, layout}
use Rattle.ig_meaning.specs.Derivation.{no_layout, outside}
use Rattle.ig_meaning.specs.Environment.{Environment, HaveValues}
use Rattle.ig_pass.specs.Added.{added_name}
use Rattle.ig_pass.specs.Needs.{symbols_need, alternatives_need, needs}
use Rattle.ig_text.specs.Input.{Input}
use Rattle.ig_text.specs.Tree.{Tree, Trees, Node, none, one}

pub alternative_at : (alts : List (List Symbol)) (n : ℕ) (zs : List Symbol) → slice_get alts n ≡ Some zs →
    slice_get (by_level (record { assoc = Free; alts = alts_of alts } ∷ [])) n ≡ Some
    (record { alternative = record { symbols = zs }; level = 1; assoc = Free })
alternative_at [] n zs e = absurd (cc)
alternative_at (xs ∷ alts) ℕ.zero zs e = let same : xs ≡ zs = cc in
    ap (λ z. Some (record { alternative = record { symbols = z }; level = 1; assoc = Free })) same
alternative_at (xs ∷ alts) (suc n) zs e = alternative_at alts n zs e

pub alternative_of : (alts : List (List Symbol)) (n : ℕ) (a : Levelled) →
    slice_get (by_level (record { assoc = Free; alts = alts_of alts } ∷ [])) n ≡ Some a →
    slice_get alts n ≡ Some a.alternative.symbols
alternative_of [] n a e = absurd (cc)
alternative_of (xs ∷ alts) ℕ.zero a e =
    let same : record { alternative = record { symbols = xs }; level = 1; assoc = Free } ≡ a = same_Some _ _ e in
    ap (λ (z : Levelled). Some z.alternative.symbols) same
alternative_of (xs ∷ alts) (suc n) a e = alternative_of alts n a e

module _ (g' : Grammar) (shapes' : List Shape) (text : Input) where
  pub instance_of : (name : List ℕ) (ps : Visible) (sh : Shape) (alts : List (List Symbol)) →
      (declared : (d : ℕ) × Declares g' shapes' name d (made name ps sh alts).decl sh) →
      (env : Environment) (ws : List Value) → Holds ps env ws → (n : ℕ) (zs : List Symbol) →
      slice_get alts n ≡ Some zs →
      {i j : ℕ} {ts : Trees} {left : Environment} {starts : List ℕ} →
      Covers g' shapes' text Plain zs (zipped ps ws) i j ts left starts →
      Instance g' shapes' text name ws Plain i j (Node (tag_of sh declared.0 (suc n)) i j ts) starts
  instance_of name ps sh alts declared env ws holds n zs at {i = i} {j = j} {ts = ts} {left = left} {starts = starts}
      covers =
      alternative name ws Plain declared.0 (suc n) (made name ps sh alts).decl sh
      (record { alternative = record { symbols = zs }; level = 1; assoc = Free })
      (zipped ps ws) left i j ts _ starts declared.1 (n, refl, alternative_at alts n zs at) (bound_to ps env ws holds)
      refl covers refl

  pub calling : (of : List ℕ) (k : ℕ) (v : Visible) (wanted : List ℕ → Bool) (c : DeclKind) (env env' : Environment)
      (ws : List Value) → Holds (params_for v wanted) env ws →
      Agree wanted env env' → {i j : ℕ} {t : Tree} {starts : List ℕ} →
      Instance g' shapes' text (added_name of k) ws Plain i j t starts →
      Derives g' shapes' text c (entering of k [] v wanted) env' i j j (one t) env' starts
  calling of k v wanted c env env' ws holds s {i = i} {j = j} {t = t} {starts = starts} instance =
      call c Plain (added_name of k) (arguments [] (params_for v wanted)) ws env' i j t starts
      (holding text (params_for v wanted) env' i ws
      (held (params_for v wanted) env env' ws holds (params_wanted v wanted env env' s))) instance
      (λ e. absurd (cc))

  pub bare : (c : DeclKind) → Quiet g' c → (e : ℕ) → Trails g' shapes' text c e e none
  bare Syntax q e = no_layout e (q refl)
  bare Lexical q e = outside Lexical e (λ z. absurd (cc))
  bare Layout q e = outside Layout e (λ z. absurd (cc))
  bare Plain q e = outside Plain e (λ z. absurd (cc))

  pub record NoTrail (e j : ℕ) (us : Trees) : Type 0 where
    pub place : e ≡ j
    pub trees : us ≡ none

  pub no_trail : {c : DeclKind} {e j : ℕ} {us : Trees} → Quiet g' c → Trails g' shapes' text c e j us → NoTrail e j us
  no_trail q (layout name kind e j t starts declared instance) = let bad : Some name ≡ None = sym declared ∙ q refl in
      absurd (cc)
  no_trail q (no_layout e undeclared) = record { place = refl; trees = refl }
  no_trail q (outside c e other) = record { place = refl; trees = refl }

  -- the same instance, with other arguments that have the same values
  pub swapped : {c : DeclKind} {z : Symbol} {env left : Environment} {i e j : ℕ} {ts : Trees} {starts : List ℕ} →
      Derives g' shapes' text c z env i e j ts left starts →
      (name : List ℕ) (args others : List Expression) (env' : Environment) → z ≡ Call name args →
      ((vs : List Value) → HaveValues text env i args vs → HaveValues text env' i others vs) → Quiet g' c →
      Derives g' shapes' text c (Call name others) env' i j j ts env' starts
  swapped (token c name1 args1 vs env i e j t us ts ks starts have instance trails trees exposes) name args others
      env' same values q =
      let named : name1 ≡ name = cc in
      let given : args1 ≡ args = cc in
      let place = (no_trail q trails).place in
      subst (λ z. Derives g' shapes' text c (Call z others) env' i j j ts env' starts) named
      (token c name1 others vs env' i j j t us ts ks starts
      (values vs (subst (λ z. HaveValues text env i z vs) given have))
      (subst (λ z. Instance g' shapes' text name1 vs Lexical i z t ks) place instance)
      (subst (λ z. Trails g' shapes' text c z j us) place trails) trees exposes)
  swapped (call c kind name1 args1 vs env i j t starts have instance other) name args others env' same values q =
      let named : name1 ≡ name = cc in
      let given : args1 ≡ args = cc in
      subst (λ z. Derives g' shapes' text c (Call z others) env' i j j (one t) env' starts) named
      (call c kind name1 others vs env' i j t starts (values vs (subst (λ z. HaveValues text env i z vs) given have))
      instance other)
  swapped d name args others env' same values q = absurd (cc)

  module _ (May : List ℕ → Type 0) (of : List ℕ) (v : Visible) where
    pub record Chosen (choices : Alternatives) (k m : ℕ) (xs : Symbols) : Type 0 where
      pub k2 : ℕ
      pub at : slice_get (new_alternatives of v k choices) m ≡ Some (new_symbols of v k2 xs)
      pub proper : SymbolsProper May v xs
      pub present : AllDeclared g' shapes' (added_symbols of v k2 xs)
      pub needed : (n : List ℕ) → symbols_need n xs ≡ true → alternatives_need n choices ≡ true

    pub chosen_to : (choices : Alternatives) (k m : ℕ) (xs : Symbols) → choice choices m ≡ Some xs →
        AlternativesProper May v choices →
        AllDeclared g' shapes' (added_alternatives of v k choices) → Chosen choices k m xs
    chosen_to no_alternatives k m xs e p d = absurd (cc)
    chosen_to (next_alternative ys others) k ℕ.zero xs e p d =
        let same : ys ≡ xs = cc in
        record {
          k2 = k;
          at = ap (λ z. Some (new_symbols of v k z)) same;
          proper = subst (SymbolsProper May v) same p.0;
          present =
              subst (λ z. AllDeclared g' shapes' (added_symbols of v k z)) same
              (declared_first g' shapes' May (added_symbols of v k ys)
              (added_alternatives of v (k + count_symbols ys) others) d);
          needed = λ n u. or_left (symbols_need n ys) (alternatives_need n others) (ap (symbols_need n) same ∙ u);
        }
    chosen_to (next_alternative ys others) k (suc m) xs e p d =
        let below =
        chosen_to others (k + count_symbols ys) m xs e p.1
        (declared_second g' shapes' May (added_symbols of v k ys)
        (added_alternatives of v (k + count_symbols ys) others) d) in
        record {
          k2 = below.k2;
          at = below.at;
          proper = below.proper;
          present = below.present;
          needed = λ n u. or_right (symbols_need n ys) (alternatives_need n others) (below.needed n u);
        }

    pub record ChosenFrom (choices : Alternatives) (k m : ℕ) (zs : List Symbol) : Type 0 where
      pub xs : Symbols
      pub chosen : choice choices m ≡ Some xs
      pub parts : Chosen choices k m xs
      pub same : zs ≡ new_symbols of v parts.k2 xs

    pub chosen_from : (choices : Alternatives) (k m : ℕ) (zs : List Symbol) →
        slice_get (new_alternatives of v k choices) m ≡ Some zs → AlternativesProper May v choices →
        AllDeclared g' shapes' (added_alternatives of v k choices) → ChosenFrom choices k m zs
    chosen_from no_alternatives k m zs e p d = absurd (cc)
    chosen_from (next_alternative ys others) k ℕ.zero zs e p d =
        record {
          xs = ys;
          chosen = refl;
          parts = record {
            k2 = k;
            at = refl;
            proper = p.0;
            present =
                declared_first g' shapes' May (added_symbols of v k ys)
                (added_alternatives of v (k + count_symbols ys) others) d;
            needed = λ n u. or_left (symbols_need n ys) (alternatives_need n others) u;
          };
          same = sym (same_Some (new_symbols of v k ys) zs e);
        }
    chosen_from (next_alternative ys others) k (suc m) zs e p d =
        let below =
        chosen_from others (k + count_symbols ys) m zs e p.1
        (declared_second g' shapes' May (added_symbols of v k ys)
        (added_alternatives of v (k + count_symbols ys) others) d) in
        record {
          xs = below.xs;
          chosen = below.chosen;
          parts = record {
            k2 = below.parts.k2;
            at = below.parts.at;
            proper = below.parts.proper;
            present = below.parts.present;
            needed = λ n u. or_right (symbols_need n ys) (alternatives_need n others) (below.parts.needed n u);
          };
          same = below.same;
        }

-- a form is the call of its first declaration
pub form_call : (of : List ℕ) (v : Visible) (k : ℕ) (x : Symbol) → IsForm x →
    new_symbol of v k x ≡ entering of k [] v (λ n. needs n x)
form_call of v k (Opt x) f = refl
form_call of v k (Star x) f = refl
form_call of v k (Plus x) f = refl
form_call of v k (SepStar x s) f = refl
form_call of v k (SepPlus x s) f = refl
form_call of v k (Group ys) f = refl
form_call of v k (Literal _) f = absurd f
form_call of v k (OneOf _) f = absurd f
form_call of v k (Call _ _) f = absurd f
form_call of v k (Label _ _) f = absurd f
form_call of v k (Guard _) f = absurd f
form_call of v k (Let _ _) f = absurd f
form_call of v k (Offside _) f = absurd f
form_call of v k (Ignore _) f = absurd f
form_call of v k (Align _) f = absurd f
form_call of v k (Filtered _ _) f = absurd f
form_call of v k (Seq _) f = absurd f
form_call of v k (Entry _ _) f = absurd f
