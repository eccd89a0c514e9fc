-- Sequences stand in place.
use Rattle.std.proofs.Common.{◌≡◌, ℕ, ◌+◌, Bool, false, List, [], ◌∷◌, ◌++◌, refl, sym, ◌∙◌, ap, subst}
use Rattle.std.proofs.Common.{append_assoc}
use Rattle.std.specs.Prelude.{◌||◌}
use Rattle.std.proofs.lemmas.List.{append-nil}
use Rattle.std.proofs.Math.Bool.{or-false, or_assoc}
use Rattle.ig_ebnf_variables.proofs.Definitions.{Proper, SymbolsProper, AllDeclared, Ready}
use Rattle.ig_ebnf_variables.specs.Lists.{count, Element, elements, all_elements, Made, added, added_symbols}
use Rattle.ig_grammar.specs.Symbol.{Symbol, Literal, OneOf, Call, Label, Guard, Let, Opt, Star, Plus, SepStar}
use Rattle.ig_grammar.specs.Symbol.{SepPlus, Group, Offside, Ignore, Align}
use Rattle.ig_grammar.specs.Symbol.{Filtered, Seq, Entry, Symbols, no_symbols, next_symbol, listed}
use Rattle.ig_grammar.specs.Symbol.{gathered}
use Rattle.ig_grammar.specs.Visible.{Visible, binds, all_bind}
use Rattle.ig_grammar.specs.declared.declaration.DeclKind.{DeclKind}
use Rattle.ig_grammar.specs.declared.grammar.Grammar.{Grammar}
use Rattle.ig_grammar.specs.declared.place.Shape.{Shape}
use Rattle.ig_meaning.specs.Derivation.{Covers, Derives, empty, symbol, sequence}
use Rattle.ig_meaning.specs.Environment.{Environment}
use Rattle.ig_pass.specs.Needs.{needs, symbols_need}
use Rattle.ig_text.specs.Input.{Input}
use Rattle.ig_text.specs.Tree.{Trees, none, join}
use Rattle.ig_text.proofs.Trees.{join-none, join_join}

abbrev pub sources : List Element → List Symbol
sources [] = []
sources (e ∷ es) = e.x ∷ sources es

module _ (g : Grammar) (shapes : List Shape) (text : Input) where
  -- with some starts
  pub record Reaches (c : DeclKind) (xs : List Symbol) (env : Environment) (i j : ℕ) (vs : Trees)
      (after : Environment) : Type 0 where
    pub starts : List ℕ
    pub covers : Covers g shapes text c xs env i j vs after starts

  pub record Stands (c : DeclKind) (x : Symbol) (env : Environment) (i j : ℕ) (vs : Trees)
      (after : Environment) : Type 0 where
    pub e : ℕ
    pub starts : List ℕ
    pub derives : Derives g shapes text c x env i e j vs after starts

  pub record Parts (c : DeclKind) (xs ys : List Symbol) (env : Environment) (i j : ℕ) (vs : Trees)
      (after : Environment) : Type 0 where
    pub h : ℕ
    pub between : Environment
    pub ts : Trees
    pub us : Trees
    pub first : Reaches c xs env i h ts between
    pub second : Reaches c ys between h j us after
    pub trees : vs ≡ join ts us

  pub joined : {c : DeclKind} {xs ys : List Symbol} {env between after : Environment} {i h j : ℕ} {ts us : Trees}
      {ks ls : List ℕ} →
      Covers g shapes text c xs env i h ts between ks → Covers g shapes text c ys between h j us after ls →
      Covers g shapes text c (xs ++ ys) env i j (join ts us) after (ks ++ ls)
  joined (empty c env i) second = second
  joined {ys = ys} {after = after} {us = us} {ls = ls}
      (symbol c x others env between out i e h j ts rs vs ks ms starts head rest trees exposes) second =
      symbol c x (others ++ ys) env between after i e h _ ts (join rs us) _ ks (ms ++ ls) _ head (joined rest second)
      (ap (λ z. join z us) trees ∙ join_join ts rs us) (ap (λ z. z ++ ls) exposes ∙ append_assoc ks ms ls)

  pub parted : (xs ys : List Symbol) {c : DeclKind} {env after : Environment} {i j : ℕ} {vs : Trees}
      {starts : List ℕ} →
      Covers g shapes text c (xs ++ ys) env i j vs after starts → Parts c xs ys env i j vs after
  parted [] ys {c = c} {env = env} {i = i} {j = j} {vs = vs} covers =
      record {
        h = i;
        between = env;
        ts = none;
        us = vs;
        first = record { starts = []; covers = empty c env i };
        second = record { starts = _; covers = covers };
        trees = refl;
      }
  parted (x ∷ xs) ys (symbol c x1 others env between out i e h j ts rs vs ks ms starts head rest trees exposes) =
      let below = parted xs ys rest in
      record {
        h = below.h;
        between = below.between;
        ts = join ts below.ts;
        us = below.us;
        first =
            record {
              starts = _;
              covers =
                  symbol c x xs env between below.between i e h below.h ts below.ts _ ks below.first.starts _ head
                  below.first.covers refl refl;
            };
        second = below.second;
        trees = trees ∙ ap (join ts) below.trees ∙ sym (join_join ts below.ts below.us);
      }

  lone : {c : DeclKind} {x : Symbol} {env after : Environment} {i j : ℕ} {vs : Trees} {starts : List ℕ} →
      Covers g shapes text c (x ∷ []) env i j vs after starts → Stands c x env i j vs after
  lone {vs = vs1}
      (symbol c x others env between after i e h j ts us vs ks ls starts head (empty c1 env1 i1) trees exposes) =
      let whole : ts ≡ vs1 = sym (trees ∙ join-none ts) in
      record {
        e = e;
        starts = ks;
        derives = subst (λ z. Derives g shapes text c x env i e h z between ks) whole head;
      }

  sources_append : (es1 bs : List Element) → sources (es1 ++ bs) ≡ sources es1 ++ sources bs
  sources_append [] bs = refl
  sources_append (a ∷ es1) bs = ap (λ z. a.x ∷ z) (sources_append es1 bs)

  -- what covers the elements, is derived
  mutual
    pub standing : (x : Symbol) (v : Visible) (k : ℕ) {c : DeclKind} {env after : Environment} {i j : ℕ} {vs : Trees}
        {starts : List ℕ} →
        Covers g shapes text c (sources (elements v k x)) env i j vs after starts → Stands c x env i j vs after
    standing (Seq xs) v k {c = c} {env = env} {after = after} {i = i} {j = j} {vs = vs} covers =
        let below = reaching xs v k covers in
        record { e = j; starts = below.starts; derives = sequence c xs env after i j vs below.starts below.covers }
    standing (Literal w) v k covers = lone covers
    standing (OneOf w) v k covers = lone covers
    standing (Call n es) v k covers = lone covers
    standing (Label n x) v k covers = lone covers
    standing (Guard e) v k covers = lone covers
    standing (Let n e) v k covers = lone covers
    standing (Opt x) v k covers = lone covers
    standing (Star x) v k covers = lone covers
    standing (Plus x) v k covers = lone covers
    standing (SepStar x s) v k covers = lone covers
    standing (SepPlus x s) v k covers = lone covers
    standing (Group ys) v k covers = lone covers
    standing (Offside x) v k covers = lone covers
    standing (Ignore x) v k covers = lone covers
    standing (Align x) v k covers = lone covers
    standing (Filtered x fs) v k covers = lone covers
    standing (Entry bs x) v k covers = lone covers

    pub reaching : (xs : Symbols) (v : Visible) (k : ℕ) {c : DeclKind} {env after : Environment} {i j : ℕ}
        {vs : Trees} {starts : List ℕ} →
        Covers g shapes text c (sources (all_elements v k xs)) env i j vs after starts →
        Reaches c (listed xs) env i j vs after
    reaching no_symbols v k covers = record { starts = _; covers = covers }
    reaching (next_symbol x xs) v k {c = c} {env = env} {after = after} {i = i} {j = j} {vs = vs} {starts = starts}
        covers =
        let later = all_elements (v ++ binds v x) (k + count x) xs in
        let parts = parted (sources (elements v k x)) (sources later)
        (subst (λ z. Covers g shapes text c z env i j vs after starts) (sources_append (elements v k x) later)
        covers) in
        let here = standing x v k parts.first.covers in
        let next = reaching xs (v ++ binds v x) (k + count x) parts.second.covers in
        record {
          starts = _;
          covers =
              symbol c x (listed xs) env parts.between after i here.e parts.h j parts.ts parts.us vs here.starts
              next.starts _ here.derives next.covers parts.trees refl;
        }

abbrev pub elements_need : List ℕ → List Element → Bool
elements_need n [] = false
elements_need n (e ∷ es) = needs n e.x || elements_need n es

pub elements_need_append : (n : List ℕ) (es1 bs : List Element) →
    elements_need n (es1 ++ bs) ≡ (elements_need n es1 || elements_need n bs)
elements_need_append n [] bs = refl
elements_need_append n (a ∷ es1) bs = ap (λ z. needs n a.x || z) (elements_need_append n es1 bs) ∙
    sym (or_assoc (needs n a.x) (elements_need n es1) (elements_need n bs))

mutual
  pub elements_want : (n : List ℕ) (x : Symbol) (v : Visible) (k : ℕ) → elements_need n (elements v k x) ≡ needs n x
  elements_want n (Seq xs) v k = all_elements_want n xs v k
  elements_want n (Literal w) v k = refl
  elements_want n (OneOf w) v k = refl
  elements_want n (Call m es) v k = or-false _
  elements_want n (Label m x) v k = or-false _
  elements_want n (Guard e) v k = or-false _
  elements_want n (Let m e) v k = or-false _
  elements_want n (Opt x) v k = or-false _
  elements_want n (Star x) v k = or-false _
  elements_want n (Plus x) v k = or-false _
  elements_want n (SepStar x s) v k = or-false _
  elements_want n (SepPlus x s) v k = or-false _
  elements_want n (Group ys) v k = or-false _
  elements_want n (Offside x) v k = or-false _
  elements_want n (Ignore x) v k = or-false _
  elements_want n (Align x) v k = or-false _
  elements_want n (Filtered x fs) v k = or-false _
  elements_want n (Entry bs x) v k = or-false _

  pub all_elements_want : (n : List ℕ) (xs : Symbols) (v : Visible) (k : ℕ) →
      elements_need n (all_elements v k xs) ≡ symbols_need n xs
  all_elements_want n no_symbols v k = refl
  all_elements_want n (next_symbol x xs) v k =
      elements_need_append n (elements v k x) (all_elements (v ++ binds v x) (k + count x) xs) ∙
      (λ z. elements_want n x v k z || all_elements_want n xs (v ++ binds v x) (k + count x) z)

module _ (g' : Grammar) (shapes' : List Shape) (May : List ℕ → Type 0) where
  pub declared_first : (es1 bs : List Made) → AllDeclared g' shapes' (es1 ++ bs) → AllDeclared g' shapes' es1
  declared_first [] bs h = tt
  declared_first (a ∷ es1) bs h = (h.0, declared_first es1 bs h.1)

  pub declared_second : (es1 bs : List Made) → AllDeclared g' shapes' (es1 ++ bs) → AllDeclared g' shapes' bs
  declared_second [] bs h = h
  declared_second (a ∷ es1) bs h = declared_second es1 bs h.1

  module _ (of : List ℕ) where
    abbrev IsReady : Visible → List Element → Visible → Type 0
    IsReady = Ready g' shapes' May of

    pub ready_append : (es1 bs : List Element) (v w u : Visible) → IsReady v es1 w → IsReady w bs u →
        IsReady v (es1 ++ bs) u
    ready_append [] bs v w u h r = subst (λ z. IsReady z bs u) (sym h) r
    ready_append (a ∷ es1) bs v w u h r = (h.0, h.1, h.2, h.3, ready_append es1 bs (a.v ++ binds a.v a.x) w u h.4 r)

    mutual
      pub ready : (x : Symbol) (v : Visible) (k : ℕ) → Proper May v x → AllDeclared g' shapes' (added of v k x) →
          IsReady v (elements v k x) (v ++ binds v x)
      ready (Seq xs) v k p d = all_ready xs v k p d
      ready (Literal w) v k p d = (refl, tt, p, d, refl)
      ready (OneOf w) v k p d = (refl, tt, p, d, refl)
      ready (Call m es) v k p d = (refl, tt, p, d, refl)
      ready (Label m x) v k p d = (refl, tt, p, d, refl)
      ready (Guard e) v k p d = (refl, tt, p, d, refl)
      ready (Let m e) v k p d = (refl, tt, p, d, refl)
      ready (Opt x) v k p d = (refl, tt, p, d, refl)
      ready (Star x) v k p d = (refl, tt, p, d, refl)
      ready (Plus x) v k p d = (refl, tt, p, d, refl)
      ready (SepStar x s) v k p d = (refl, tt, p, d, refl)
      ready (SepPlus x s) v k p d = (refl, tt, p, d, refl)
      ready (Group ys) v k p d = (refl, tt, p, d, refl)
      ready (Offside x) v k p d = absurd p
      ready (Ignore x) v k p d = absurd p
      ready (Align x) v k p d = absurd p
      ready (Filtered x fs) v k p d = (refl, tt, p, d, refl)
      ready (Entry bs x) v k p d = (refl, tt, p, d, refl)

      pub all_ready : (xs : Symbols) (v : Visible) (k : ℕ) → SymbolsProper May v xs →
          AllDeclared g' shapes' (added_symbols of v k xs) →
          IsReady v (all_elements v k xs) (v ++ all_bind v xs)
      all_ready no_symbols v k p d = sym (append-nil v)
      all_ready (next_symbol x xs) v k p d =
          let w = v ++ binds v x in
          let below =
          all_ready xs w (k + count x) p.1
          (declared_second (added of v k x) (added_symbols of w (k + count x) xs) d) in
          ready_append (elements v k x) (all_elements w (k + count x) xs) v w (v ++ (binds v x ++ all_bind w xs))
          (ready x v k p.0 (declared_first (added of v k x) (added_symbols of w (k + count x) xs) d))
          (subst (λ z. IsReady w (all_elements w (k + count x) xs) z) (append_assoc v (binds v x) (all_bind w xs))
          below)
