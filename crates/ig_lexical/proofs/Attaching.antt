-- The filters pass's own rule: within one grammar, a symbol and what the rule makes of it derive the same.
use Rattle.std.proofs.Common.{◌≡◌, ◌∙◌, ℕ, List, [], ◌∷◌, ◌++◌, map, refl, sym, ap, subst, true}
use Rattle.std.specs.Prelude.{◌↔◌}
use Rattle.std.proofs.lemmas.List.{append-nil}
use Rattle.std.proofs.lemmas.List.Elements.{All-nil, All-cons, All-head, All-tail}
use Rattle.ig_text.specs.Input.{Input}
use Rattle.ig_text.specs.Tree.{Trees, none, join}
use Rattle.ig_text.specs.declared.pattern.Pattern.{Pattern}
use Rattle.ig_text.specs.Pattern.{Matches}
use Rattle.ig_text.proofs.Trees.{join-none}
use Rattle.ig_expr.specs.Expression.{Expression, FreeBefore, FreeAfter}
use Rattle.ig_expr.specs.declared.value.Value.TheVariants as value
use Rattle.ig_expr.specs.Laws.{TestsLookFor}
use Rattle.ig_grammar.specs.Symbol.{Symbol, Label, Guard, Filtered, Seq}
use Rattle.ig_grammar.specs.Symbol.{gathered}
use Rattle.ig_meaning.specs.Environment.{Environment, HasValue, names, values}
use Rattle.ig_meaning.specs.Filtering.{Passes, PassesAll}
use Rattle.ig_meaning.specs.Derivation.{Covers, Derives, Items, Trails, span_value}
use Rattle.ig_meaning.specs.Derivation.{empty, symbol, literal, one_of, token, call, label, guard, let_be, absent, present, star, plus, sep_star, sep_plus, group, offside, ignore, align, filtered, sequence, entry, bare, with_filters as filtered_items}
use Rattle.ig_grammar.specs.declared.filter.Filter.{Filter}
use Rattle.ig_grammar.specs.declared.filter.Filter.TheVariants.{NotFollowed, NotPreceded, Not}
use Rattle.ig_grammar.specs.declared.declaration.DeclKind.{DeclKind}
use Rattle.ig_grammar.specs.declared.grammar.Grammar.{Grammar}
use Rattle.ig_grammar.specs.declared.place.Shape.{Shape}
use Rattle.ig_grammar.specs.Gathered.{listed_gathered}
use Rattle.ig_lexical.specs.Filters.{befores, afters, exclusions, with_filters, guarded, attached}

-- each has the value true
abbrev pub Hold : Input → Environment → ℕ → List Expression → Type 0
Hold text env here [] = Unit {0}
Hold text env here (e ∷ es) = HasValue text env here e (value.Bool true) × Hold text env here es

free_before : TestsLookFor → (text : Input) (env : Environment) (here : ℕ) (pattern : Pattern) →
    HasValue text env here (FreeBefore pattern) (value.Bool true) ↔ ((h : ℕ) → Matches text pattern h here → ⊥)
free_before looks text env here pattern = (looks text (names env) (values env) here).free_before pattern

free_after : TestsLookFor → (text : Input) (env : Environment) (here : ℕ) (pattern : Pattern) →
    HasValue text env here (FreeAfter pattern) (value.Bool true) ↔ ((h : ℕ) → Matches text pattern here h → ⊥)
free_after looks text env here pattern = (looks text (names env) (values env) here).free_after pattern

-- what filters ask is what their guards and exclusions ask
pub record Asks (text : Input) (env after : Environment) (i e : ℕ) (fs : List Filter) : Type 0 where
  pub before : Hold text env i (befores fs)
  pub behind : Hold text after e (afters fs)
  pub excluded : PassesAll text i e (exclusions fs)

pub asked : TestsLookFor → (text : Input) (env after : Environment) (i e : ℕ) (fs : List Filter) → PassesAll text i e fs → Asks text env after i e fs
asked looks text env after i e [] p = record { before = tt; behind = tt; excluded = All-nil (Passes text i e) }
asked looks text env after i e (NotFollowed pattern ∷ fs) p =
    let r = asked looks text env after i e fs (All-tail (Passes text i e) (NotFollowed pattern) fs p) in
    record { before = r.before; behind = ((free_after looks text after e pattern).1 (All-head (Passes text i e) (NotFollowed pattern) fs p), r.behind); excluded = r.excluded }
asked looks text env after i e (NotPreceded pattern ∷ fs) p =
    let r = asked looks text env after i e fs (All-tail (Passes text i e) (NotPreceded pattern) fs p) in
    record { before = ((free_before looks text env i pattern).1 (All-head (Passes text i e) (NotPreceded pattern) fs p), r.before); behind = r.behind; excluded = r.excluded }
asked looks text env after i e (Not pattern ∷ fs) p =
    let r = asked looks text env after i e fs (All-tail (Passes text i e) (Not pattern) fs p) in
    record { before = r.before; behind = r.behind; excluded = All-cons (Passes text i e) (Not pattern) (exclusions fs) (All-head (Passes text i e) (Not pattern) fs p) r.excluded }

pub passed : TestsLookFor → (text : Input) (env after : Environment) (i e : ℕ) (fs : List Filter) → Hold text env i (befores fs) → Hold text after e (afters fs) →
    PassesAll text i e (exclusions fs) → PassesAll text i e fs
passed looks text env after i e [] b a x = All-nil (Passes text i e)
passed looks text env after i e (NotFollowed pattern ∷ fs) b a x =
    All-cons (Passes text i e) (NotFollowed pattern) fs ((free_after looks text after e pattern).0 a.0) (passed looks text env after i e fs b a.1 x)
passed looks text env after i e (NotPreceded pattern ∷ fs) b a x =
    All-cons (Passes text i e) (NotPreceded pattern) fs ((free_before looks text env i pattern).0 b.0) (passed looks text env after i e fs b.1 a x)
passed looks text env after i e (Not pattern ∷ fs) b a x =
    All-cons (Passes text i e) (Not pattern) fs (All-head (Passes text i e) (Not pattern) (exclusions fs) x)
    (passed looks text env after i e fs b a (All-tail (Passes text i e) (Not pattern) (exclusions fs) x))

-- in a declaration of this kind no layout stands behind tokens
module _ (looks : TestsLookFor) (g : Grammar) (shapes : List Shape) (text : Input) (c : DeclKind)
    (tight : (e j : ℕ) (ts : Trees) → Trails g shapes text c e j ts → e ≡ j) where
  mutual
    pub own_end : {x : Symbol} {env after : Environment} {i e j : ℕ} {ts : Trees} {starts : List ℕ} → Derives g shapes text c x env i e j ts after starts → e ≡ j
    own_end {e = e} {j = j} (literal _ _ _ _ _ _ us _ _ _ trails _ _) = tight e j us trails
    own_end {e = e} {j = j} (one_of _ _ _ _ _ _ us _ _ _ trails _ _) = tight e j us trails
    own_end {e = e} {j = j} (token _ _ _ _ _ _ _ _ _ us _ _ _ _ _ trails _ _) = tight e j us trails
    own_end (call _ _ _ _ _ _ _ _ _ _ _ _ _) = refl
    own_end (label _ _ _ _ _ _ _ _ _ _ _ inner _) = own_end inner
    own_end (guard _ _ _ _ _) = refl
    own_end (let_be _ _ _ _ _ _ _ _ _) = refl
    own_end (absent _ _ _ _) = refl
    own_end (present _ _ _ _ _ _ _ _ _ _) = refl
    own_end (star _ _ _ _ _ _ _ _ _) = refl
    own_end (plus _ _ _ _ _ _ _ _ _) = refl
    own_end (sep_star _ _ _ _ _ _ _ _ _ _) = refl
    own_end (sep_plus _ _ _ _ _ _ _ _ _ _) = refl
    own_end (group _ _ _ _ _ _ _ _ _ _ _ _) = refl
    own_end (offside _ _ _ _ _ _ _ _ _ inner _) = own_end inner
    own_end (ignore _ _ _ _ _ _ _ _ _ inner) = own_end inner
    own_end (align _ _ _ _ _ _ _ _ _ _ inner _) = items_end inner
    own_end (filtered _ _ _ _ _ _ _ _ _ _ inner _) = own_end inner
    own_end (sequence _ _ _ _ _ _ _ _ _) = refl
    own_end (entry _ _ _ _ _ _ _ _ _ _ _ _ _ _ _) = refl

    pub items_end : {x : Symbol} {env after : Environment} {i e j : ℕ} {ts : Trees} {starts items : List ℕ} → Items g shapes text c x env i e j ts after starts items → e ≡ j
    items_end (bare _ _ _ _ _ _ _ _ _) = refl
    items_end (filtered_items _ _ _ _ _ _ _ _ _ _ _ inner _) = items_end inner

  -- guards before other symbols
  guards_cover : (es : List Expression) (xs : List Symbol) (env after : Environment) (i j : ℕ) (ts : Trees) (starts : List ℕ) → Hold text env i es →
      Covers g shapes text c xs env i j ts after starts → Covers g shapes text c (map Guard es ++ xs) env i j ts after starts
  guards_cover [] xs env after i j ts starts hold covers = covers
  guards_cover (e ∷ es) xs env after i j ts starts hold covers =
      symbol c (Guard e) (map Guard es ++ xs) env env after i i i j none ts ts [] starts starts (guard c e env i hold.0)
      (guards_cover es xs env after i j ts starts hold.1 covers) refl refl

  pub record Unguarded (es : List Expression) (xs : List Symbol) (env after : Environment) (i j : ℕ) (ts : Trees) (starts : List ℕ) : Type 0 where
    pub hold : Hold text env i es
    pub covers : Covers g shapes text c xs env i j ts after starts

  held : (e : Expression) (es : List Expression) (xs : List Symbol) (env after : Environment) (i j : ℕ) (ts : Trees) (starts : List ℕ) →
      HasValue text env i e (value.Bool true) → Unguarded es xs env after i j ts starts → Unguarded (e ∷ es) xs env after i j ts starts
  held e es xs env after i j ts starts here r = record { hold = (here, r.hold); covers = r.covers }

  guard_first : {e : Expression} {others : List Symbol} {env after : Environment} {i j : ℕ} {ts : Trees} {starts : List ℕ} →
      Covers g shapes text c (Guard e ∷ others) env i j ts after starts →
      HasValue text env i e (value.Bool true) × Covers g shapes text c others env i j ts after starts
  guard_first (symbol _ _ others env _ after i _ _ j _ us vs _ ls starts (guard _ _ _ _ holds) rest trees exposes) =
      (holds, subst (λ ts. Covers g shapes text c others env i j ts after starts) (sym trees) (subst (λ ks. Covers g shapes text c others env i j us after ks) (sym exposes) rest))

  guards_covered : (es : List Expression) (xs : List Symbol) (env after : Environment) (i j : ℕ) (ts : Trees) (starts : List ℕ) →
      Covers g shapes text c (map Guard es ++ xs) env i j ts after starts → Unguarded es xs env after i j ts starts
  guards_covered [] xs env after i j ts starts covers = record { hold = tt; covers = covers }
  guards_covered (e ∷ es) xs env after i j ts starts covers =
      let r = guard_first covers in held e es xs env after i j ts starts r.0 (guards_covered es xs env after i j ts starts r.1)

  -- guards alone
  guards_end : (es : List Expression) (env : Environment) (i : ℕ) → Hold text env i es → Covers g shapes text c (map Guard es) env i i none env []
  guards_end [] env i hold = empty c env i
  guards_end (e ∷ es) env i hold =
      symbol c (Guard e) (map Guard es) env env env i i i i none none none [] [] [] (guard c e env i hold.0) (guards_end es env i hold.1) refl refl

  pub record Ended (es : List Expression) (env after : Environment) (i j : ℕ) (ts : Trees) (starts : List ℕ) : Type 0 where
    pub hold : Hold text env i es
    pub same : i ≡ j
    pub trees : ts ≡ none
    pub env_same : after ≡ env
    pub exposes : starts ≡ []

  nothing_left : {env after : Environment} {i j : ℕ} {ts : Trees} {starts : List ℕ} → Covers g shapes text c [] env i j ts after starts → Ended [] env after i j ts starts
  nothing_left (empty _ _ _) = record { hold = tt; same = refl; trees = refl; env_same = refl; exposes = refl }

  guards_ended : (es : List Expression) (env after : Environment) (i j : ℕ) (ts : Trees) (starts : List ℕ) → Covers g shapes text c (map Guard es) env i j ts after starts →
      Ended es env after i j ts starts
  guards_ended [] env after i j ts starts covers = nothing_left covers
  guards_ended (e ∷ es) env after i j ts starts covers =
      let r = guard_first covers in let s = guards_ended es env after i j ts starts r.1 in
      record { hold = (r.0, s.hold); same = s.same; trees = s.trees; env_same = s.env_same; exposes = s.exposes }

  sequence_of : (bs cs : List Expression) (y : Symbol) (env after : Environment) (i e j : ℕ) (ts : Trees) (starts : List ℕ) →
      Hold text env i bs → Hold text after j cs → Derives g shapes text c y env i e j ts after starts →
      Derives g shapes text c (Seq (gathered (map Guard bs ++ y ∷ map Guard cs))) env i j j ts after starts
  sequence_of bs cs y env after i e j ts starts before behind derived =
      let all : Covers g shapes text c (map Guard bs ++ y ∷ map Guard cs) env i j ts after starts =
      guards_cover bs (y ∷ map Guard cs) env after i j ts starts before
      (symbol c y (map Guard cs) env after after i e j j ts none ts starts [] starts derived (guards_end cs after j behind) (sym (join-none ts)) (sym (append-nil starts))) in
      sequence c (gathered (map Guard bs ++ y ∷ map Guard cs)) env after i j ts starts
      (subst (λ xs. Covers g shapes text c xs env i j ts after starts) (sym (listed_gathered (map Guard bs ++ y ∷ map Guard cs))) all)

  -- what is derived with guards round it
  pub record Grouped (bs cs : List Expression) (y : Symbol) (env after : Environment) (i j : ℕ) (ts : Trees) (starts : List ℕ) : Type 0 where
    pub end : ℕ
    pub before : Hold text env i bs
    pub behind : Hold text after j cs
    pub derives : Derives g shapes text c y env i end j ts after starts

  middle : (bs cs : List Expression) (y : Symbol) {env after : Environment} {i j : ℕ} {ts : Trees} {starts : List ℕ} → Hold text env i bs →
      Covers g shapes text c (y ∷ map Guard cs) env i j ts after starts → Grouped bs cs y env after i j ts starts
  middle bs cs y before (symbol _ _ others env between after i e h j ts us vs ks ls starts first rest trees exposes) =
      let s = guards_ended cs between after h j us ls rest in
      record {
        end = e;
        before = before;
        behind = subst (λ p. Hold text after p cs) s.same (subst (λ v. Hold text v h cs) (sym s.env_same) s.hold);
        derives = subst (λ p. Derives g shapes text c y env i e p vs after starts) s.same (subst (λ v. Derives g shapes text c y env i e h vs v starts) (sym s.env_same)
            (subst (λ us. Derives g shapes text c y env i e h us between starts) (sym (join-none ts) ∙ ap (join ts) (sym s.trees) ∙ sym trees)
            (subst (λ ms. Derives g shapes text c y env i e h ts between ms) (sym (append-nil ks) ∙ ap (λ ms. ks ++ ms) (sym s.exposes) ∙ sym exposes) first)));
      }

  grouped : (bs cs : List Expression) (y : Symbol) {env after : Environment} {i e j : ℕ} {ts : Trees} {starts : List ℕ} →
      Derives g shapes text c (Seq (gathered (map Guard bs ++ y ∷ map Guard cs))) env i e j ts after starts → Grouped bs cs y env after i j ts starts
  grouped bs cs y (sequence _ _ env after i j ts starts covers) =
      let all = subst (λ xs. Covers g shapes text c xs env i j ts after starts) (listed_gathered (map Guard bs ++ y ∷ map Guard cs)) covers in
      let r = guards_covered bs (y ∷ map Guard cs) env after i j ts starts all in middle bs cs y r.hold r.covers

  guarded_to : (bs cs : List Expression) (y : Symbol) (env after : Environment) (i e j : ℕ) (ts : Trees) (starts : List ℕ) →
      Hold text env i bs → Hold text after j cs → Derives g shapes text c y env i e j ts after starts →
      (f : ℕ) × Derives g shapes text c (guarded bs cs y) env i f j ts after starts
  guarded_to [] [] y env after i e j ts starts before behind derived = (e, derived)
  guarded_to [] (a ∷ cs) y env after i e j ts starts before behind derived = (j, sequence_of [] (a ∷ cs) y env after i e j ts starts before behind derived)
  guarded_to (b ∷ bs) cs y env after i e j ts starts before behind derived = (j, sequence_of (b ∷ bs) cs y env after i e j ts starts before behind derived)

  guarded_from : (bs cs : List Expression) (y : Symbol) (env after : Environment) (i e j : ℕ) (ts : Trees) (starts : List ℕ) →
      Derives g shapes text c (guarded bs cs y) env i e j ts after starts → Grouped bs cs y env after i j ts starts
  guarded_from [] [] y env after i e j ts starts derived = record { end = e; before = tt; behind = tt; derives = derived }
  guarded_from [] (a ∷ cs) y env after i e j ts starts derived = grouped [] (a ∷ cs) y derived
  guarded_from (b ∷ bs) cs y env after i e j ts starts derived = grouped (b ∷ bs) cs y derived

  excluded_to : (x : Symbol) (fs : List Filter) (env after : Environment) (i e j : ℕ) (ts : Trees) (starts : List ℕ) → PassesAll text i e fs →
      Derives g shapes text c x env i e j ts after starts → Derives g shapes text c (with_filters x fs) env i e j ts after starts
  excluded_to x [] env after i e j ts starts passes derived = derived
  excluded_to x (f ∷ fs) env after i e j ts starts passes derived = filtered c x (f ∷ fs) env after i e j ts starts derived passes

  pub filters_off : {x : Symbol} {fs : List Filter} {env after : Environment} {i e j : ℕ} {ts : Trees} {starts : List ℕ} →
      Derives g shapes text c (Filtered x fs) env i e j ts after starts → Derives g shapes text c x env i e j ts after starts × PassesAll text i e fs
  filters_off (filtered _ _ _ _ _ _ _ _ _ _ inner passes) = (inner, passes)

  excluded_from : (x : Symbol) (fs : List Filter) (env after : Environment) (i e j : ℕ) (ts : Trees) (starts : List ℕ) →
      Derives g shapes text c (with_filters x fs) env i e j ts after starts → Derives g shapes text c x env i e j ts after starts × PassesAll text i e fs
  excluded_from x [] env after i e j ts starts derived = (derived, All-nil (Passes text i e))
  excluded_from x (f ∷ fs) env after i e j ts starts derived = filters_off derived

  abbrev Ending : Symbol → Environment → ℕ → ℕ → Trees → Environment → List ℕ → Type 0
  Ending y env i j ts after starts = (f : ℕ) × Derives g shapes text c y env i f j ts after starts

  filtered_to : (x : Symbol) (fs : List Filter) (env after : Environment) (i e j : ℕ) (ts : Trees) (starts : List ℕ) →
      Derives g shapes text c (Filtered x fs) env i e j ts after starts → Ending (guarded (befores fs) (afters fs) (with_filters x (exclusions fs))) env i j ts after starts
  filtered_to x fs env after i e j ts starts derived =
      let r = filters_off derived in let a = asked looks text env after i e fs r.1 in
      guarded_to (befores fs) (afters fs) (with_filters x (exclusions fs)) env after i e j ts starts a.before (subst (λ p. Hold text after p (afters fs)) (own_end r.0) a.behind)
      (excluded_to x (exclusions fs) env after i e j ts starts a.excluded r.0)

  filtered_from : (x : Symbol) (fs : List Filter) (env after : Environment) (i e j : ℕ) (ts : Trees) (starts : List ℕ) →
      Derives g shapes text c (guarded (befores fs) (afters fs) (with_filters x (exclusions fs))) env i e j ts after starts → Ending (Filtered x fs) env i j ts after starts
  filtered_from x fs env after i e j ts starts derived =
      let r = guarded_from (befores fs) (afters fs) (with_filters x (exclusions fs)) env after i e j ts starts derived in
      let s = excluded_from x (exclusions fs) env after i r.end j ts starts r.derives in (
        r.end,
        filtered c x fs env after i r.end j ts starts s.0
            (passed looks text env after i r.end fs r.before (subst (λ p. Hold text after p (afters fs)) (sym (own_end s.0)) r.behind) s.1),
      )

  label_off : {name : List ℕ} {x : Symbol} {env after : Environment} {i e j : ℕ} {ts : Trees} {starts : List ℕ} →
      Derives g shapes text c (Label name x) env i e j ts after starts →
      (between : Environment) × Derives g shapes text c x env i e j ts between starts × (after ≡ between ++ (name, span_value i e) ∷ [])
  label_off (label _ _ _ _ between _ _ _ _ _ _ inner bound) = (between, inner, bound)

  labelled_to : (name : List ℕ) (x : Symbol) (fs : List Filter) (env after : Environment) (i e j : ℕ) (ts : Trees) (starts : List ℕ) →
      Derives g shapes text c (Label name (Filtered x fs)) env i e j ts after starts →
      Ending (guarded (befores fs) (afters fs) (Label name (with_filters x (exclusions fs)))) env i j ts after starts
  labelled_to name x fs env after i e j ts starts derived =
      let l = label_off derived in let r = filters_off l.1 in let a = asked looks text env after i e fs r.1 in
      guarded_to (befores fs) (afters fs) (Label name (with_filters x (exclusions fs))) env after i e j ts starts a.before (subst (λ p. Hold text after p (afters fs)) (own_end r.0) a.behind)
      (label c name (with_filters x (exclusions fs)) env l.0 after i e j ts starts (excluded_to x (exclusions fs) env l.0 i e j ts starts a.excluded r.0) l.2)

  labelled_from : (name : List ℕ) (x : Symbol) (fs : List Filter) (env after : Environment) (i e j : ℕ) (ts : Trees) (starts : List ℕ) →
      Derives g shapes text c (guarded (befores fs) (afters fs) (Label name (with_filters x (exclusions fs)))) env i e j ts after starts →
      Ending (Label name (Filtered x fs)) env i j ts after starts
  labelled_from name x fs env after i e j ts starts derived =
      let r = guarded_from (befores fs) (afters fs) (Label name (with_filters x (exclusions fs))) env after i e j ts starts derived in
      let l = label_off r.derives in
      let s = excluded_from x (exclusions fs) env l.0 i r.end j ts starts l.1 in (
        r.end,
        label c name (Filtered x fs) env l.0 after i r.end j ts starts
            (filtered c x fs env l.0 i r.end j ts starts s.0
            (passed looks text env after i r.end fs r.before (subst (λ p. Hold text after p (afters fs)) (sym (own_end s.0)) r.behind) s.1)) l.2,
      )

  abbrev pub SameDerived : Symbol → Symbol → Type 0
  SameDerived x y = (env after : Environment) (i e j : ℕ) (ts : Trees) (starts : List ℕ) → Derives g shapes text c x env i e j ts after starts → Ending y env i j ts after starts

  kept : (x : Symbol) → SameDerived x x
  kept x env after i e j ts starts derived = (e, derived)

  label_to : (name : List ℕ) (x : Symbol) → SameDerived (Label name x) (attached (Label name x))
  label_to name (Filtered x fs) = labelled_to name x fs
  label_to name x = kept (Label name x)

  label_from : (name : List ℕ) (x : Symbol) → SameDerived (attached (Label name x)) (Label name x)
  label_from name (Filtered x fs) = labelled_from name x fs
  label_from name x = kept (Label name x)

  -- THE LOCAL CONDITION, both ways
  pub attached_to : (x : Symbol) → SameDerived x (attached x)
  attached_to (Label name x) = label_to name x
  attached_to (Filtered x fs) = filtered_to x fs
  attached_to x = kept x

  pub attached_from : (x : Symbol) → SameDerived (attached x) x
  attached_from (Label name x) = label_from name x
  attached_from (Filtered x fs) = filtered_from x fs
  attached_from x = kept x
