-- The filters pass's own rule keeps what is bound.
use Rattle.std.proofs.Common.{◌≡◌, ◌∙◌, ℕ, List, [], ◌∷◌, ◌++◌, map, refl, sym, ap, subst}
use Rattle.ig_text.specs.Input.{Input}
use Rattle.ig_expr.specs.Expression.{Expression}
use Rattle.ig_expr.specs.ValuedTree.{Trees, none, more, join}
use Rattle.ig_expr.specs.JoinedTrees.{join-none}
use Rattle.ig_grammar.specs.Symbol.{Symbol, Label, Guard, Filtered, Seq, gathered}
use Rattle.ig_grammar.specs.declared.declaration.DeclKind.{DeclKind}
use Rattle.ig_grammar.specs.declared.filter.Filter.{Filter}
use Rattle.ig_grammar.specs.declared.grammar.Grammar.{Grammar}
use Rattle.ig_grammar.specs.declared.place.Shape.{Shape}
use Rattle.ig_grammar.specs.Gathered.{listed_gathered}
use Rattle.ig_meaning.specs.Annotated as a
use Rattle.ig_meaning.specs.Annotated.{Bind, Binds}
use Rattle.ig_meaning.specs.Derivation.{span_value}
use Rattle.ig_meaning.specs.Environment.{Environment}
use Rattle.ig_lexical.proofs.ValuedForms.{IsWhole, parts_whole}
use Rattle.ig_lexical.specs.Filters.{befores, afters, exclusions, with_filters, guarded, attached}

-- options, lists, groups and sequences have no filters of their own
pub whole_attached : (x : Symbol) → IsWhole x → attached x ≡ x
whole_attached (Label name x) w = absurd w
whole_attached (Filtered x filters) w = absurd w
whole_attached x w = refl

module _ (g : Grammar) (shapes : List Shape) (text : Input) (c : DeclKind) where
  -- filters bind nothing
  filtered_inner : {z : Symbol} {env after : Environment} {i e j : ℕ} {ts : Trees} {d : DeclKind} →
      Binds g shapes text d z env i e j ts after → (x : Symbol) (filters : List Filter) → z ≡ Filtered x filters →
      Binds g shapes text d x env i e j ts after
  filtered_inner (a.round d x1 y env after i e j ts (a.filtered filters1) inner) x filters same =
      let inside : x1 ≡ x = cc in subst (λ z. Binds g shapes text d z env i e j ts after) inside inner
  filtered_inner (a.round d x1 y env after i e j ts a.offside inner) x filters same = absurd (cc)
  filtered_inner (a.round d x1 y env after i e j ts a.ignore inner) x filters same = absurd (cc)
  filtered_inner (a.round d x1 y env after i e j ts a.align inner) x filters same = absurd (cc)
  filtered_inner (a.node d x1 form parts env i j ts bound has apart) x filters same =
      absurd (subst IsWhole same (parts_whole has))
  filtered_inner b x filters same = absurd (cc)

  -- what a label stands round, and what it binds
  record Labelled (name : List ℕ) (x : Symbol) (env : Environment) (i e j : ℕ) (ts : Trees) (after : Environment) : Type 0 where
    between : Environment
    binds : Binds g shapes text c x env i e j ts between
    bound : after ≡ between ++ (name, span_value i e) ∷ []

  label_inner : {z : Symbol} {env after : Environment} {i e j : ℕ} {ts : Trees} {d : DeclKind} →
      Binds g shapes text d z env i e j ts after → d ≡ c → (name : List ℕ) (x : Symbol) → z ≡ Label name x →
      Labelled name x env i e j ts after
  label_inner (a.label d name1 x1 env between after i e j ts inner bound) kind name x same =
      let inside : x1 ≡ x = cc in
      let named : name1 ≡ name = cc in
      record {
        between = between;
        binds =
            subst (λ z. Binds g shapes text c z env i e j ts between) inside
            (subst (λ z. Binds g shapes text z x1 env i e j ts between) kind inner);
        bound = bound ∙ ap (λ z. between ++ (z, span_value i e) ∷ []) named;
      }
  label_inner (a.round d x1 y env after i e j ts (a.filtered filters) inner) kind name x same = absurd (cc)
  label_inner (a.round d x1 y env after i e j ts a.offside inner) kind name x same = absurd (cc)
  label_inner (a.round d x1 y env after i e j ts a.ignore inner) kind name x same = absurd (cc)
  label_inner (a.round d x1 y env after i e j ts a.align inner) kind name x same = absurd (cc)
  label_inner (a.node d x1 form parts env i j ts bound has apart) kind name x same =
      absurd (subst IsWhole same (parts_whole has))
  label_inner b kind name x same = absurd (cc)

  -- guards bind nothing, before a symbol and behind it
  before_guards : (es : List Expression) (xs : List Symbol) (env after : Environment) (i j : ℕ) (ts : Trees) →
      Bind g shapes text c xs env i j ts after → Bind g shapes text c (map Guard es ++ xs) env i j ts after
  before_guards [] xs env after i j ts b = b
  before_guards (e ∷ es) xs env after i j ts b =
      a.next c (Guard e) (map Guard es ++ xs) env env after i i i j none ts ts (a.guard c e env i)
      (before_guards es xs env after i j ts b) refl

  behind_guards : (es : List Expression) (env : Environment) (i : ℕ) → Bind g shapes text c (map Guard es) env i i none env
  behind_guards [] env i = a.nothing c env i
  behind_guards (e ∷ es) env i =
      a.next c (Guard e) (map Guard es) env env env i i i i none none none (a.guard c e env i) (behind_guards es env i) refl

  -- guards before a symbol and behind it, in a sequence
  in_sequence : (before behind : List Expression) (x : Symbol) (env after : Environment) (i e j : ℕ) (ts : Trees) →
      Binds g shapes text c x env i e j ts after →
      Binds g shapes text c (Seq (gathered (map Guard before ++ x ∷ map Guard behind))) env i j j ts after
  in_sequence before behind x env after i e j ts b =
      a.sequence c (gathered (map Guard before ++ x ∷ map Guard behind)) env after i j ts
      (subst (λ z. Bind g shapes text c z env i j ts after) (sym (listed_gathered (map Guard before ++ x ∷ map Guard behind)))
      (before_guards before (x ∷ map Guard behind) env after i j ts
      (a.next c x (map Guard behind) env after after i e j j ts none ts b (behind_guards behind after j) (sym (join-none ts)))))

  -- a symbol behind guards and before guards binds what it binds alone
  guarded_keeps : (before behind : List Expression) (x : Symbol) (env after : Environment) (i e j : ℕ) (ts : Trees) →
      Binds g shapes text c x env i e j ts after → (f : ℕ) × Binds g shapes text c (guarded before behind x) env i f j ts after
  guarded_keeps [] [] x env after i e j ts b = (e, b)
  guarded_keeps [] (f ∷ fs) x env after i e j ts b = (j, in_sequence [] (f ∷ fs) x env after i e j ts b)
  guarded_keeps (f ∷ fs) behind x env after i e j ts b = (j, in_sequence (f ∷ fs) behind x env after i e j ts b)

  -- a symbol with filters binds what it binds without them
  filters_keep : (x : Symbol) (fs : List Filter) (env after : Environment) (i e j : ℕ) (ts : Trees) →
      Binds g shapes text c x env i e j ts after → Binds g shapes text c (with_filters x fs) env i e j ts after
  filters_keep x [] env after i e j ts b = b
  filters_keep x (f ∷ fs) env after i e j ts b = a.round c x (Filtered x (f ∷ fs)) env after i e j ts (a.filtered (f ∷ fs)) b

  -- so does each symbol with its filters as guards
  pub attached_keeps : (x : Symbol) (env after : Environment) (i e j : ℕ) (ts : Trees) →
      Binds g shapes text c x env i e j ts after → (f : ℕ) × Binds g shapes text c (attached x) env i f j ts after
  attached_keeps (Filtered x fs) env after i e j ts b =
      guarded_keeps (befores fs) (afters fs) (with_filters x (exclusions fs)) env after i e j ts
      (filters_keep x (exclusions fs) env after i e j ts (filtered_inner b x fs refl))
  attached_keeps (Label name (Filtered x fs)) env after i e j ts b =
      let l = label_inner b refl name (Filtered x fs) refl in
      let y = with_filters x (exclusions fs) in
      guarded_keeps (befores fs) (afters fs) (Label name y) env after i e j ts
      (a.label c name y env l.between after i e j ts
      (filters_keep x (exclusions fs) env l.between i e j ts (filtered_inner l.binds x fs refl)) l.bound)
  attached_keeps x env after i e j ts b = (e, b)
