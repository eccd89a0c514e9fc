-- The environment of an item has a value of its kind for each name that is visible at the dot.
use Rattle.std.proofs.Common.{◌≡◌, ℕ, ◌+◌, ◌<◌, List, [], ◌∷◌, ◌++◌, map, Option, Some, None, length, refl, sym, ap, ◌∙◌, subst, arith, length-append, ap₂}
use Rattle.std.specs.Prelude.{slice_get, option_map}
use Rattle.std.proofs.lemmas.Option.{same_Some, slice_get_within}
use Rattle.std.proofs.lemmas.List.{length-map, map-append, append-nil}
use Rattle.ig_text.specs.Input.{Input}
use Rattle.ig_text.proofs.Lists.{contains_from_at}
use Rattle.ig_expr.specs.Expression.{Expression}
use Rattle.ig_expr.specs.Kinds.{kind_in, kind_of_value}
use Rattle.ig_expr.specs.Evaluation.{value_of}
use Rattle.ig_expr.specs.declared.kind.Kind.{Kind}
use Rattle.ig_expr.specs.declared.value.Value.{Value}
use Rattle.ig_expr.specs.Laws.{ValuesHaveKinds}
use Rattle.ig_item.specs.Step.{Step, Test, Bind, Term, Call, names_of, labels}
use Rattle.ig_item.specs.Core.{IsAlternative, numbered}
use Rattle.ig_item.specs.Visible.{names_at, kinds_at, kinds_of, kinds_of_label}
use Rattle.ig_item.specs.WellKinded.{IsWellKinded, StepFits}
use Rattle.ig_item.specs.Items as items
use Rattle.ig_item.specs.Items.{Item, Follows, StandsBefore, first, past, span_of, root_instance}
use Rattle.ig_item.specs.Laws.{EnvironmentFits, EnvironmentsFit}
use Rattle.ig_item.specs.declared.core_grammar.Nonterminal.{Nonterminal}
use Rattle.ig_item.specs.declared.core_grammar.CoreAlt.{CoreAlt}
use Rattle.ig_item.specs.declared.items.Instance.{Instance}
use Rattle.ig_item.proofs.Dots.{names_step, kinds_step, same_alternative}
use Rattle.ig_item.specs.Induction.{kept}

-- values of these kinds, as many as the names
pub record Bound (names : List (List ℕ)) (kinds : List Kind) (values : List Value) : Type 0 where
  pub kinds_are : map kind_of_value values ≡ kinds
  pub number : length values ≡ length names

label_bound : (label : Option (List ℕ)) (i j : ℕ) → Bound (labels label) (kinds_of_label label) (span_of label i j)
label_bound None i j = record { kinds_are = refl; number = refl }
label_bound (Some name) i j = record { kinds_are = refl; number = refl }

-- arguments have values of their kinds
arguments_fit : ValuesHaveKinds → (text : Input) (names : List (List ℕ)) (kinds : List Kind) (env : List Value) (here : ℕ) →
    map kind_of_value env ≡ kinds → (arguments : List Expression) (ks : List Kind) (vs : List Value) →
    map (kind_in names kinds) arguments ≡ map Some ks → map (value_of text names env here) arguments ≡ map Some vs →
    map kind_of_value vs ≡ ks
arguments_fit values_have_kinds text names kinds env here are [] [] [] k v = refl
arguments_fit values_have_kinds text names kinds env here are [] [] (w ∷ vs) k v = cc
arguments_fit values_have_kinds text names kinds env here are [] (q ∷ ks) vs k v = cc
arguments_fit values_have_kinds text names kinds env here are (e ∷ es) [] vs k v = cc
arguments_fit values_have_kinds text names kinds env here are (e ∷ es) (q ∷ ks) [] k v = cc
arguments_fit values_have_kinds text names kinds env here are (e ∷ es) (q ∷ ks) (w ∷ vs) k v =
    let has : kind_in names kinds e ≡ Some q = cc in
    let gives : value_of text names env here e ≡ Some w = cc in
    let others : map (kind_in names kinds) es ≡ map Some ks = cc in
    let other_values : map (value_of text names env here) es ≡ map Some vs = cc in
    let one : kind_of_value w ≡ q = values_have_kinds text names kinds env here e q w are has gives in
    let rest : map kind_of_value vs ≡ ks = arguments_fit values_have_kinds text names kinds env here are es ks vs others other_values in
    λ i. one i ∷ rest i

no_kinds : (kinds : List Kind) → length kinds ≡ 0 → [] ≡ kinds
no_kinds [] e = refl
no_kinds (k ∷ kinds) e = absurd (omega (arith, e))

module _ (core : List Nonterminal) where
  pub first_fits : (instance : Instance) (a : ℕ) (nonterminal : Nonterminal) (alternative : CoreAlt) →
      IsAlternative core instance.nonterminal a nonterminal alternative →
      map kind_of_value instance.values ≡ nonterminal.kinds → length nonterminal.kinds ≡ length nonterminal.params →
      EnvironmentFits core (first instance a)
  first_fits instance a nonterminal alternative has are number =
      record {
        nonterminal = nonterminal;
        alternative = alternative;
        kinds = nonterminal.kinds;
        has = has;
        within = omega arith;
        arguments = are;
        visible = refl;
        values = are;
        names =
            sym (length-map instance.values kind_of_value) ∙ ap length are ∙ number ∙
            ap length (sym (append-nil nonterminal.params));
      }

  -- the item fits the alternative in which it stands before the step
  pub record FitsBefore (it : Item) (names : List (List ℕ)) (step : Step) : Type 0 where
    pub nonterminal : Nonterminal
    pub alternative : CoreAlt
    pub kinds : List Kind
    pub has : IsAlternative core it.instance.nonterminal it.alternative nonterminal alternative
    pub next : slice_get alternative.steps it.dot ≡ Some step
    pub arguments : map kind_of_value it.instance.values ≡ nonterminal.kinds
    pub visible : kinds_at nonterminal alternative it.dot ≡ Some kinds
    pub names_are : names ≡ names_at nonterminal alternative it.dot
    pub bound : Bound names kinds it.env

  fits_before : (it : Item) (names : List (List ℕ)) (step : Step) → EnvironmentFits core it →
      StandsBefore core it names step → FitsBefore it names step
  fits_before it names step f s =
      let same = same_alternative core it.instance.nonterminal it.alternative s.nonterminal f.nonterminal s.alternative f.alternative s.has f.has in
      let visible = s.visible ∙ (λ i. names_at (same.nonterminals i) (same.alternatives i) it.dot) in
      record {
        nonterminal = f.nonterminal;
        alternative = f.alternative;
        kinds = f.kinds;
        has = f.has;
        next = ap (λ (a : CoreAlt). slice_get a.steps it.dot) (sym same.alternatives) ∙ s.next;
        arguments = f.arguments;
        visible = f.visible;
        names_are = visible;
        bound = record { kinds_are = f.values; number = f.names ∙ ap length (sym visible) };
      }

  past_fits : (it : Item) (names : List (List ℕ)) (step : Step) (j : ℕ) (more : List Kind) (vs : List Value) →
      (f : FitsBefore it names step) → kinds_of names f.kinds step ≡ Some more → Bound (names_of step) more vs →
      EnvironmentFits core (past it vs j)
  past_fits it names step j more vs f binds bound =
      let within : it.dot < length f.alternative.steps = slice_get_within f.alternative.steps it.dot step f.next in
      let behind = names_step f.nonterminal f.alternative it.dot step f.next in
      let n : length it.env ≡ length names = f.bound.number in
      let m : length vs ≡ length (names_of step) = bound.number in
      record {
        nonterminal = f.nonterminal;
        alternative = f.alternative;
        kinds = f.kinds ++ more;
        has = f.has;
        within = omega (arith, within);
        arguments = f.arguments;
        visible =
            kinds_step f.nonterminal.params f.nonterminal.kinds f.alternative.steps it.dot step f.kinds more f.next f.visible
            (ap (λ (ns : List (List ℕ)). kinds_of ns f.kinds step) (sym f.names_are) ∙ binds);
        values = map-append kind_of_value it.env vs ∙ (λ i. f.bound.kinds_are i ++ bound.kinds_are i);
        names =
            length-append it.env vs ∙ (λ i. n i + m i) ∙ sym (length-append names (names_of step)) ∙
            ap (λ (ns : List (List ℕ)). length (ns ++ names_of step)) f.names_are ∙ ap length (sym behind);
      }

  module _ (values_have_kinds : ValuesHaveKinds) (text : Input) (w : IsWellKinded core) where
    -- the step fits what is visible before it
    step_fits : (it : Item) (names : List (List ℕ)) (step : Step) (f : FitsBefore it names step) →
        StepFits core f.nonterminal f.alternative it.dot step
    step_fits it names step f =
        w.steps it.instance.nonterminal it.alternative f.nonterminal f.alternative f.has it.dot step f.next

    same_kinds : (it : Item) (names : List (List ℕ)) (step : Step) (f : FitsBefore it names step) →
        f.kinds ≡ (step_fits it names step f).kinds
    same_kinds it names step f =
        let s = step_fits it names step f in same_Some f.kinds s.kinds (sym f.visible ∙ s.visible)

    -- a nonterminal has as many kinds as parameters
    as_many : (nonterminal : Nonterminal) (n : ℕ) → slice_get core n ≡ Some nonterminal →
        length nonterminal.kinds ≡ length nonterminal.params
    as_many nonterminal n at = w.parameters nonterminal (contains_from_at core n nonterminal at)

    rule : (x : Item) → Follows core text (EnvironmentFits core) x → EnvironmentFits core x
    rule _ (items.root x e) =
        subst (EnvironmentFits core) (sym e)
        (first_fits root_instance 1 w.root.nonterminal w.root.alternative
        (record { there = w.root.first; has = ap (λ (members : List CoreAlt). numbered members 1) w.root.single })
        (no_kinds w.root.nonterminal.kinds (as_many w.root.nonterminal 0 w.root.first ∙ ap length w.root.plain))
        (as_many w.root.nonterminal 0 w.root.first))
    rule _ (items.test it names c x k before holds e) =
        subst (EnvironmentFits core) (sym e)
        (past_fits it names (Test c) it.position [] [] (fits_before it names (Test c) k before) refl
        (record { kinds_are = refl; number = refl }))
    rule _ (items.bind it names name c v x k before has e) =
        let step : Step = Bind name c in
        let f = fits_before it names step k before in
        let s = step_fits it names step f in
        let given : kind_in names f.kinds c ≡ Some s.expressions.0 = ap₂ (λ (ns : List (List ℕ)) (ks : List Kind). kind_in ns ks c) f.names_are (same_kinds it names step f) ∙ s.expressions.1 in
        let one : kind_of_value v ≡ s.expressions.0 =
        values_have_kinds text names f.kinds it.env it.position c s.expressions.0 v f.bound.kinds_are given has in
        subst (EnvironmentFits core) (sym e)
        (past_fits it names step it.position (s.expressions.0 ∷ []) (v ∷ []) f
        (ap (option_map (λ (q : Kind). q ∷ [])) given) (record { kinds_are = ap (λ (q : Kind). q ∷ []) one; number = refl }))
    rule _ (items.terminal it names what label excluded j x k before matches free e) =
        subst (EnvironmentFits core) (sym e)
        (past_fits it names (Term what label excluded) j (kinds_of_label label) (span_of label it.position j)
        (fits_before it names (Term what label excluded) k before) refl (label_bound label it.position j))
    rule _ (items.call it callee label excluded nonterminal a alternative x k calls at e) =
        let step : Step = Call callee.nonterminal calls.arguments label excluded in
        let f = fits_before it calls.names step k calls.before in
        let s = step_fits it calls.names step f in
        let given : map (kind_in calls.names f.kinds) calls.arguments ≡ map Some s.call.0.kinds =
        ap₂ (λ (ns : List (List ℕ)) (ks : List Kind). map (kind_in ns ks) calls.arguments) f.names_are (same_kinds it calls.names step f) ∙ s.call.2 in
        let one : s.call.0 ≡ nonterminal = same_Some s.call.0 nonterminal (sym s.call.1 ∙ at.there) in
        subst (EnvironmentFits core) (sym e)
        (first_fits callee a nonterminal alternative at
        (arguments_fit values_have_kinds text calls.names f.kinds it.env it.position f.bound.kinds_are calls.arguments s.call.0.kinds
        callee.values given calls.values ∙ ap (λ (n : Nonterminal). n.kinds) one)
        (as_many nonterminal callee.nonterminal at.there))
    rule _ (items.return it done label excluded x k l calls complete free e) =
        let step : Step = Call done.instance.nonterminal calls.arguments label excluded in
        subst (EnvironmentFits core) (sym e)
        (past_fits it calls.names step done.position (kinds_of_label label) (span_of label it.position done.position)
        (fits_before it calls.names step k calls.before) refl (label_bound label it.position done.position))

pub environments : ValuesHaveKinds → EnvironmentsFit
environments values_have_kinds core text x w reachable =
    kept core text (EnvironmentFits core) (rule core values_have_kinds text w) x reachable
