-- The steps of a well-scoped alternative fit what is visible.
use Rattle.std.proofs.Common.{◌≡◌, ℕ, suc, ◌+◌, List, [], ◌∷◌, ◌++◌, All, Option, Some, None, length, map, slice_get, Contains, refl, sym, ap, ap₂, ◌∙◌, subst, arith, inl, inr, append_assoc}
use Rattle.std.specs.Prelude.{◌≢◌, ◌⊎◌, option_map}
use Rattle.std.specs.List.{flat_map}
use Rattle.std.proofs.lemmas.List.{map-append, append-nil}
use Rattle.std.proofs.lemmas.Option.{same_Some}
use Rattle.std.proofs.lemmas.List.Elements.{All-head, All-tail}
use Rattle.ig_text.specs.Input.{untabbed}
use Rattle.ig_text.specs.declared.pattern.Pattern.{Pattern}
use Rattle.ig_expr.specs.Expression.{Expression}
use Rattle.ig_expr.specs.Kinds.{kind_in}
use Rattle.ig_expr.specs.declared.kind.Kind.{Kind}
use Rattle.ig_expr.specs.declared.kind.Kind.TheVariants.{Int, Bool, Span}
use Rattle.ig_grammar.specs.Symbol.{Symbol, Literal, OneOf, Call, Label, Guard, Let, Filtered}
use Rattle.ig_grammar.specs.Visible.{Visible, Occurrence, at, names, kinds, kind_at, bound, binds, inside}
use Rattle.ig_grammar.specs.Condition.{Condition, SymbolMeets, declaration_of, NamesUnknown, unknown_variable, duplicate_label, duplicate_let, no_kind, guard_kind, argument_kind}
use Rattle.ig_grammar.specs.Condition as condition
use Rattle.ig_grammar.specs.WellScoped.{IsWellScoped}
use Rattle.ig_grammar.specs.Checked.{FitShapes}
use Rattle.ig_grammar.specs.declared.declaration.Param.{Param}
use Rattle.ig_grammar.specs.declared.declaration.Decl.{Decl}
use Rattle.ig_grammar.specs.declared.grammar.Grammar.{Grammar}
use Rattle.ig_grammar.specs.declared.place.Shape.{Shape}
use Rattle.ig_item.specs.Step.{Step, names_of}
use Rattle.ig_item.specs.Step as step
use Rattle.ig_item.specs.Visible.{kinds_of}
use Rattle.ig_item.specs.WellKinded.{NoneTwice, ExpressionsFit, CallFits}
use Rattle.ig_item.specs.declared.core_grammar.Nonterminal.{Nonterminal}
use Rattle.ig_item.specs.Fitting.{AreFit, no_steps, next_step}
use Rattle.ig_pass.specs.Remaining.{IsTerm, IsExcluding, Remains, unfiltered, patterns_of}
use Rattle.ig_core.specs.Steps.{step_with, step_of, steps_of}
use Rattle.ig_core.specs.CoreOf.{number_of, nonterminal_of, core_of}
use Rattle.ig_pass.specs.Remaining.{IsRemaining}
use Rattle.ig_text.proofs.Differing.{pushed_differ}
use Rattle.ig_text.proofs.Lists.{contains_first, mapped_at}
use Rattle.ig_core.proofs.Lookups.{declared_named}
use Rattle.ig_core.proofs.Scoped.{Any, main_in, Each, Fine, may_call, has_core, distinct_names}
use Rattle.ig_core.proofs.Law.{callee}

kind_cases : (a b : Kind) → (a ≡ b) ⊎ (a ≢ b)
kind_cases Int Int = inl refl
kind_cases Bool Bool = inl refl
kind_cases Span Span = inl refl
kind_cases a b = inr (λ e. cc)

kind_unless : (o : Option Kind) (k : Kind) → (o ≢ Some k → ⊥) → o ≡ Some k
kind_unless None k f = absurd (f (λ e. cc))
kind_unless (Some a) k f = go (kind_cases a k)
  where
    go : (a ≡ k) ⊎ (a ≢ k) → Some a ≡ Some k
    go (inl e) = ap Some e
    go (inr h) = absurd (f (λ e. h (same_Some a k e)))

some_unless : (o : Option Kind) → (o ≡ None → ⊥) → (k : Kind) × (o ≡ Some k)
some_unless None f = absurd (f refl)
some_unless (Some k) f = (k, refl)

-- arguments and parameters side by side
args_fit : (f : Expression → Option Kind) (es : List Expression) (ps : List Param) → length ps ≡ length es →
    ((k : ℕ) (e : Expression) (p : Param) → slice_get es k ≡ Some e → slice_get ps k ≡ Some p → f e ≡ Some p.kind) →
    map f es ≡ map Some (map (λ p. p.kind) ps)
args_fit f [] [] same each = refl
args_fit f [] (p ∷ ps) same each = cc
args_fit f (e ∷ es) [] same each = cc
args_fit f (e ∷ es) (p ∷ ps) same each =
    let h : suc (length ps) ≡ suc (length es) = same in
    ap₂ (λ x xs. x ∷ xs) (each 0 e p refl refl) (args_fit f es ps (omega (arith, h)) (λ k x q a b. each (suc k) x q a b))

module _ (g : Grammar) (shapes : List Shape) (scoped : IsWellScoped g) (fit : FitShapes g shapes) (remaining : IsRemaining g) where
  abbrev number : List ℕ → ℕ
  number = number_of g shapes

  abbrev core : List Nonterminal
  core = core_of g shapes

  -- a step fits what is visible before it, and binds what its symbol binds, which is new
  pub record FitsHere (v : Visible) (s : Step) (more : Visible) : Type 0 where
    pub expressions : ExpressionsFit (names v) (kinds v) s
    pub call : CallFits core (names v) (kinds v) s
    pub bound_names : names_of s ≡ names more
    pub bound_kinds : kinds_of (names v) (kinds v) s ≡ Some (kinds more)
    pub differ : NoneTwice (names v) → NoneTwice (names v ++ names_of s)

  module _ (decl : Decl) where
    unmet : (v : Visible) (x : Symbol) → Fine g shapes decl (at v x) → (c : Condition) → SymbolMeets g.decls decl.kind v x c → ⊥
    unmet v x fine c meets = fine.unmet c meets

    -- an expression of a symbol names what is visible
    known : (v : Visible) (x : Symbol) (e : Expression) → Fine g shapes decl (at v x) → Contains (condition.expressions x) e → NamesUnknown v e → ⊥
    known v x e fine among some = fine.unmet condition.UnknownVariable (unknown_variable x e among some)

    -- the arguments of a call fit
    arguments_fit : (v : Visible) (name : List ℕ) (arguments : List Expression) → Fine g shapes decl (at v (Call name arguments)) →
        (label : Option (List ℕ)) (excluded : List Pattern) → CallFits core (names v) (kinds v) (step.Call (number name) arguments label excluded)
    arguments_fit v name arguments fine label excluded =
        let may = may_call g shapes scoped fit remaining decl (at v (Call name arguments)) name arguments fine refl in
        let there = callee g shapes (untabbed []) (has_core g shapes scoped fit remaining) name (length arguments) may in (
          nonterminal_of number (number name) there.0,
          there.1,
          args_fit (kind_in (names v) (kinds v)) arguments there.0.decl.params (ap (λ (z : Decl). length z.params) there.2 ∙ may.7)
              (λ k e p at_e at_p. kind_unless (kind_in (names v) (kinds v) e) p.kind (λ other. go there.0.decl may.1 there.2 may.0 may.3 may.6 (declared_named g.decls name) k e p at_e at_p other)),
        )
      where
        go : (x : Decl) (d : Decl) → x ≡ d → (j : ℕ) → slice_get g.decls j ≡ Some d → d.name ≡ name →
            (declaration_of g.decls name ≡ None) ⊎ ((k : ℕ) × (d : Decl) × (declaration_of g.decls name ≡ Some d) × (slice_get g.decls k ≡ Some d) × (d.name ≡ name)) →
            (k : ℕ) (e : Expression) (p : Param) → slice_get arguments k ≡ Some e → slice_get x.params k ≡ Some p → kind_at v e ≢ Some p.kind → ⊥
        go x d same j at_d named (inl none) k e p at_e at_p other = fine.unmet condition.UnknownName (condition.unknown_name name arguments none)
        go x d same j at_d named (inr h) k e p at_e at_p other =
            let place_same : j ≡ h.0 =
            distinct_names g shapes scoped fit remaining j h.0 name (mapped_at (λ (z : Decl). z.name) g.decls j d at_d ∙ ap Some named)
            (mapped_at (λ (z : Decl). z.name) g.decls h.0 h.1 h.3 ∙ ap Some h.4) in
            let decl_same : d ≡ h.1 = same_Some d h.1 (sym at_d ∙ ap (slice_get g.decls) place_same ∙ h.3) in
            fine.unmet condition.KindMismatch
            (argument_kind name arguments h.1 k e p h.2 at_e (ap (λ (z : Decl). slice_get z.params k) (sym (same ∙ decl_same)) ∙ at_p) other)

    -- a term with a label or none
    plain_fits : (v : Visible) (m : Symbol) (excluded : List Pattern) → IsTerm Any m → Fine g shapes decl (at v m) → FitsHere v (step_with number None excluded m) []
    plain_fits v (Literal w) excluded ok fine =
        record { expressions = tt; call = tt; bound_names = refl; bound_kinds = refl; differ = λ none. subst (λ (z : List (List ℕ)). NoneTwice z) (sym (append-nil (names v))) none }
    plain_fits v (OneOf w) excluded ok fine =
        record { expressions = tt; call = tt; bound_names = refl; bound_kinds = refl; differ = λ none. subst (λ (z : List (List ℕ)). NoneTwice z) (sym (append-nil (names v))) none }
    plain_fits v (Call name arguments) excluded ok fine =
        record {
          expressions = tt;
          call = arguments_fit v name arguments fine None excluded;
          bound_names = refl;
          bound_kinds = refl;
          differ = λ none. subst (λ (z : List (List ℕ)). NoneTwice z) (sym (append-nil (names v))) none;
        }
    plain_fits v m excluded ok fine = absurd ok

    label_fits : (v : Visible) (n : List ℕ) (m : Symbol) (excluded : List Pattern) → IsTerm Any m → Fine g shapes decl (at v m) → (Contains (names v) n → ⊥) →
        FitsHere v (step_with number (Some n) excluded m) ((n, Span) ∷ [])
    label_fits v n (Literal w) excluded ok fine fresh =
        record { expressions = tt; call = tt; bound_names = refl; bound_kinds = refl; differ = λ none. pushed_differ (names v) n none fresh }
    label_fits v n (OneOf w) excluded ok fine fresh =
        record { expressions = tt; call = tt; bound_names = refl; bound_kinds = refl; differ = λ none. pushed_differ (names v) n none fresh }
    label_fits v n (Call name arguments) excluded ok fine fresh =
        record {
          expressions = tt;
          call = arguments_fit v name arguments fine (Some n) excluded;
          bound_names = refl;
          bound_kinds = refl;
          differ = λ none. pushed_differ (names v) n none fresh;
        }
    label_fits v n m excluded ok fine fresh = absurd ok

    term_of : (x : Symbol) → IsExcluding Any x → IsTerm Any (unfiltered x)
    term_of (Filtered y fs) ok = ok.1
    term_of (Literal w) ok = ok
    term_of (OneOf w) ok = ok
    term_of (Call n es) ok = ok
    term_of x ok = absurd ok

    term_binds : (v : Visible) (x : Symbol) → IsTerm Any x → binds v x ≡ []
    term_binds v (Literal w) ok = refl
    term_binds v (OneOf w) ok = refl
    term_binds v (Call n es) ok = refl
    term_binds v x ok = absurd ok

    no_binds : (v : Visible) (x : Symbol) → IsExcluding Any x → binds v x ≡ []
    no_binds v (Filtered y fs) ok = term_binds v y ok.1
    no_binds v (Literal w) ok = refl
    no_binds v (OneOf w) ok = refl
    no_binds v (Call n es) ok = refl
    no_binds v x ok = absurd ok

    abbrev FineInside : Visible → Symbol → Type 0
    FineInside v x = (o : Occurrence) → Contains (at v x ∷ inside v x) o → Fine g shapes decl o

    fits_here : (v : Visible) (x : Symbol) → Remains Any x → FineInside v x → FitsHere v (step_of number x) (binds v x)
    fits_here v (Guard e) ok fine =
        let here = fine (at v (Guard e)) (contains_first (at v (Guard e)) []) in
        record {
          expressions = kind_unless (kind_at v e) Bool (λ other. here.unmet condition.KindMismatch (guard_kind e other));
          call = tt;
          bound_names = refl;
          bound_kinds = refl;
          differ = λ none. subst (λ (z : List (List ℕ)). NoneTwice z) (sym (append-nil (names v))) none;
        }
    fits_here v (Let n e) ok fine =
        let here = fine (at v (Let n e)) (contains_first (at v (Let n e)) []) in
        let kind =
        some_unless (kind_at v e)
        (λ none. here.unmet condition.KindMismatch
        (no_kind (Let n e) e (contains_first e []) ((λ some. here.unmet condition.UnknownVariable (unknown_variable (Let n e) e (contains_first e []) some)), none))) in
        record {
          expressions = kind;
          call = tt;
          bound_names = ap (λ o. names (bound n o)) (sym kind.1);
          bound_kinds =
              ap (option_map (λ (z : Kind). z ∷ [])) kind.1 ∙ ap (λ o. Some (kinds (bound n o))) (sym kind.1);
          differ = λ none. pushed_differ (names v) n none (λ among. here.unmet condition.DuplicateVariable (duplicate_let n e among));
        }
    fits_here v (Label n x) ok fine =
        subst (FitsHere v (step_of number (Label n x))) (sym (ap (λ z. z ++ (n, Span) ∷ []) (no_binds v x ok)))
        (label_fits v n (unfiltered x) (patterns_of (Label n x)) (term_of x ok) (fine (at v (unfiltered x)) (main_in v (Label n x) ok))
        (λ among. (fine (at v (Label n x)) (contains_first (at v (Label n x)) (inside v (Label n x)))).unmet condition.DuplicateVariable
        (duplicate_label n x among)))
    fits_here v (Filtered y fs) ok fine =
        subst (FitsHere v (step_of number (Filtered y fs))) (sym (no_binds v (Filtered y fs) ok))
        (plain_fits v y (patterns_of (Filtered y fs)) ok.1 (fine (at v y) (main_in v (Filtered y fs) ok)))
    fits_here v (Literal w) ok fine = plain_fits v (Literal w) [] ok (fine (at v (Literal w)) (main_in v (Literal w) ok))
    fits_here v (OneOf w) ok fine = plain_fits v (OneOf w) [] ok (fine (at v (OneOf w)) (main_in v (OneOf w) ok))
    fits_here v (Call n es) ok fine = plain_fits v (Call n es) [] ok (fine (at v (Call n es)) (main_in v (Call n es) ok))
    fits_here v x ok fine = absurd ok

    -- all steps, and what is visible behind the last
    pub record AllFit (v : Visible) (steps : List Step) : Type 0 where
      pub fits : AreFit core (names v) (kinds v) steps
      pub differ : NoneTwice (names v) → NoneTwice (names v ++ flat_map names_of steps)

    pub all_fit : (v : Visible) (xs : List Symbol) → Each (Fine g shapes decl) v xs → All (Remains Any) xs → AllFit v (steps_of number xs)
    all_fit v [] each all =
        record {
          fits = no_steps (names v) (kinds v);
          differ = λ none. subst (λ (z : List (List ℕ)). NoneTwice z) (sym (append-nil (names v))) none;
        }
    all_fit v (x ∷ xs) each all =
        let here = fits_here v x (All-head (Remains Any) x xs all) each.0 in
        let rest = all_fit (v ++ binds v x) xs each.1 (All-tail (Remains Any) x xs all) in
        let names_are : names (v ++ binds v x) ≡ names v ++ names_of (step_of number x) =
        map-append (λ p. p.0) v (binds v x) ∙ ap (λ z. names v ++ z) (sym here.bound_names) in
        let kinds_are : kinds (v ++ binds v x) ≡ kinds v ++ kinds (binds v x) = map-append (λ p. p.1) v (binds v x) in
        record {
          fits =
              next_step (names v) (kinds v) (kinds (binds v x)) (step_of number x) (steps_of number xs) here.bound_kinds here.expressions here.call
              (subst (λ z. AreFit core (names v ++ names_of (step_of number x)) z (steps_of number xs)) kinds_are
              (subst (λ z. AreFit core z (kinds (v ++ binds v x)) (steps_of number xs)) names_are rest.fits));
          differ = λ none.
              subst (λ (z : List (List ℕ)). NoneTwice z)
              (ap (λ z. z ++ flat_map names_of (steps_of number xs)) names_are ∙
              append_assoc (names v) (names_of (step_of number x)) (flat_map names_of (steps_of number xs)))
              (rest.differ (subst (λ (z : List (List ℕ)). NoneTwice z) (sym names_are) (here.differ none)));
        }
