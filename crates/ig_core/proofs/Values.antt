-- The values that symbols bind, their steps bind.
use Rattle.std.proofs.Common.{◌≡◌, ℕ, List, [], ◌∷◌, ◌++◌, length, drop, Option, Some, None, refl, sym, ap, ◌∙◌, subst}
use Rattle.std.specs.Prelude.{All}
use Rattle.std.proofs.lemmas.List.{append-nil, length-map}
use Rattle.std.proofs.lemmas.List.Elements.{All-head, All-tail}
use Rattle.ig_text.specs.Input.{Input}
use Rattle.ig_text.specs.declared.pattern.Pattern.{Pattern}
use Rattle.ig_text.specs.declared.pattern.Pattern.TheVariants as pattern
use Rattle.ig_text.specs.declared.tag.Tag.{Tag}
use Rattle.ig_expr.specs.Expression.{Expression}
use Rattle.ig_expr.specs.ValuedTree.{Tree, Trees, Leaf, Node, none, more, join}
use Rattle.ig_expr.specs.declared.value.Value.{Value}
use Rattle.ig_grammar.specs.Symbol.{Symbol}
use Rattle.ig_grammar.specs.Numbering.{tag_of}
use Rattle.ig_grammar.specs.declared.declaration.DeclKind.{DeclKind}
use Rattle.ig_grammar.specs.declared.grammar.Grammar.{Grammar}
use Rattle.ig_grammar.specs.declared.place.Shape.{Shape}
use Rattle.ig_meaning.specs.Annotated.{Bind, Binds, Within, Behind, HasParts, IsRound, bound_between}
use Rattle.ig_meaning.specs.Annotated.{nothing, next, literal, one_of, call, label, guard, let_be, node, round, filtered, absent, alternative, layout, no_layout}
use Rattle.ig_meaning.specs.Environment.{Environment, names, values, HaveValues}
use Rattle.ig_item.specs.Annotated as item
use Rattle.ig_item.specs.Annotated.{Leaves}
use Rattle.ig_item.specs.Step as step
use Rattle.ig_item.specs.Step.{Step}
use Rattle.ig_item.specs.declared.core_grammar.Nonterminal.{Nonterminal}
use Rattle.ig_pass.specs.Remaining.{IsTerm, IsExcluding, Remains, exclusions, excluded_of, unfiltered}
use Rattle.ig_core.specs.Steps.{step_with, step_of, steps_of}
use Rattle.ig_core.proofs.Environments.{bound, with_label, with_let, values_to, bound_names, bound_values}
use Rattle.ig_core.proofs.Numbers.{made, Numbers}

-- what has parts doesn't remain
no_parts : (May : List ℕ → ℕ → Type 0) {x : Symbol} {form : Tag} {parts : List Symbol} → HasParts x form parts →
    (Remains May x → ⊥) × (IsExcluding May x → ⊥) × (IsTerm May x → ⊥)
no_parts May (absent x) = ((λ ok. ok), (λ ok. ok), (λ ok. ok))
no_parts May has = ((λ ok. ok), (λ ok. ok), (λ ok. ok))

-- nor is a mark, or a filter, a term
no_mark : (May : List ℕ → ℕ → Type 0) {x y : Symbol} → IsRound x y → IsTerm May y → ⊥
no_mark May (filtered fs) ok = ok
no_mark May mark ok = ok

-- as many values are bound between as behind the first ones
behind_values : (env after : Environment) (vs : List Value) → values env ≡ vs → bound_between env after ≡ drop (length vs) (values after)
behind_values env after vs is = ap (λ n. drop n (values after)) (sym (length-map env (λ p. p.1)) ∙ ap length is)

module _ (g : Grammar) (shapes : List Shape) (nonterminals : List Nonterminal) (number : List ℕ → ℕ) (May : List ℕ → ℕ → Type 0) (text : Input)
    (numbers : Numbers g shapes nonterminals number May) where
  -- nothing stands behind a token
  behind : {c kind : DeclKind} {e j : ℕ} {us : Trees} → Behind g shapes text c kind e j us → (e ≡ j) × (us ≡ none)
  behind (layout name kind e j t is within) = let h = numbers.no_layout in absurd (cc)
  behind (no_layout c kind e free) = (refl, refl)

  -- steps from one environment to another
  abbrev LeavesIn : Environment → List Step → ℕ → ℕ → Trees → Environment → Type 0
  LeavesIn env steps i j ts after = Leaves nonterminals text (names env) (values env) steps i j ts (values after)

  -- a leaf and then the rest
  leaf : (env between after : Environment) (what : Pattern) (l : Option (List ℕ)) (excluded : List Pattern) (rest : List Step) (i e h j : ℕ) (vs us : Trees) →
      between ≡ env ++ bound l i e → (e ≡ h) × (vs ≡ none) → LeavesIn between rest h j us after →
      LeavesIn env (step.Term what l excluded ∷ rest) i j (join (more (Leaf i e) vs) us) after
  leaf env between after what l excluded rest i e h j vs us is end others =
      item.terminal (names env) (values env) what l excluded rest i e j us (join (more (Leaf i e) vs) us) (values after)
      (with_label (λ ns ws. Leaves nonterminals text ns ws rest e j us (values after)) env between l i e is
      (subst (λ z. LeavesIn between rest z j us after) (sym end.0) others)) (ap (λ z. more (Leaf i e) (join z us)) end.1)

  -- a node and then the rest
  child : (env between after : Environment) (name : List ℕ) (arguments : List Expression) (l : Option (List ℕ)) (excluded : List Pattern) (ws : List Value)
      (rest : List Step) (i e h j : ℕ) (t : Tree) (vs us : Trees) → HaveValues text env i arguments ws →
      item.Within nonterminals text (number name) ws i e t → between ≡ env ++ bound l i e → (e ≡ h) × (vs ≡ none) → LeavesIn between rest h j us after →
      LeavesIn env (step.Call (number name) arguments l excluded ∷ rest) i j (join (more t vs) us) after
  child env between after name arguments l excluded ws rest i e h j t vs us have within is end others =
      item.call (names env) (values env) (number name) arguments l excluded ws rest i e j t us (join (more t vs) us) (values after)
      (values_to text env i have) within
      (with_label (λ ns zs. Leaves nonterminals text ns zs rest e j us (values after)) env between l i e is
      (subst (λ z. LeavesIn between rest z j us after) (sym end.0) others)) (ap (λ z. more t (join z us)) end.1)

  unbound : (env : Environment) (i e : ℕ) → env ≡ env ++ bound None i e
  unbound env i e = sym (append-nil env)

  mutual
    pub leaves : {c : DeclKind} {xs : List Symbol} {env after : Environment} {i j : ℕ} {ts : Trees} →
        Bind g shapes text c xs env i j ts after → All (Remains May) xs → LeavesIn env (steps_of number xs) i j ts after
    leaves (nothing c env i) all = item.done (names env) (values env) i
    leaves (next c x others env between after i e h j ts us vs head rest whole) all =
        subst (λ z. LeavesIn env (steps_of number (x ∷ others)) i j z after) (sym whole)
        (first head (All-head (Remains May) x others all) (steps_of number others) j us after (leaves rest (All-tail (Remains May) x others all)))

    -- the step of a symbol, and then the rest
    first : {c : DeclKind} {x : Symbol} {env between : Environment} {i e h : ℕ} {ts : Trees} → Binds g shapes text c x env i e h ts between →
        Remains May x → (rest : List Step) (j : ℕ) (us : Trees) (after : Environment) → LeavesIn between rest h j us after →
        LeavesIn env (step_of number x ∷ rest) i j (join ts us) after
    first (literal c word env i e h vs end) ok rest j us after others =
        leaf env env after (pattern.Literal word) None [] rest i e h j vs us (unbound env i e) (behind end) others
    first (one_of c class env i e h vs end) ok rest j us after others =
        leaf env env after (pattern.OneOf class) None [] rest i e h j vs us (unbound env i e) (behind end) others
    first (call c kind name arguments ws env i e h t vs have within end) ok rest j us after others =
        child env env after name arguments None [] ws rest i e h j t vs us have (node_to within ok) (unbound env i e) (behind end) others
    first (label c name x env before between i e h ts head is) ok rest j us after others = labelled head ok (Some name) is rest j us after others
    first (guard c condition env i) ok rest j us after others =
        item.test (names env) (values env) condition rest i j us (values after) others
    first (let_be c name value v env between i has is) ok rest j us after others =
        item.bind (names env) (values env) name value v rest i j us (values after) has
        (with_let (λ ns ws. Leaves nonterminals text ns ws rest i j us (values after)) env between name v is others)
    first (round c x y env between i e h ts (filtered fs) head) ok rest j us after others =
        term head ok.1 None (unbound between i e) (exclusions fs) rest j us after others
    first (node c x form parts env i j ts inside has apart) ok rest k us after others = absurd ((no_parts May has).0 ok)
    first d ok rest j us after others = absurd ok

    labelled : {c : DeclKind} {x : Symbol} {env before : Environment} {i e h : ℕ} {ts : Trees} → Binds g shapes text c x env i e h ts before →
        IsExcluding May x → (l : Option (List ℕ)) → {between : Environment} → between ≡ before ++ bound l i e → (rest : List Step) (j : ℕ) (us : Trees)
        (after : Environment) → LeavesIn between rest h j us after →
        LeavesIn env (step_with number l (excluded_of x) (unfiltered x) ∷ rest) i j (join ts us) after
    labelled (literal c word env i e h vs end) ok l {between} is rest j us after others =
        leaf env between after (pattern.Literal word) l [] rest i e h j vs us is (behind end) others
    labelled (one_of c class env i e h vs end) ok l {between} is rest j us after others =
        leaf env between after (pattern.OneOf class) l [] rest i e h j vs us is (behind end) others
    labelled (call c kind name arguments ws env i e h t vs have within end) ok l {between} is rest j us after others =
        child env between after name arguments l [] ws rest i e h j t vs us have (node_to within ok) is (behind end) others
    labelled (round c x y env before i e h ts (filtered fs) head) ok l is rest j us after others =
        term head ok.1 l is (exclusions fs) rest j us after others
    labelled (node c x form parts env i j ts inside has apart) ok l is rest k us after others = absurd ((no_parts May has).1 ok)
    labelled d ok l is rest j us after others = absurd ok

    -- the main step of a symbol
    term : {c : DeclKind} {x : Symbol} {env before : Environment} {i e h : ℕ} {ts : Trees} → Binds g shapes text c x env i e h ts before →
        IsTerm May x → (l : Option (List ℕ)) → {between : Environment} → between ≡ before ++ bound l i e → (excluded : List Pattern) (rest : List Step) (j : ℕ)
        (us : Trees) (after : Environment) → LeavesIn between rest h j us after → LeavesIn env (step_with number l excluded x ∷ rest) i j (join ts us) after
    term (literal c word env i e h vs end) ok l {between} is excluded rest j us after others =
        leaf env between after (pattern.Literal word) l excluded rest i e h j vs us is (behind end) others
    term (one_of c class env i e h vs end) ok l {between} is excluded rest j us after others =
        leaf env between after (pattern.OneOf class) l excluded rest i e h j vs us is (behind end) others
    term (call c kind name arguments ws env i e h t vs have within end) ok l {between} is excluded rest j us after others =
        child env between after name arguments l excluded ws rest i e h j t vs us have (node_to within ok) is (behind end) others
    term (round c x y env before i e h ts mark head) ok l is excluded rest j us after others = absurd (no_mark May mark ok)
    term (node c x form parts env i j ts inside has apart) ok l is excluded rest k us after others = absurd ((no_parts May has).2 ok)
    term d ok l is excluded rest j us after others = absurd ok

    node_to : {name : List ℕ} {n : ℕ} {vs : List Value} {kind : DeclKind} {i e : ℕ} {t : Tree} → Within g shapes text name vs kind i e t →
        May name n → item.Within nonterminals text (number name) vs i e t
    node_to {n = n} (alternative name vs kind d k decl shape a env after i e ts t declares numbered are_bound same binds whole) ok =
        let target = numbers.forth name n d k decl shape a ok declares numbered in
        item.node (number name) k vs target.nonterminal (made number shape d k a) i e ts (values after) t target.has
        (subst (λ z. Leaves nonterminals text z vs (steps_of number a.alternative.symbols) i e ts (values after)) (bound_names are_bound ∙ sym target.params)
        (subst (λ z. Leaves nonterminals text (names env) z (steps_of number a.alternative.symbols) i e ts (values after)) (bound_values are_bound)
        (leaves binds (numbers.remains name d k decl shape a declares numbered)))) (whole ∙ ap (λ z. Node (tag_of shape d k) z i e ts) (behind_values env after vs (bound_values are_bound)))
