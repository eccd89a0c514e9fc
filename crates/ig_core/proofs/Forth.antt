-- What symbols cover, their steps lead over.
use Rattle.std.proofs.Common.{◌≡◌, ℕ, List, [], ◌∷◌, ◌++◌, Option, Some, None, refl, sym, ap, ◌∙◌, subst}
use Rattle.std.specs.Prelude.{All}
use Rattle.std.proofs.lemmas.List.{append-nil}
use Rattle.std.proofs.lemmas.List.Elements.{All-nil, All-head, All-tail}
use Rattle.ig_text.specs.Input.{Input}
use Rattle.ig_text.specs.Tree.{Tree, Trees, Leaf, none, more, join}
use Rattle.ig_text.specs.declared.pattern.Pattern.{Pattern}
use Rattle.ig_text.specs.Pattern.{Matches}
use Rattle.ig_text.specs.declared.pattern.Pattern.TheVariants as pattern
use Rattle.ig_expr.specs.declared.value.Value.{Value}
use Rattle.ig_grammar.specs.Symbol.{Symbol}
use Rattle.ig_meaning.specs.Environment.{Environment, names, values, HaveValues}
use Rattle.ig_meaning.specs.Derivation.{Covers, Derives, Instance, Trails}
use Rattle.ig_meaning.specs.Derivation.{empty, symbol, literal, one_of, token, call, label, guard, let_be, filtered, alternative, layout, no_layout, outside}
use Rattle.ig_grammar.specs.declared.declaration.DeclKind.{DeclKind}
use Rattle.ig_grammar.specs.declared.grammar.Grammar.{Grammar}
use Rattle.ig_grammar.specs.declared.place.Shape.{Shape}
use Rattle.ig_item.specs.Step.{Step, labels}
use Rattle.ig_item.specs.Items.{MatchesNone}
use Rattle.ig_item.specs.CoreTrees as trees
use Rattle.ig_item.specs.CoreTrees.{Leads, HasTree}
use Rattle.ig_item.specs.declared.core_grammar.Nonterminal.{Nonterminal}
use Rattle.ig_pass.specs.Remaining.{IsTerm, IsExcluding, Remains, exclusions}
use Rattle.ig_core.specs.Steps.{step_with, step_of, steps_of}
use Rattle.ig_core.proofs.Numbers.{made, Numbers}
use Rattle.ig_core.proofs.Environments.{bound, with_label, with_let, values_to, bound_names, bound_values, passes_to}

module _ (g : Grammar) (shapes : List Shape) (nonterminals : List Nonterminal) (number : List ℕ → ℕ) (May : List ℕ → ℕ → Type 0) (text : Input)
    (numbers : Numbers g shapes nonterminals number May) where
  -- nothing stands behind a token
  trail : {c : DeclKind} {e j : ℕ} {us : Trees} → Trails g shapes text c e j us → (e ≡ j) × (us ≡ none)
  trail (layout name kind e j t starts is instance) = let h = numbers.no_layout in absurd (cc)
  trail (no_layout e is) = (refl, refl)
  trail (outside c e other) = (refl, refl)

  -- steps in the environment
  abbrev LeadsIn : Environment → List Step → ℕ → ℕ → Trees → Type 0
  LeadsIn env steps i j ts = Leads nonterminals text (names env) (values env) steps i j ts

  -- a leaf and then the rest
  leaf : (env after : Environment) (what : Pattern) (l : Option (List ℕ)) (excluded : List Pattern) (rest : List Step) (i e h j : ℕ) (us ts : Trees) →
      Matches text what i e → MatchesNone text excluded i e → after ≡ env ++ bound l i e → e ≡ h → LeadsIn after rest h j us → ts ≡ more (Leaf i e) us →
      LeadsIn env (Rattle.ig_item.specs.Step.Term what l excluded ∷ rest) i j ts
  leaf env after what l excluded rest i e h j us ts matches free is at leads whole =
      trees.terminal (names env) (values env) what l excluded rest i e j us ts matches free
      (with_label (λ ns ws. Leads nonterminals text ns ws rest e j us) env after l i e is (subst (λ z. LeadsIn after rest z j us) (sym at) leads)) whole

  -- a tree and then the rest
  child : (env after : Environment) (name : List ℕ) (arguments : List Rattle.ig_expr.specs.Expression.Expression) (l : Option (List ℕ)) (excluded : List Pattern)
      (vs : List Value) (rest : List Step) (i e h j : ℕ) (t : Tree) (us ts : Trees) →
      HaveValues text env i arguments vs → HasTree nonterminals text (number name) vs i e t → MatchesNone text excluded i e → after ≡ env ++ bound l i e → e ≡ h →
      LeadsIn after rest h j us → ts ≡ more t us →
      LeadsIn env (Rattle.ig_item.specs.Step.Call (number name) arguments l excluded ∷ rest) i j ts
  child env after name arguments l excluded vs rest i e h j t us ts have tree free is at leads whole =
      trees.call (names env) (values env) (number name) arguments l excluded vs rest i e j t us ts (values_to text env i have) tree free
      (with_label (λ ns ws. Leads nonterminals text ns ws rest e j us) env after l i e is (subst (λ z. LeadsIn after rest z j us) (sym at) leads)) whole

  all_free : (i e : ℕ) → MatchesNone text [] i e
  all_free i e = All-nil (λ p. Matches text p i e → ⊥)

  unbound : (env : Environment) (i e : ℕ) → env ≡ env ++ bound None i e
  unbound env i e = sym (append-nil env)

  mutual
    pub leads : {c : DeclKind} {xs : List Symbol} {env after : Environment} {i j : ℕ} {ts : Trees} {starts : List ℕ} →
        Covers g shapes text c xs env i j ts after starts → All (Remains May) xs → LeadsIn env (steps_of number xs) i j ts
    leads (empty c env i) all = trees.done (names env) (values env) i
    leads (symbol c x others env between after i e h j ts us vs ks ls starts head rest whole exposes) all =
        subst (LeadsIn env (steps_of number (x ∷ others)) i j) (sym whole)
        (step head (All-head (Remains May) x others all) (steps_of number others) j us (leads rest (All-tail (Remains May) x others all)))

    -- the step of a symbol, and then the rest
    step : {c : DeclKind} {x : Symbol} {env between : Environment} {i e h : ℕ} {ts : Trees} {ks : List ℕ} →
        Derives g shapes text c x env i e h ts between ks → Remains May x → (rest : List Step) (j : ℕ) (us : Trees) → LeadsIn between rest h j us →
        LeadsIn env (step_of number x ∷ rest) i j (join ts us)
    step (label c name x env between after i e h ts starts head is) ok rest j us others =
        labelled head ok (Some name) is rest j us others
    step (guard c condition env i holds) ok rest j us others = trees.test (names env) (values env) condition rest i j us holds others
    step (let_be c name value v env after i has is) ok rest j us others =
        trees.bind (names env) (values env) name value v rest i j us has
        (with_let (λ ns ws. Leads nonterminals text ns ws rest i j us) env after name v is others)
    step (filtered c x fs env after i e h ts starts head passes) ok rest j us others =
        main head ok.1 None (unbound after i e) (exclusions fs) (passes_to text i e fs ok.0 passes) rest j us others
    step (literal c word env i e h vs ts starts spells trails whole exposes) ok rest j us others =
        let t = trail trails in
        leaf env env (pattern.Literal word) None [] rest i e h j us (join ts us) spells (all_free i e) (unbound env i e) t.0 others
        (ap (λ z. join z us) (whole ∙ ap (more (Leaf i e)) t.1))
    step (one_of c class env i e h vs ts starts has trails whole exposes) ok rest j us others =
        let t = trail trails in
        leaf env env (pattern.OneOf class) None [] rest i e h j us (join ts us) has (all_free i e) (unbound env i e) t.0 others
        (ap (λ z. join z us) (whole ∙ ap (more (Leaf i e)) t.1))
    step (token c name arguments ws env i e h t vs ts ks starts have instance trails whole exposes) ok rest j us others =
        let behind = trail trails in
        child env env name arguments None [] ws rest i e h j t us (join ts us) have (tree instance ok) (all_free i e) (unbound env i e) behind.0 others
        (ap (λ z. join z us) (whole ∙ ap (more t) behind.1))
    step (call c kind name arguments ws env i h t starts have instance other) ok rest j us others =
        child env env name arguments None [] ws rest i h h j t us (more t us) have (tree instance ok) (all_free i h) (unbound env i h) refl others refl
    step d ok rest j us others = absurd ok

    labelled : {c : DeclKind} {x : Symbol} {env between : Environment} {i e h : ℕ} {ts : Trees} {ks : List ℕ} →
        Derives g shapes text c x env i e h ts between ks → IsExcluding May x → (l : Option (List ℕ)) → {after : Environment} → after ≡ between ++ bound l i e →
        (rest : List Step) (j : ℕ) (us : Trees) → LeadsIn after rest h j us →
        LeadsIn env (step_with number l (Rattle.ig_pass.specs.Remaining.excluded_of x) (Rattle.ig_pass.specs.Remaining.unfiltered x) ∷ rest) i j (join ts us)
    labelled (filtered c x fs env after i e h ts starts head passes) ok l is rest j us others =
        main head ok.1 l is (exclusions fs) (passes_to text i e fs ok.0 passes) rest j us others
    labelled (literal c word env i e h vs ts starts spells trails whole exposes) ok l {after} is rest j us others =
        let t = trail trails in
        leaf env after (pattern.Literal word) l [] rest i e h j us (join ts us) spells (all_free i e) is t.0 others
        (ap (λ z. join z us) (whole ∙ ap (more (Leaf i e)) t.1))
    labelled (one_of c class env i e h vs ts starts has trails whole exposes) ok l {after} is rest j us others =
        let t = trail trails in
        leaf env after (pattern.OneOf class) l [] rest i e h j us (join ts us) has (all_free i e) is t.0 others
        (ap (λ z. join z us) (whole ∙ ap (more (Leaf i e)) t.1))
    labelled (token c name arguments ws env i e h t vs ts ks starts have instance trails whole exposes) ok l {after} is rest j us others =
        let behind = trail trails in
        child env after name arguments l [] ws rest i e h j t us (join ts us) have (tree instance ok) (all_free i e) is behind.0 others
        (ap (λ z. join z us) (whole ∙ ap (more t) behind.1))
    labelled (call c kind name arguments ws env i h t starts have instance other) ok l {after} is rest j us others =
        child env after name arguments l [] ws rest i h h j t us (more t us) have (tree instance ok) (all_free i h) is refl others refl
    labelled d ok l is rest j us others = absurd ok

    -- the main step of a symbol
    main : {c : DeclKind} {x : Symbol} {env between : Environment} {i e h : ℕ} {ts : Trees} {ks : List ℕ} →
        Derives g shapes text c x env i e h ts between ks → IsTerm May x → (l : Option (List ℕ)) → {after : Environment} → after ≡ between ++ bound l i e →
        (excluded : List Pattern) → MatchesNone text excluded i e → (rest : List Step) (j : ℕ) (us : Trees) → LeadsIn after rest h j us →
        LeadsIn env (step_with number l excluded x ∷ rest) i j (join ts us)
    main (literal c word env i e h vs ts starts spells trails whole exposes) ok l {after} is excluded free rest j us others =
        let t = trail trails in
        leaf env after (pattern.Literal word) l excluded rest i e h j us (join ts us) spells free is t.0 others
        (ap (λ z. join z us) (whole ∙ ap (more (Leaf i e)) t.1))
    main (one_of c class env i e h vs ts starts has trails whole exposes) ok l {after} is excluded free rest j us others =
        let t = trail trails in
        leaf env after (pattern.OneOf class) l excluded rest i e h j us (join ts us) has free is t.0 others
        (ap (λ z. join z us) (whole ∙ ap (more (Leaf i e)) t.1))
    main (token c name arguments ws env i e h t vs ts ks starts have instance trails whole exposes) ok l {after} is excluded free rest j us others =
        let behind = trail trails in
        child env after name arguments l excluded ws rest i e h j t us (join ts us) have (tree instance ok) free is behind.0 others
        (ap (λ z. join z us) (whole ∙ ap (more t) behind.1))
    main (call c kind name arguments ws env i h t starts have instance other) ok l {after} is excluded free rest j us others =
        child env after name arguments l excluded ws rest i h h j t us (more t us) have (tree instance ok) free is refl others refl
    main d ok l is excluded free rest j us others = absurd ok

    tree : {name : List ℕ} {n : ℕ} {vs : List Value} {kind : DeclKind} {i e : ℕ} {t : Tree} {starts : List ℕ} →
        Instance g shapes text name vs kind i e t starts → May name n → HasTree nonterminals text (number name) vs i e t
    tree {n = n} (alternative name vs kind d k decl shape a env after i e ts t starts declares numbered are_bound same covers whole) ok =
        let target = numbers.forth name n d k decl shape a ok declares numbered in
        trees.node (number name) k vs target.nonterminal (made number shape d k a) i e ts t target.has
        (subst (λ z. Leads nonterminals text z vs (steps_of number a.alternative.symbols) i e ts) (bound_names are_bound ∙ sym target.params)
        (subst (λ z. Leads nonterminals text (names env) z (steps_of number a.alternative.symbols) i e ts) (bound_values are_bound)
        (leads covers (numbers.remains name d k decl shape a declares numbered)))) whole
