-- What steps lead over, their symbols cover.
use Rattle.std.proofs.Common.{◌≡◌, ℕ, List, [], ◌∷◌, ◌++◌, map, length, Option, Some, refl, sym, ap, ◌∙◌, subst}
use Rattle.std.specs.Prelude.{All, ◌⊎◌, ◌≢◌}
use Rattle.std.proofs.lemmas.List.{append-nil, length-map}
use Rattle.std.proofs.lemmas.List.Elements.{All-head, All-tail}
use Rattle.ig_text.specs.Input.{Input}
use Rattle.ig_text.specs.Tree.{Tree, Trees, Leaf, Node, none, more, one}
use Rattle.ig_text.specs.declared.pattern.Pattern.{Pattern}
use Rattle.ig_text.specs.declared.pattern.Pattern.TheVariants as pattern
use Rattle.ig_text.specs.Pattern.{Matches}
use Rattle.ig_expr.specs.Expression.{Expression}
use Rattle.ig_expr.specs.Evaluation.{value_of}
use Rattle.ig_expr.specs.declared.value.Value.{Value}
use Rattle.ig_expr.specs.declared.value.Value.TheVariants as value
use Rattle.ig_grammar.specs.Symbol.{Symbol, Literal, OneOf, Call, Label, Guard, Let, Filtered}
use Rattle.ig_meaning.specs.Environment.{Environment, names, values, HaveValues, AreBound, no_parameters, next_parameter}
use Rattle.ig_meaning.specs.Derivation.{exposed, Covers, Derives, Instance, Trails}
use Rattle.ig_meaning.specs.Derivation.{empty, symbol, literal, one_of, token, call, label, guard, let_be, filtered, alternative, no_layout, outside}
use Rattle.ig_grammar.specs.declared.declaration.Param.{Param}
use Rattle.ig_grammar.specs.declared.declaration.DeclKind.{DeclKind}
use Rattle.ig_grammar.specs.declared.declaration.DeclKind.TheVariants.{Syntax, Lexical, Layout, Plain}
use Rattle.ig_grammar.specs.declared.grammar.Grammar.{Grammar}
use Rattle.ig_grammar.specs.declared.place.Shape.{Shape}
use Rattle.ig_item.specs.Step.{Step, Test, Bind, Term}
use Rattle.ig_item.specs.Step as step
use Rattle.ig_item.specs.Items.{MatchesNone}
use Rattle.ig_item.specs.Core as core
use Rattle.ig_item.specs.CoreTrees as trees
use Rattle.ig_item.specs.CoreTrees.{Leads, HasTree}
use Rattle.ig_item.specs.declared.core_grammar.Nonterminal.{Nonterminal}
use Rattle.ig_item.specs.declared.core_grammar.CoreAlt.{CoreAlt}
use Rattle.ig_pass.specs.Remaining.{IsTerm, IsExcluding, Remains, label_of, patterns_of, main_of, excluded_of, unfiltered}
use Rattle.ig_core.specs.Steps.{step_with, step_of, steps_of}
use Rattle.ig_core.proofs.Numbers.{Numbers}
use Rattle.ig_core.proofs.Environments.{bound, names_bound, values_bound, names_let, values_let, values_from, bound_names, bound_values, passes_from}

module _ (g : Grammar) (shapes : List Shape) (nonterminals : List Nonterminal) (number : List ℕ → ℕ) (May : List ℕ → ℕ → Type 0) (text : Input)
    (numbers : Numbers g shapes nonterminals number May) where
  pub record CoversFrom (c : DeclKind) (xs : List Symbol) (env : Environment) (i j : ℕ) (ts : Trees) : Type 0 where
    pub after : Environment
    pub starts : List ℕ
    pub covers : Covers g shapes text c xs env i j ts after starts

  record InstanceFrom (name : List ℕ) (vs : List Value) (i e : ℕ) (t : Tree) : Type 0 where
    kind : DeclKind
    starts : List ℕ
    instance : Instance g shapes text name vs kind i e t starts

  no_trail : (c : DeclKind) (e : ℕ) → Trails g shapes text c e e none
  no_trail Syntax e = no_layout e numbers.no_layout
  no_trail Lexical e = outside Lexical e (λ h. cc)
  no_trail Layout e = outside Layout e (λ h. cc)
  no_trail Plain e = outside Plain e (λ h. cc)

  -- a symbol is derived as its main symbol, with its exclusions and its label
  abbrev DerivesOne : DeclKind → Symbol → Environment → ℕ → ℕ → Tree → Environment → List ℕ → Type 0
  DerivesOne c x env i e t after starts = Derives g shapes text c x env i e e (one t) after starts

  abbrev Lifts : Symbol → Type 0
  Lifts x =
      (c : DeclKind) (env : Environment) (i e : ℕ) (t : Tree) (starts : List ℕ) → DerivesOne c (main_of x) env i e t env starts →
      MatchesNone text (patterns_of x) i e → DerivesOne c x env i e t (env ++ bound (label_of x) i e) starts

  abbrev LiftsInside : Symbol → Type 0
  LiftsInside x =
      (c : DeclKind) (env : Environment) (i e : ℕ) (t : Tree) (starts : List ℕ) → DerivesOne c (unfiltered x) env i e t env starts →
      MatchesNone text (excluded_of x) i e → DerivesOne c x env i e t env starts

  data Parts : Symbol → Type 0 where
    a_guard : (condition : Expression) → Parts (Guard condition)
    a_let : (name : List ℕ) (value : Expression) → Parts (Let name value)
    a_term : (x : Symbol) → IsTerm May (main_of x) → Lifts x → Parts x

  excluding : (x : Symbol) → IsExcluding May x → IsTerm May (unfiltered x) × LiftsInside x
  excluding (Filtered x fs) ok =
      (ok.1, λ c env i e t starts d free. filtered c x fs env env i e e (one t) starts d (passes_from text i e fs ok.0 free))
  excluding (Literal word) ok = (ok, λ c env i e t starts d free. d)
  excluding (OneOf class) ok = (ok, λ c env i e t starts d free. d)
  excluding (Call name arguments) ok = (ok, λ c env i e t starts d free. d)
  excluding x ok = absurd ok

  unbound : {c : DeclKind} {x : Symbol} {env : Environment} {i e : ℕ} {t : Tree} {starts : List ℕ} → DerivesOne c x env i e t env starts →
      DerivesOne c x env i e t (env ++ []) starts
  unbound {c = c} {x = x} {env = env} {i = i} {e = e} {t = t} {starts = starts} d =
      subst (λ z. DerivesOne c x env i e t z starts) (sym (append-nil env)) d

  parts : (x : Symbol) → Remains May x → Parts x
  parts (Guard condition) ok = a_guard condition
  parts (Let name value) ok = a_let name value
  parts (Label name x) ok =
      let inside = excluding x ok in
      a_term (Label name x) inside.0
      (λ c env i e t starts d free. label c name x env env _ i e e (one t) starts (inside.1 c env i e t starts d free) refl)
  parts (Filtered x fs) ok =
      let inside = excluding (Filtered x fs) ok in
      a_term (Filtered x fs) inside.0 (λ c env i e t starts d free. unbound (inside.1 c env i e t starts d free))
  parts (Literal word) ok = a_term (Literal word) ok (λ c env i e t starts d free. unbound d)
  parts (OneOf class) ok = a_term (OneOf class) ok (λ c env i e t starts d free. unbound d)
  parts (Call name arguments) ok = a_term (Call name arguments) ok (λ c env i e t starts d free. unbound d)
  parts x ok = absurd ok

  no_test : (l : Option (List ℕ)) (ps : List Pattern) (m : Symbol) (e : Expression) → IsTerm May m → Test e ≡ step_with number l ps m → ⊥
  no_test l ps (Literal word) e ok same = cc
  no_test l ps (OneOf class) e ok same = cc
  no_test l ps (Call name arguments) e ok same = cc
  no_test l ps m e ok same = absurd ok

  no_bind : (l : Option (List ℕ)) (ps : List Pattern) (m : Symbol) (n : List ℕ) (e : Expression) → IsTerm May m → Bind n e ≡ step_with number l ps m → ⊥
  no_bind l ps (Literal word) n e ok same = cc
  no_bind l ps (OneOf class) n e ok same = cc
  no_bind l ps (Call name arguments) n e ok same = cc
  no_bind l ps m n e ok same = absurd ok

  -- the symbols whose steps they are
  test_is : {x : Symbol} → Parts x → (e : Expression) → Test e ≡ step_of number x → x ≡ Guard e
  test_is (a_guard condition) e same = cc
  test_is (a_let name value) e same = cc
  test_is (a_term x ok lifts) e same = absurd (no_test (label_of x) (patterns_of x) (main_of x) e ok same)

  bind_is : {x : Symbol} → Parts x → (n : List ℕ) (e : Expression) → Bind n e ≡ step_of number x → x ≡ Let n e
  bind_is (a_guard condition) n e same = cc
  bind_is (a_let name value) n e same = cc
  bind_is (a_term x ok lifts) n e same = absurd (no_bind (label_of x) (patterns_of x) (main_of x) n e ok same)

  record TermIs (m : Symbol) (what : Pattern) (label l : Option (List ℕ)) (excluded ps : List Pattern) : Type 0 where
    derives : (c : DeclKind) (env : Environment) (i e : ℕ) → Matches text what i e → DerivesOne c m env i e (Leaf i e) env (exposed c i)
    labels : label ≡ l
    patterns : excluded ≡ ps

  term_main : (l : Option (List ℕ)) (ps : List Pattern) (m : Symbol) (what : Pattern) (lab : Option (List ℕ)) (excluded : List Pattern) → IsTerm May m →
      Term what lab excluded ≡ step_with number l ps m → TermIs m what lab l excluded ps
  term_main l ps (Literal word) what lab excluded ok same =
      let is : what ≡ pattern.Literal word = cc in
      record {
        derives = λ c env i e matches.
            literal c word env i e e none (one (Leaf i e)) (exposed c i) (subst (λ z. Matches text z i e) is matches) (no_trail c e) refl refl;
        labels = cc;
        patterns = cc;
      }
  term_main l ps (OneOf class) what lab excluded ok same =
      let is : what ≡ pattern.OneOf class = cc in
      record {
        derives = λ c env i e matches.
            one_of c class env i e e none (one (Leaf i e)) (exposed c i) (subst (λ z. Matches text z i e) is matches) (no_trail c e) refl refl;
        labels = cc;
        patterns = cc;
      }
  term_main l ps (Call name arguments) what lab excluded ok same = absurd (cc)
  term_main l ps m what lab excluded ok same = absurd ok

  record CallIs (m : Symbol) (callee : ℕ) (arguments : List Expression) (lab l : Option (List ℕ)) (excluded ps : List Pattern) : Type 0 where
    name : List ℕ
    symbol_is : Call name arguments ≡ m
    numbered : callee ≡ number name
    may : May name (length arguments)
    labels : lab ≡ l
    patterns : excluded ≡ ps

  call_main : (l : Option (List ℕ)) (ps : List Pattern) (m : Symbol) (callee : ℕ) (arguments : List Expression) (lab : Option (List ℕ))
      (excluded : List Pattern) → IsTerm May m → step.Call callee arguments lab excluded ≡ step_with number l ps m →
      CallIs m callee arguments lab l excluded ps
  call_main l ps (Literal word) callee arguments lab excluded ok same = absurd (cc)
  call_main l ps (OneOf class) callee arguments lab excluded ok same = absurd (cc)
  call_main l ps (Call name es) callee arguments lab excluded ok same =
      let is : es ≡ arguments = cc in
      record {
        name = name;
        symbol_is = ap (Call name) (sym is);
        numbered = cc;
        may = subst (λ z. May name (length z)) is ok;
        labels = cc;
        patterns = cc;
      }
  call_main l ps m callee arguments lab excluded ok same = absurd ok

  -- a symbol with its label and its exclusions, and then the rest
  joined : (c : DeclKind) (x : Symbol) (xs : List Symbol) (env : Environment) (lab : Option (List ℕ)) (excluded : List Pattern) (i h j : ℕ) (t : Tree)
      (ts us : Trees) (starts : List ℕ) → Lifts x → lab ≡ label_of x → excluded ≡ patterns_of x → DerivesOne c (main_of x) env i h t env starts →
      MatchesNone text excluded i h → CoversFrom c xs (env ++ bound lab i h) h j ts → us ≡ more t ts → CoversFrom c (x ∷ xs) env i j us
  joined c x xs env lab excluded i h j t ts us starts lifts labels patterns d free rest whole =
      record {
        after = rest.after;
        starts = starts ++ rest.starts;
        covers =
            symbol c x xs env (env ++ bound (label_of x) i h) rest.after i h h j (one t) ts us starts rest.starts _
            (lifts c env i h t starts d (subst (λ z. MatchesNone text z i h) patterns free))
            (subst (λ z. Covers g shapes text c xs (env ++ bound z i h) h j ts rest.after rest.starts) labels rest.covers) whole refl;
      }

  leaf_before : {x : Symbol} → Parts x → (c : DeclKind) (xs : List Symbol) (env : Environment) (what : Pattern) (lab : Option (List ℕ)) (excluded : List Pattern)
      (i h j : ℕ) (ts us : Trees) → Term what lab excluded ≡ step_of number x → Matches text what i h → MatchesNone text excluded i h →
      CoversFrom c xs (env ++ bound lab i h) h j ts → us ≡ more (Leaf i h) ts → CoversFrom c (x ∷ xs) env i j us
  leaf_before (a_guard condition) c xs env what lab excluded i h j ts us same matches free rest whole = absurd (cc)
  leaf_before (a_let name value) c xs env what lab excluded i h j ts us same matches free rest whole = absurd (cc)
  leaf_before (a_term x ok lifts) c xs env what lab excluded i h j ts us same matches free rest whole =
      let is = term_main (label_of x) (patterns_of x) (main_of x) what lab excluded ok same in
      joined c x xs env lab excluded i h j (Leaf i h) ts us (exposed c i) lifts is.labels is.patterns (is.derives c env i h matches) free rest whole

  called : {x : Symbol} → Parts x → (callee : ℕ) (arguments : List Expression) (lab : Option (List ℕ)) (excluded : List Pattern) →
      step.Call callee arguments lab excluded ≡ step_of number x →
      Lifts x × CallIs (main_of x) callee arguments lab (label_of x) excluded (patterns_of x)
  called (a_guard condition) callee arguments lab excluded same = absurd (cc)
  called (a_let name value) callee arguments lab excluded same = absurd (cc)
  called (a_term x ok lifts) callee arguments lab excluded same =
      (lifts, call_main (label_of x) (patterns_of x) (main_of x) callee arguments lab excluded ok same)

  record Derived (c : DeclKind) (x : Symbol) (env : Environment) (i e : ℕ) (t : Tree) : Type 0 where
    starts : List ℕ
    derives : DerivesOne c x env i e t env starts

  called_by : (c : DeclKind) (name : List ℕ) (arguments : List Expression) (vs : List Value) (env : Environment) (i e : ℕ) (t : Tree) →
      HaveValues text env i arguments vs → (kind : DeclKind) (starts : List ℕ) → Instance g shapes text name vs kind i e t starts →
      Derived c (Call name arguments) env i e t
  called_by c name arguments vs env i e t have Lexical ks instance =
      record { starts = exposed c i; derives = token c name arguments vs env i e e t none (one t) ks (exposed c i) have instance (no_trail c e) refl refl }
  called_by c name arguments vs env i e t have Syntax ks instance =
      record { starts = ks; derives = call c Syntax name arguments vs env i e t ks have instance (λ h. cc) }
  called_by c name arguments vs env i e t have Layout ks instance =
      record { starts = ks; derives = call c Layout name arguments vs env i e t ks have instance (λ h. cc) }
  called_by c name arguments vs env i e t have Plain ks instance =
      record { starts = ks; derives = call c Plain name arguments vs env i e t ks have instance (λ h. cc) }

  -- values for all parameters
  binding : (ps : List Param) (vs : List Value) → length ps ≡ length vs → (env : Environment) × AreBound ps vs env
  binding [] [] same = ([], no_parameters)
  binding [] (v ∷ vs) same = cc
  binding (p ∷ ps) [] same = cc
  binding (p ∷ ps) (v ∷ vs) same =
      let others = binding ps vs (cc) in
      ((p.name, v) ∷ others.0, next_parameter p ps v vs ((p.name, v) ∷ others.0) others.0 others.1 refl)

  as_many : (ns : List (List ℕ)) (vals : List Value) (i : ℕ) (es : List Expression) (vs : List Value) →
      map (value_of text ns vals i) es ≡ map Some vs → length es ≡ length vs
  as_many ns vals i es vs same = sym (length-map es (value_of text ns vals i)) ∙ ap length same ∙ length-map vs Some

  mutual
    pub covers : {ns : List (List ℕ)} {vals : List Value} {steps : List Step} {i j : ℕ} {ts : Trees} → Leads nonterminals text ns vals steps i j ts →
        (c : DeclKind) (xs : List Symbol) → All (Remains May) xs → steps ≡ steps_of number xs → (env : Environment) → ns ≡ names env → vals ≡ values env →
        CoversFrom c xs env i j ts
    covers (trees.done ns vals i) c [] all same env n v = record { after = env; starts = []; covers = empty c env i }
    covers (trees.done ns vals i) c (x ∷ xs) all same env n v = cc
    covers (trees.test ns vals e others i j ts holds rest) c [] all same env n v = cc
    covers (trees.test ns vals e others i j ts holds rest) c (x ∷ xs) all same env n v =
        let is = test_is (parts x (All-head (Remains May) x xs all)) e (cc) in
        let next = covers rest c xs (All-tail (Remains May) x xs all) (cc) env n v in
        record {
          after = next.after;
          starts = next.starts;
          covers =
              symbol c x xs env env next.after i i i j none ts ts [] next.starts next.starts
              (subst (λ z. Derives g shapes text c z env i i i none env []) (sym is)
              (guard c e env i
              (subst (λ z. value_of text z (values env) i e ≡ Some (value.Bool Rattle.std.specs.Prelude.true)) n
              (subst (λ z. value_of text ns z i e ≡ Some (value.Bool Rattle.std.specs.Prelude.true)) v holds)))) next.covers refl refl;
        }
    covers (trees.bind ns vals name e w others i j ts has rest) c [] all same env n v = cc
    covers (trees.bind ns vals name e w others i j ts has rest) c (x ∷ xs) all same env n v =
        let is = bind_is (parts x (All-head (Remains May) x xs all)) name e (cc) in
        let next =
        covers rest c xs (All-tail (Remains May) x xs all) (cc) (env ++ (name, w) ∷ []) (ap (λ z. z ++ name ∷ []) n ∙ sym (names_let env name w))
        (ap (λ z. z ++ w ∷ []) v ∙ sym (values_let env name w)) in
        record {
          after = next.after;
          starts = next.starts;
          covers =
              symbol c x xs env (env ++ (name, w) ∷ []) next.after i i i j none ts ts [] next.starts next.starts
              (subst (λ z. Derives g shapes text c z env i i i none (env ++ (name, w) ∷ []) []) (sym is)
              (let_be c name e w env (env ++ (name, w) ∷ []) i
              (subst (λ z. value_of text z (values env) i e ≡ Some w) n (subst (λ z. value_of text ns z i e ≡ Some w) v has)) refl)) next.covers refl refl;
        }
    covers (trees.terminal ns vals what lab excluded others i h j ts us matches free rest whole) c [] all same env n v = cc
    covers (trees.terminal ns vals what lab excluded others i h j ts us matches free rest whole) c (x ∷ xs) all same env n v =
        let next =
        covers rest c xs (All-tail (Remains May) x xs all) (cc) (env ++ bound lab i h) (ap (λ z. z ++ step.labels lab) n ∙ sym (names_bound env lab i h))
        (ap (λ z. z ++ Rattle.ig_item.specs.Items.span_of lab i h) v ∙ sym (values_bound env lab i h)) in
        leaf_before (parts x (All-head (Remains May) x xs all)) c xs env what lab excluded i h j ts us (cc) matches free next whole
    covers (trees.call ns vals callee arguments lab excluded ws others i h j t ts us have tree free rest whole) c [] all same env n v = cc
    covers (trees.call ns vals callee arguments lab excluded ws others i h j t ts us have tree free rest whole) c (x ∷ xs) all same env n v =
        let next =
        covers rest c xs (All-tail (Remains May) x xs all) (cc) (env ++ bound lab i h) (ap (λ z. z ++ step.labels lab) n ∙ sym (names_bound env lab i h))
        (ap (λ z. z ++ Rattle.ig_item.specs.Items.span_of lab i h) v ∙ sym (values_bound env lab i h)) in
        let is = called (parts x (All-head (Remains May) x xs all)) callee arguments lab excluded (cc) in
        let from = instance tree is.1.name (length arguments) is.1.numbered is.1.may (as_many ns vals i arguments ws have) in
        let there : HaveValues text env i arguments ws =
        values_from text env i arguments ws
        (subst (λ z. map (value_of text z (values env) i) arguments ≡ map Some ws) n
        (subst (λ z. map (value_of text ns z i) arguments ≡ map Some ws) v have)) in
        let derived = called_by c is.1.name arguments ws env i h t there from.kind from.starts from.instance in
        joined c x xs env lab excluded i h j t ts us derived.starts is.0 is.1.labels is.1.patterns
        (subst (λ z. DerivesOne c z env i h t env derived.starts) is.1.symbol_is derived.derives) free next whole

    instance : {k : ℕ} {vs : List Value} {i e : ℕ} {t : Tree} → HasTree nonterminals text k vs i e t → (name : List ℕ) (n : ℕ) → k ≡ number name → May name n →
        n ≡ length vs → InstanceFrom name vs i e t
    instance (trees.node k a vs nonterminal alt i e ts t has leads whole) name n same may many =
        let s = numbers.back name n a nonterminal alt may (subst (λ z. core.IsAlternative nonterminals z a nonterminal alt) same has) in
        let env = binding s.decl.params vs (s.arity ∙ many) in
        let from =
        covers leads s.decl.kind s.a.alternative.symbols (numbers.remains name s.d a s.decl s.shape s.a s.declares s.numbered)
        (ap (λ (z : CoreAlt). z.steps) s.same) env.0 (s.params ∙ sym (bound_names env.1)) (sym (bound_values env.1)) in
        record {
          kind = s.decl.kind;
          starts = from.starts;
          instance =
              alternative name vs s.decl.kind s.d a s.decl s.shape s.a env.0 from.after i e ts t from.starts s.declares s.numbered env.1 refl from.covers
              (whole ∙ ap (λ (z : CoreAlt). Node z.tag i e ts) s.same);
        }
