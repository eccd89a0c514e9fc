-- What is annotated in the source is annotated without lists, with the same values.
use Rattle.std.proofs.Common.{◌≡◌, ℕ, suc, ◌+◌, Bool, true, List, [], ◌∷◌, ◌++◌, map, refl, sym, ◌∙◌, ap}
use Rattle.std.proofs.Common.{subst, Some, None}
use Rattle.std.specs.Prelude.{◌&&◌, not}
use Rattle.std.proofs.lemmas.List.{append-nil, append_assoc, map-append}
use Rattle.std.proofs.lemmas.Bool.{or_left, or_right, and_parts, and_from}
use Rattle.ig_text.specs.Input.{Input}
use Rattle.ig_ebnf_variables.proofs.AddedInstances.{alternative_at, form_call}
use Rattle.ig_ebnf_variables.proofs.Definitions.{has, find, Binds as Shows, Agree, Keeps, Quiet, Proper, SymbolsProper, AllDeclared}
use Rattle.ig_ebnf_variables.proofs.Definitions.{IsForm, IsSingle, Takes}
use Rattle.ig_ebnf_variables.proofs.EntryValues.{binds_replaced, argument_value, arguments_to}
use Rattle.ig_ebnf_variables.proofs.Environments.{Adds, adds_nothing, adds_one, adds_both, binds_more, binds_parameters, bound_to}
use Rattle.ig_ebnf_variables.proofs.Environments.{keeps_append, has_to, have_to, held, holding, params_wanted, has_params, enter}
use Rattle.ig_ebnf_variables.proofs.Environments.{entered_agrees, zipped, Holds, valued}
use Rattle.ig_ebnf_variables.proofs.Forth.{form_single}
use Rattle.ig_ebnf_variables.proofs.ValuedParts.{lone_element, form_binds, parts_form, parts_need, Fit, new_parts, parts_made}
use Rattle.ig_ebnf_variables.specs.Lists.{count, params_for, arguments, argument, elements, all_elements, entering}
use Rattle.ig_ebnf_variables.specs.Lists.{made, new_symbol, new_element, new, new_symbols, added, added_symbols, new_declaration}
use Rattle.ig_expr.specs.ValuedTree.{Tree, Trees, Node, none, more, one, join}
use Rattle.ig_expr.specs.declared.kind.Kind.TheVariants.{Span}
use Rattle.ig_expr.specs.declared.value.Value.{Value}
use Rattle.ig_expr.specs.JoinedTrees.{join_join, join-none}
use Rattle.ig_grammar.specs.Numbering.{tag_of}
use Rattle.ig_grammar.specs.Symbol.{Symbol, gathered}
use Rattle.ig_grammar.specs.Visible.{Visible, binds, all_bind, bound, kind_at, parameters}
use Rattle.ig_grammar.specs.Visible as visible
use Rattle.ig_grammar.specs.declared.declaration.Assoc.TheVariants.{Free}
use Rattle.ig_grammar.specs.declared.declaration.DeclKind.{DeclKind}
use Rattle.ig_grammar.specs.declared.declaration.DeclKind.TheVariants.{Plain}
use Rattle.ig_grammar.specs.declared.grammar.Grammar.{Grammar}
use Rattle.ig_grammar.specs.declared.place.Shape.{Shape}
use Rattle.ig_grammar.specs.Gathered.{gathered_listed}
use Rattle.ig_meaning.specs.Annotated as a
use Rattle.ig_meaning.specs.Annotated.{bound_between, Bind, Binds, BindApart, Within, Behind}
use Rattle.ig_meaning.specs.Derivation.{span_value}
use Rattle.ig_meaning.specs.Environment.{Environment, values}
use Rattle.ig_pass.specs.Added.{added_name}
use Rattle.ig_pass.specs.Grown.{values_behind}
use Rattle.ig_pass.specs.Needs.{needs, symbols_need, bindings_use, is_bound}
use Rattle.ig_ebnf_variables.proofs.Elements.{declared_first, declared_second}

-- both environments grow by the same
pub record Grown (env env' after left : Environment) : Type 0 where
  pub behind : Environment
  pub source : after ≡ env ++ behind
  pub lower : left ≡ env' ++ behind

-- by nothing, by one more binding, and by what two symbols bind
grown_none : (env env' : Environment) → Grown env env' env env'
grown_none env env' = record { behind = []; source = sym (append-nil env); lower = sym (append-nil env') }

grown_one : {env env' between left after : Environment} (name : List ℕ) (w : Value) → Grown env env' between left →
    after ≡ between ++ (name, w) ∷ [] → Grown env env' after (left ++ (name, w) ∷ [])
grown_one {env = env} {env' = env'} name w grown after =
    let more = (name, w) ∷ [] in
    record {
      behind = grown.behind ++ more;
      source = after ∙ ap (λ z. z ++ more) grown.source ∙ append_assoc env grown.behind more;
      lower = ap (λ z. z ++ more) grown.lower ∙ append_assoc env' grown.behind more;
    }

grown_both : {env env' between left after out : Environment} → Grown env env' between left →
    Grown between left after out → Grown env env' after out
grown_both {env = env} {env' = env'} first second = record {
  behind = first.behind ++ second.behind;
  source =
      second.source ∙ ap (λ z. z ++ second.behind) first.source ∙ append_assoc env first.behind second.behind;
  lower = second.lower ∙ ap (λ z. z ++ second.behind) first.lower ∙ append_assoc env' first.behind second.behind;
}

-- so names that had the same values still have
grown_keeps : {env env' after left : Environment} → Grown env env' after left → Keeps env env' after left
grown_keeps {env = env} {env' = env'} grown = record {
  at = λ n e.
      ap (λ z. find z n) grown.source ∙ (keeps_append env env' grown.behind).at n e ∙
      ap (λ z. find z n) (sym grown.lower);
}

-- and the same values are bound
grown_values : {env env' after left : Environment} (grown : Grown env env' after left) →
    bound_between env after ≡ values grown.behind
grown_values {env = env} grown = ap (bound_between env) grown.source ∙ values_behind env grown.behind

pub same_values : {env env' after left : Environment} → Grown env env' after left →
    bound_between env after ≡ bound_between env' left
same_values {env' = env'} grown =
    grown_values grown ∙ sym (ap (bound_between env') grown.lower ∙ values_behind env' grown.behind)

module _ (g : Grammar) (shapes : List Shape) (text : Input) where
  -- what symbols bind, and others behind them, all bind together
  joined : {c : DeclKind} {xs ys : List Symbol} {env between after : Environment} {i h j : ℕ} {ts us : Trees} →
      Bind g shapes text c xs env i h ts between → Bind g shapes text c ys between h j us after →
      Bind g shapes text c (xs ++ ys) env i j (join ts us) after
  joined (a.nothing c env i) second = second
  joined {ys = ys} {after = after} {us = us} (a.next c x others env between out i e h j ts rs vs head rest trees)
      second =
      a.next c x (others ++ ys) env between after i e h _ ts (join rs us) _ head (joined rest second)
      (ap (λ z. join z us) trees ∙ join_join ts rs us)

  pub record Bare (e j : ℕ) (us : Trees) : Type 0 where
    pub place : e ≡ j
    pub trees : us ≡ none

  -- where no layout is behind tokens, nothing is
  bare_behind : {c kind : DeclKind} {e j : ℕ} {us : Trees} → Quiet g c → Behind g shapes text c kind e j us → Bare e j us
  bare_behind quiet (a.layout name kind e j t declared inside) =
      let bad : Some name ≡ None = sym declared ∙ quiet refl in
      absurd (cc)
  bare_behind quiet (a.no_layout c kind e undeclared) = record { place = refl; trees = refl }

  -- what symbols bind is what they add to the environment
  module _ (May : List ℕ → Type 0) where
    mutual
      bind_adds : {c : DeclKind} {ys : List Symbol} {env after : Environment} {i j : ℕ} {vs : Trees} →
          Bind g shapes text c ys env i j vs after → (v : Visible) → SymbolsProper May v (gathered ys) →
          Adds (all_bind v (gathered ys)) env after
      bind_adds (a.nothing c env i) v p = adds_nothing env
      bind_adds (a.next c x others env between after i e h j ts us vs head rest trees) v p =
          adds_both (binds_add head v p.0) (bind_adds rest (v ++ binds v x) p.1)

      binds_add : {c : DeclKind} {x : Symbol} {env after : Environment} {i e j : ℕ} {ts : Trees} →
          Binds g shapes text c x env i e j ts after → (v : Visible) → Proper May v x → Adds (binds v x) env after
      binds_add (a.literal c word env i e j us behind) v p = adds_nothing env
      binds_add (a.one_of c class env i e j us behind) v p = adds_nothing env
      binds_add (a.call c kind name arguments vs env i e j t us have inside behind) v p = adds_nothing env
      binds_add (a.label c name x env between after i e j ts inner bound) v p =
          subst (Adds (binds v x ++ (name, Span) ∷ []) env) (sym bound)
          (adds_both (binds_add inner v p.1) (adds_one between name (span_value i e) Span))
      binds_add (a.guard c condition env i) v p = adds_nothing env
      binds_add (a.let_be c name expression w env after i value_is is) v p =
          subst (Adds (bound name (kind_at v expression)) env) (sym is)
          (subst (λ z. Adds (bound name z) env (env ++ (name, w) ∷ [])) (sym p.1) (adds_one env name w p.0))
      binds_add (a.node c x form parts env i j ts bound has apart) v p =
          subst (λ z. Adds z env env) (sym (form_binds v x (parts_form has))) (adds_nothing env)
      binds_add (a.round c x y env after i e j ts a.offside inner) v p = absurd p
      binds_add (a.round c x y env after i e j ts a.ignore inner) v p = absurd p
      binds_add (a.round c x y env after i e j ts a.align inner) v p = absurd p
      binds_add (a.round c x y env after i e j ts (a.filtered filters) inner) v p = binds_add inner v p.1
      binds_add (a.sequence c xs env after i j ts inner) v p =
          subst (λ z. Adds (all_bind v z) env after) (gathered_listed xs)
          (bind_adds inner v (subst (SymbolsProper May v) (sym (gathered_listed xs)) p))
      binds_add (a.entry c bindings x vs env inside after i e j ts have renewed inner) v p = adds_nothing env

module _ (g g' : Grammar) (shapes shapes' : List Shape) (May : List ℕ → Type 0) (text : Input)
    (takes : Takes g g' shapes shapes' May) where
  -- the same trees without lists, from an environment that grows by the same
  pub record BindTo (c : DeclKind) (zs : List Symbol) (env env' : Environment) (i j : ℕ) (ts : Trees)
      (after : Environment) : Type 0 where
    pub left : Environment
    pub bind : Bind g' shapes' text c zs env' i j ts left
    pub grown : Grown env env' after left

  pub record OneTo (c : DeclKind) (z : Symbol) (env env' : Environment) (i e j : ℕ) (ts : Trees)
      (after : Environment) : Type 0 where
    pub left : Environment
    pub binds : Binds g' shapes' text c z env' i e j ts left
    pub grown : Grown env env' after left

  -- an option, a list or a group is the node of the declaration that is added for it
  pub record FormTo (of : List ℕ) (v : Visible) (k : ℕ) (x : Symbol) (env : Environment) (i j : ℕ)
      (ts : Trees) : Type 0 where
    pub t : Tree
    pub trees : ts ≡ one t
    pub within : (ws : List Value) → Holds (params_for v (λ n. needs n x)) env ws →
        Within g' shapes' text (added_name of k) ws Plain i j t

  -- what stands in place of a symbol
  pub record BindsTo (of : List ℕ) (v : Visible) (k : ℕ) (c : DeclKind) (x : Symbol) (env env' : Environment)
      (i e j : ℕ) (ts : Trees) (after : Environment) : Type 0 where
    pub all : BindTo c (new of v k x) env env' i j ts after
    pub single : IsSingle x → OneTo c (new_symbol of v k x) env env' i e j ts after
    pub form : IsForm x → FormTo of v k x env i j ts

  -- parts that stand one behind another bind what each of them binds
  pub record ApartTo (zs : List Symbol) (low : Environment) (i j : ℕ) (ts : Trees) (bound : List Value) : Type 0 where
    pub left : Environment
    pub bind : Bind g' shapes' text Plain zs low i j ts left
    pub behind : Environment
    pub lower : left ≡ low ++ behind
    pub valued : bound ≡ values behind

  -- for a symbol that is no sequence one symbol stands
  alone : {of : List ℕ} {v : Visible} {k : ℕ} {c : DeclKind} {x : Symbol} {env env' : Environment} {i e j : ℕ}
      {ts : Trees} {after : Environment} → IsSingle x → (IsForm x → FormTo of v k x env i j ts) →
      OneTo c (new_symbol of v k x) env env' i e j ts after → BindsTo of v k c x env env' i e j ts after
  alone {of = of} {v = v} {k = k} {c = c} {x = x} {env = env} {env' = env'} {i = i} {e = e} {j = j} {ts = ts}
      {after = after} single form here =
      record {
        all = record {
          left = here.left;
          bind =
              subst (λ z. Bind g' shapes' text c (map (new_element of) z) env' i j ts here.left)
              (sym (lone_element v k x single))
              (a.next c (new_symbol of v k x) [] env' here.left here.left i e j j ts none ts here.binds
              (a.nothing c here.left j) (sym (join-none ts)));
          grown = here.grown;
        };
        single = λ s. here;
        form = form;
      }

  quiet' : {c : DeclKind} → Quiet g c → Quiet g' c
  quiet' q e = takes.layout ∙ q e

  quiet_plain : Quiet g' Plain
  quiet_plain e = absurd (cc)

  -- where there is no layout nothing stands behind tokens, in both grammars
  bare : (d kind : DeclKind) → Quiet g' d → (e : ℕ) → Behind g' shapes' text d kind e e none
  bare d kind q e = a.no_layout d kind e (λ s l. q s)

  behind_to : {c kind : DeclKind} {e j : ℕ} {us : Trees} (d : DeclKind) → Quiet g c → Quiet g' d →
      Behind g shapes text c kind e j us → Behind g' shapes' text d kind e j us
  behind_to {kind = kind} {e = e} {us = us} d q q' behind =
      let parts = bare_behind g shapes text q behind in
      subst (λ z. Behind g' shapes' text d kind e z us) parts.place
      (subst (λ z. Behind g' shapes' text d kind e e z) (sym parts.trees) (bare d kind q' e))

  -- environments that agree at names agree at some of them
  part : {wanted some : List ℕ → Bool} {env env' : Environment} → Agree wanted env env' →
      ((n : List ℕ) → some n ≡ true → wanted n ≡ true) → Agree some env env'
  part s sub = record { at = λ n u. s.at n (sub n u) }

  mutual
    -- symbols, each symbol, and the nodes of nonterminals keep their trees with values
    pub bind_to : {c : DeclKind} {ys : List Symbol} {env after : Environment} {i j : ℕ} {vs : Trees} →
        Bind g shapes text c ys env i j vs after → (of : List ℕ) (v : Visible) (k : ℕ) (d : DeclKind) →
        Quiet g c → Quiet g' d →
        SymbolsProper May v (gathered ys) → AllDeclared g' shapes' (added_symbols of v k (gathered ys)) →
        Shows v env →
        (env' : Environment) → Agree (λ n. symbols_need n (gathered ys)) env env' →
        BindTo d (new_symbols of v k (gathered ys)) env env' i j vs after
    bind_to (a.nothing c env i) of v k d q q' p all b env' s =
        record { left = env'; bind = a.nothing d env' i; grown = grown_none env env' }
    bind_to (a.next c x others env between after i e h j ts us vs head rest trees) of v k d q q' p all b env' s =
        let w = v ++ binds v x in
        let xs = gathered others in
        let here =
        (binds_to head of v k d q q' p.0
        (declared_first g' shapes' May (added of v k x) (added_symbols of w (k + count x) xs) all) b env'
        (part s (λ n u. or_left (needs n x) (symbols_need n xs) u))).all in
        let next =
        bind_to rest of w (k + count x) d q q' p.1
        (declared_second g' shapes' May (added of v k x) (added_symbols of w (k + count x) xs) all)
        (binds_more b (binds_add g shapes text May head v p.0)) here.left
        (record {
          at = λ n u.
              (grown_keeps here.grown).at n (s.at n (or_right (needs n x) (symbols_need n xs) u));
        }) in
        record {
          left = next.left;
          bind =
              subst (λ z. Bind g' shapes' text d z env' i j vs next.left)
              (sym (map-append (new_element of) (elements v k x) (all_elements w (k + count x) xs)))
              (subst
              (λ z. Bind g' shapes' text d (new of v k x ++ new_symbols of w (k + count x) xs) env' i j z next.left)
              (sym trees) (joined g' shapes' text here.bind next.bind));
          grown = grown_both here.grown next.grown;
        }

    pub binds_to : {c : DeclKind} {x : Symbol} {env after : Environment} {i e j : ℕ} {ts : Trees} →
        Binds g shapes text c x env i e j ts after → (of : List ℕ) (v : Visible) (k : ℕ) (d : DeclKind) →
        Quiet g c → Quiet g' d →
        Proper May v x → AllDeclared g' shapes' (added of v k x) → Shows v env →
        (env' : Environment) → Agree (λ n. needs n x) env env' → BindsTo of v k d x env env' i e j ts after
    binds_to (a.literal c word env i e j us behind) of v k d q q' p all b env' s =
        alone tt (λ f. absurd f)
        (record {
          left = env';
          binds = a.literal d word env' i e j us (behind_to d q q' behind);
          grown = grown_none env env';
        })
    binds_to (a.one_of c class env i e j us behind) of v k d q q' p all b env' s =
        alone tt (λ f. absurd f)
        (record {
          left = env';
          binds = a.one_of d class env' i e j us (behind_to d q q' behind);
          grown = grown_none env env';
        })
    binds_to (a.call c kind name arguments vs env i e j t us have inside behind) of v k d q q' p all b env' s =
        alone tt (λ f. absurd f)
        (record {
          left = env';
          binds =
              a.call d kind name arguments vs env' i e j t us (have_to text i arguments vs s have) (within_to inside)
              (behind_to d q q' behind);
          grown = grown_none env env';
        })
    binds_to (a.label c name x env between after i e j ts inner bound) of v k d q q' p all b env' s =
        let here = (binds_to inner of v k d q q' p.1 all b env' s).single p.0 in
        alone tt (λ f. absurd f)
        (record {
          left = here.left ++ (name, span_value i e) ∷ [];
          binds = a.label d name (new_symbol of v k x) env' here.left _ i e j ts here.binds refl;
          grown = grown_one name (span_value i e) here.grown bound;
        })
    binds_to (a.guard c condition env i) of v k d q q' p all b env' s =
        alone tt (λ f. absurd f)
        (record { left = env'; binds = a.guard d condition env' i; grown = grown_none env env' })
    binds_to (a.let_be c name expression w env after i value_is bound) of v k d q q' p all b env' s =
        alone tt (λ f. absurd f)
        (record {
          left = env' ++ (name, w) ∷ [];
          binds = a.let_be d name expression w env' _ i (has_to text i expression w s value_is) refl;
          grown = grown_one name w (grown_none env env') bound;
        })
    binds_to (a.node c x form parts env i j ts bound has apart) of v k d q q' p all b env' s =
        let wanted : List ℕ → Bool = λ n. needs n x in
        let ps = params_for v wanted in
        let is_form = parts_form has in
        let m = parts_made g' shapes' May of v has k p all in
        let low : List Value → Environment = λ ws. zipped ps ws in
        let node : FormTo of v k x env i j (one (Node form bound i j ts)) =
        record {
          t = Node form bound i j ts;
          trees = refl;
          within = λ ws holds.
              let agree = entered_agrees v wanted env ws b holds in
              let here = apart_to apart of v m.ks q m.fit b (low ws) (part agree m.wanted) in
              a.alternative (added_name of k) ws Plain m.declared.0 (suc m.n)
              (made (added_name of k) ps m.of_shape m.alts).decl m.of_shape
              (record { alternative = record { symbols = m.symbols }; level = 1; assoc = Free }) (low ws) here.left i j
              ts _ m.declared.1 (m.n, refl, alternative_at m.alts m.n m.symbols m.at) (bound_to ps env ws holds) refl
              (subst (λ z. Bind g' shapes' text Plain z (low ws) i j ts here.left) (sym m.whole) here.bind)
              (ap (λ z. Node z bound i j ts) (sym m.tagged) ∙
              ap (λ z. Node (tag_of m.of_shape m.declared.0 (suc m.n)) z i j ts)
              (here.valued ∙
              sym (ap (bound_between (low ws)) here.lower ∙ values_behind (low ws) here.behind)));
        } in
        let entered = enter v wanted env b in
        alone (form_single x is_form) (λ f. node)
        (record {
          left = env';
          binds =
              subst (λ z. Binds g' shapes' text d z env' i j j (one (Node form bound i j ts)) env')
              (sym (form_call of v k x is_form))
              (a.call d Plain (added_name of k) (arguments [] ps) entered.ws env' i j j node.t none
              (holding text ps env' i entered.ws
              (held ps env env' entered.ws entered.holds (params_wanted v wanted env env' s)))
              (node.within entered.ws entered.holds) (bare d Plain q' j));
          grown = grown_none env env';
        })
    binds_to (a.round c x y env after i e j ts a.offside inner) of v k d q q' p all b env' s = absurd p
    binds_to (a.round c x y env after i e j ts a.ignore inner) of v k d q q' p all b env' s = absurd p
    binds_to (a.round c x y env after i e j ts a.align inner) of v k d q q' p all b env' s = absurd p
    binds_to (a.round c x y env after i e j ts (a.filtered filters) inner) of v k d q q' p all b env' s =
        let here = (binds_to inner of v k d q q' p.1 all b env' s).single p.0 in
        alone tt (λ f. absurd f)
        (record {
          left = here.left;
          binds = a.round d (new_symbol of v k x) _ env' here.left i e j ts (a.filtered filters) here.binds;
          grown = here.grown;
        })
    binds_to (a.sequence c xs env after i j ts inner) of v k d q q' p all b env' s =
        let back = sym (gathered_listed xs) in
        let here = bind_to inner of v k d q q' (subst (SymbolsProper May v) back p)
        (subst (λ z. AllDeclared g' shapes' (added_symbols of v k z)) back all) b env'
        (part s (λ n u. ap (symbols_need n) back ∙ u)) in
        record {
          all = subst (λ z. BindTo d (new_symbols of v k z) env env' i j ts after) (gathered_listed xs) here;
          single = λ no_single. absurd no_single;
          form = λ f. absurd f;
        }
    binds_to (a.entry c bindings x vs env inside after i e j ts have renewed inner) of v k d q q' p all b env' s =
        let w = visible.replaced v v bindings in
        let wanted : List ℕ → Bool = λ n. needs n x in
        let ps = params_for w wanted in
        let binds_in : Shows w inside =
        subst (Shows w) (sym renewed) (binds_replaced text v wanted bindings vs i env v env p.1 have b) in
        let here =
        (binds_to inner of w k d q q' p.2 all binds_in inside (record { at = λ n u. refl })).form p.0 in
        let entered = enter w wanted inside binds_in in
        let same : (n : List ℕ) → has ps n ≡ true → valued text env' i (argument bindings n) ≡ find inside n =
        λ n u. argument_value text v wanted bindings vs i env env' env n p.1 have
        (record { at = λ m y. s.at m (or_left (bindings_use m bindings) (not (is_bound m bindings) && needs m x) y) })
        (λ y. s.at n (or_right (bindings_use n bindings) (not (is_bound n bindings) && needs n x)
        (and_from (not (is_bound n bindings)) (needs n x) (ap not y)
        (and_parts (has w n) (needs n x) (sym (has_params w wanted n) ∙ u)).1))) ∙
        ap (λ z. find z n) (sym renewed) in
        alone tt (λ f. absurd f)
        (record {
          left = env';
          binds =
              subst (λ z. Binds g' shapes' text d (entering of k bindings w wanted) env' i j j z env') (sym here.trees)
              (a.call d Plain (added_name of k) (arguments bindings ps) entered.ws env' i j j here.t none
              (arguments_to text bindings ps i env' inside entered.ws same entered.holds)
              (here.within entered.ws entered.holds) (bare d Plain q' j));
          grown = grown_none env env';
        })

    -- parts stand in an alternative one behind another, and none sees what those before it bind
    pub apart_to : {c : DeclKind} {xs : List Symbol} {env : Environment} {i j : ℕ} {ts : Trees} {bound : List Value} →
        BindApart g shapes text c xs env i j ts bound → (of : List ℕ) (v : Visible) (ks : List ℕ) → Quiet g c →
        Fit g' shapes' May of v xs ks → Shows v env → (low : Environment) → Agree (λ n. parts_need n xs) env low →
        ApartTo (new_parts g' shapes' May of v xs ks) low i j ts bound
    apart_to (a.no_part c env i) of v ks q fit b low s =
        record { left = low; bind = a.nothing Plain low i; behind = []; lower = sym (append-nil low); valued = refl }
    apart_to (a.next_part c x others env after i e h j ts us vs some bound head rest trees all) of v [] q fit b low s =
        absurd fit
    apart_to (a.next_part c x others env after i e h j ts us vs some bound head rest trees all) of v (k ∷ ks) q fit b
        low s =
        let here =
        (binds_to head of v k Plain q quiet_plain fit.0 fit.1 b low
        (part s (λ n u. or_left (needs n x) (parts_need n others) u))).all in
        let adds = binds_add g shapes text May head v fit.0 in
        let next =
        apart_to rest of v ks q fit.3 b here.left
        (record {
          at = λ n u. sym (adds.others n (fit.2 n u)) ∙
              (grown_keeps here.grown).at n (s.at n (or_right (needs n x) (parts_need n others) u));
        }) in
        record {
          left = next.left;
          bind =
              subst
              (λ z. Bind g' shapes' text Plain (new of v k x ++ new_parts g' shapes' May of v others ks) low i j z
              next.left)
              (sym trees) (joined g' shapes' text here.bind next.bind);
          behind = here.grown.behind ++ next.behind;
          lower = next.lower ∙ ap (λ z. z ++ next.behind) here.grown.lower ∙
              append_assoc low here.grown.behind next.behind;
          valued = all ∙ (λ z. grown_values here.grown z ++ next.valued z) ∙
              sym (map-append (λ pair. pair.1) here.grown.behind next.behind);
        }

    pub within_to : {name : List ℕ} {vs : List Value} {kind : DeclKind} {i e : ℕ} {t : Tree} →
        Within g shapes text name vs kind i e t → Within g' shapes' text name vs kind i e t
    within_to (a.alternative name vs kind d n decl sh by env after i e ts t declares numbered bound same inner tree) =
        let num = takes.numbered_to name d decl sh declares n by numbered in
        let q : Quiet g kind = λ z. takes.quiet name d decl sh declares (sym same ∙ z) in
        let here =
        bind_to inner decl.name (parameters decl.params) num.begins.k kind q (quiet' q) num.begins.proper
        num.begins.present (binds_parameters decl.params vs env bound) env (record { at = λ m u. refl }) in
        a.alternative name vs kind d n (new_declaration decl) sh num.lower env here.left i e ts t
        (takes.forth name d decl sh declares) num.numbered bound same
        (subst (λ z. Bind g' shapes' text kind z env i e ts here.left) (sym num.same) here.bind)
        (tree ∙ ap (λ z. Node (tag_of sh d n) z i e ts) (same_values here.grown))
