-- The steps before an item's dot and those behind it lead from the start of its instance; so a complete item has a tree.
use Rattle.std.proofs.Common.{◌≡◌, ℕ, suc, ◌≤◌, List, [], ◌∷◌, ◌++◌, Some, length, take, slice_get, refl, sym, ap, ◌∙◌, subst, take_all, le_of_eq, append_assoc}
use Rattle.std.proofs.lemmas.List.{append-nil}
use Rattle.ig_text.specs.Input.{Input}
use Rattle.ig_text.proofs.Trees.{join_join, join-none}
use Rattle.ig_text.proofs.Lists.{take_step}
use Rattle.ig_text.specs.Tree.{Trees, Leaf, Node, none, more, one, join}
use Rattle.ig_expr.specs.declared.value.Value.{Value}
use Rattle.ig_item.specs.Step.{Step, Test, Bind, Term, Call, names_of}
use Rattle.ig_item.specs.Core.{IsAlternative}
use Rattle.ig_item.specs.Visible.{names_at}
use Rattle.ig_item.specs.ItemTrees as trees
use Rattle.ig_item.specs.ItemTrees.{Passes, Comes}
use Rattle.ig_item.specs.CoreTrees as core_trees
use Rattle.ig_item.specs.CoreTrees.{Leads, HasTree, CoreTree}
use Rattle.ig_item.specs.Items.{Item, first, past, span_of, StandsBefore, IsComplete}
use Rattle.ig_item.specs.declared.core_grammar.Nonterminal.{Nonterminal}
use Rattle.ig_item.specs.declared.core_grammar.CoreAlt.{CoreAlt}
use Rattle.ig_item.specs.declared.items.Instance.{Instance}
use Rattle.ig_item.proofs.Dots.{names_step, same_alternative}

-- an item of an instance
abbrev pub item_at : Instance → ℕ → ℕ → List Value → ℕ → Item
item_at instance a dot env i = record { instance = instance; alternative = a; dot = dot; env = env; position = i }

module _ (core : List Nonterminal) (text : Input) where
  -- whatever the steps behind the dot lead to, the steps before it and those lead there from the start
  pub record Before (x : Item) (ts : Trees) : Type 0 where
    pub nonterminal : Nonterminal
    pub alternative : CoreAlt
    pub has : IsAlternative core x.instance.nonterminal x.alternative nonterminal alternative
    pub leads : (others : List Step) (j : ℕ) (us : Trees) →
        Leads core text (names_at nonterminal alternative x.dot) x.env others x.position j us →
        Leads core text nonterminal.params x.instance.values (take x.dot alternative.steps ++ others) x.instance.start j
        (join ts us)

  first_before : (instance : Instance) (a : ℕ) (nonterminal : Nonterminal) (alternative : CoreAlt) →
      IsAlternative core instance.nonterminal a nonterminal alternative → Before (first instance a) none
  first_before instance a nonterminal alternative has =
      record {
        nonterminal = nonterminal;
        alternative = alternative;
        has = has;
        leads = λ others j us l.
            subst (λ (ns : List (List ℕ)). Leads core text ns instance.values others instance.start j us)
            (append-nil nonterminal.params) l;
      }

  -- a step that leads on from the item to another one, with these trees
  abbrev LeadsOn : Item → List (List ℕ) → Step → List Value → ℕ → Trees → Type 0
  LeadsOn it names step vs h extra =
      (others : List Step) (j : ℕ) (us : Trees) → Leads core text (names ++ names_of step) (it.env ++ vs) others h j us →
      Leads core text names it.env (step ∷ others) it.position j (join extra us)

  step_before : (it : Item) (ts : Trees) (names : List (List ℕ)) (step : Step) (vs : List Value) (h : ℕ) (extra : Trees) →
      Before it ts → StandsBefore core it names step → LeadsOn it names step vs h extra →
      Before (past it vs h) (join ts extra)
  step_before it ts names step vs h extra b s on =
      let same = same_alternative core it.instance.nonterminal it.alternative s.nonterminal b.nonterminal s.alternative b.alternative s.has b.has in
      let next : slice_get b.alternative.steps it.dot ≡ Some step =
      ap (λ (a : CoreAlt). slice_get a.steps it.dot) (sym same.alternatives) ∙ s.next in
      let visible : names ≡ names_at b.nonterminal b.alternative it.dot =
      s.visible ∙ (λ i. names_at (same.nonterminals i) (same.alternatives i) it.dot) in
      let behind : names_at b.nonterminal b.alternative (suc it.dot) ≡ names ++ names_of step =
      names_step b.nonterminal b.alternative it.dot step next ∙
      ap (λ (ns : List (List ℕ)). ns ++ names_of step) (sym visible) in
      let before : List Step = take it.dot b.alternative.steps in
      record {
        nonterminal = b.nonterminal;
        alternative = b.alternative;
        has = b.has;
        leads = λ others j us l.
            let l_here = subst (λ (ns : List (List ℕ)). Leads core text ns (it.env ++ vs) others h j us) behind l in
            let l_on = on others j us l_here in
            let l_from = subst (λ (ns : List (List ℕ)). Leads core text ns it.env (step ∷ others) it.position j (join extra us)) visible l_on in
            let l_whole = b.leads (step ∷ others) j (join extra us) l_from in
            let steps : before ++ (step ∷ others) ≡ take (suc it.dot) b.alternative.steps ++ others =
            sym (append_assoc before (step ∷ []) others) ∙
            ap (λ (xs : List Step). xs ++ others) (sym (take_step b.alternative.steps it.dot step next)) in
            subst (λ (xs : List Step). Leads core text b.nonterminal.params it.instance.values xs it.instance.start j (join (join ts extra) us))
            steps
            (subst (λ (zs : Trees). Leads core text b.nonterminal.params it.instance.values (before ++ (step ∷ others)) it.instance.start j zs)
            (sym (join_join ts extra us)) l_whole);
      }

  -- a complete item has a tree
  complete_tree : (x : Item) (ts : Trees) → Before x ts → (c : IsComplete core x) →
      HasTree core text x.instance.nonterminal x.instance.values x.instance.start x.position
      (Node c.alternative.tag x.instance.start x.position ts)
  complete_tree x ts b c =
      let same = same_alternative core x.instance.nonterminal x.alternative b.nonterminal c.nonterminal b.alternative c.alternative b.has c.has in
      let last : length b.alternative.steps ≤ x.dot =
      le_of_eq (ap (λ (a : CoreAlt). length a.steps) same.alternatives ∙ sym c.last) in
      let l = b.leads [] x.position none (core_trees.done (names_at b.nonterminal b.alternative x.dot) x.env x.position) in
      let steps : take x.dot b.alternative.steps ++ [] ≡ b.alternative.steps =
      append-nil (take x.dot b.alternative.steps) ∙ take_all x.dot b.alternative.steps last in
      let whole =
      subst (λ (xs : List Step). Leads core text b.nonterminal.params x.instance.values xs x.instance.start x.position ts) steps
      (subst (λ (zs : Trees). Leads core text b.nonterminal.params x.instance.values (take x.dot b.alternative.steps ++ []) x.instance.start x.position zs)
      (join-none ts) l) in
      core_trees.node x.instance.nonterminal x.alternative x.instance.values b.nonterminal b.alternative x.instance.start
      x.position ts (Node c.alternative.tag x.instance.start x.position ts) b.has whole
      (ap (λ (a : CoreAlt). Node a.tag x.instance.start x.position ts) (sym same.alternatives))

  -- the step before which the item stands leads on
  passes_before : (it : Item) (ts : Trees) (bound : List Value) (j : ℕ) (us : Trees) → Before it ts →
      Passes core text it bound j us → Before (past it bound j) (join ts us)
  passes_before it ts _ j _ b (trees.test names e _ before holds here) =
      subst (λ (i : ℕ). Before (past it [] i) (join ts none)) (sym here)
      (step_before it ts names (Test e) [] it.position none b before
      (λ others j us l.
      core_trees.test names it.env e others it.position j us holds
      (subst (λ (ns : List (List ℕ)). Leads core text ns it.env others it.position j us) (append-nil names)
      (subst (λ (vs : List Value). Leads core text (names ++ []) vs others it.position j us) (append-nil it.env) l))))
  passes_before it ts _ j _ b (trees.bind names name e v _ before has here) =
      subst (λ (i : ℕ). Before (past it (v ∷ []) i) (join ts none)) (sym here)
      (step_before it ts names (Bind name e) (v ∷ []) it.position none b before
      (λ others j us l. core_trees.bind names it.env name e v others it.position j us has l))
  passes_before it ts bound j us b (trees.terminal names what label excluded _ _ _ before matches free bound_is us_is) =
      subst (λ (vs : List Value). Before (past it vs j) (join ts us)) (sym bound_is)
      (subst (λ (zs : Trees). Before (past it (span_of label it.position j) j) (join ts zs)) (sym us_is)
      (step_before it ts names (Term what label excluded) (span_of label it.position j) j (one (Leaf it.position j)) b before
      (λ others h zs l.
      core_trees.terminal names it.env what label excluded others it.position j h zs (more (Leaf it.position j) zs) matches
      free l refl)))
  passes_before it ts bound j us b (trees.call callee label excluded t _ _ _ calls tree free bound_is us_is) =
      let here = subst (λ (i : ℕ). HasTree core text callee.nonterminal callee.values i j t) calls.here tree in
      subst (λ (vs : List Value). Before (past it vs j) (join ts us)) (sym bound_is)
      (subst (λ (zs : Trees). Before (past it (span_of label it.position j) j) (join ts zs)) (sym us_is)
      (step_before it ts calls.names (Call callee.nonterminal calls.arguments label excluded) (span_of label it.position j) j
      (one t) b calls.before
      (λ others h zs l.
      core_trees.call calls.names it.env callee.nonterminal calls.arguments label excluded callee.values others it.position j
      h t zs (more t zs) calls.values here free l refl)))

  comes_before : {x : Item} {ts : Trees} → Comes core text x ts → (nonterminal : Nonterminal) (alternative : CoreAlt) →
      IsAlternative core x.instance.nonterminal x.alternative nonterminal alternative → Before x ts
  comes_before (trees.begin instance a x e) nonterminal alternative has =
      subst (λ (z : Item). Before z none) (sym e)
      (first_before instance a nonterminal alternative
      (subst (λ (z : Item). IsAlternative core z.instance.nonterminal z.alternative nonterminal alternative) e has))
  comes_before (trees.further it bound j ts us vs x comes passes e vs_is) nonterminal alternative has =
      subst (λ (z : Item). Before z vs) (sym e)
      (subst (λ (zs : Trees). Before (past it bound j) zs) (sym vs_is)
      (passes_before it ts bound j us
      (comes_before comes nonterminal alternative
      (subst (λ (z : Item). IsAlternative core z.instance.nonterminal z.alternative nonterminal alternative) e has))
      passes))

  -- a complete item to which steps lead has a tree
  pub comes_tree : (x : Item) (ts : Trees) → Comes core text x ts → (c : IsComplete core x) →
      HasTree core text x.instance.nonterminal x.instance.values x.instance.start x.position
      (Node c.alternative.tag x.instance.start x.position ts)
  comes_tree x ts comes c = complete_tree x ts (comes_before comes c.nonterminal c.alternative c.has) c
