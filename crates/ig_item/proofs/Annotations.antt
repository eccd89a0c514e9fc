-- What steps leave, with the trees of an item: its position and its environment.
use Rattle.std.proofs.Common.{◌≡◌, ℕ, suc, List, [], ◌∷◌, ◌++◌, Option, Some, take, slice_get, refl, sym, ap, ap₂, ◌∙◌, subst, append_assoc}
use Rattle.std.specs.List.{flat_map}
use Rattle.std.proofs.lemmas.List.{append-nil}
use Rattle.std.proofs.lemmas.Option.{same_Some}
use Rattle.ig_text.specs.Input.{Input}
use Rattle.ig_text.specs.Tree as plain
use Rattle.ig_text.proofs.Trees.{join-none, parted}
use Rattle.ig_text.proofs.Lists.{take_step}
use Rattle.ig_text.proofs.Options.{one_value}
use Rattle.ig_expr.specs.ValuedTree as valued
use Rattle.ig_expr.specs.ValuedTree.{bare_tree, bare_trees}
use Rattle.ig_expr.specs.Evaluation.{value_of}
use Rattle.ig_expr.specs.declared.value.Value.{Value}
use Rattle.ig_item.specs.Annotated as annotated
use Rattle.ig_item.specs.Annotated.{Leaves, Within}
use Rattle.ig_item.specs.Core.{IsAlternative}
use Rattle.ig_item.specs.CoreTrees as core_trees
use Rattle.ig_item.specs.CoreTrees.{HasTree}
use Rattle.ig_item.specs.ItemTrees as trees
use Rattle.ig_item.specs.ItemTrees.{Comes, Passes}
use Rattle.ig_item.specs.Items.{Item, first, past, span_of, StandsBefore}
use Rattle.ig_item.specs.Laws.{LeavesAlone, LeaveInTurn, StepsLeaveInTurn, StepsLeaveEnvironments}
use Rattle.ig_item.specs.Step.{Step, Test, Bind, Term, Call, labels, names_of}
use Rattle.ig_item.specs.Visible.{names_at}
use Rattle.ig_item.specs.declared.core_grammar.Nonterminal.{Nonterminal}
use Rattle.ig_item.specs.declared.core_grammar.CoreAlt.{CoreAlt}
use Rattle.ig_item.specs.declared.items.Instance.{Instance}
use Rattle.ig_item.proofs.Dots.{same_alternative}

module _ (core : List Nonterminal) (text : Input) where
  -- one step alone
  single : {names : List (List ℕ)} {env : List Value} {i j : ℕ} {ts : valued.Trees} {after : List Value} → (step : Step) →
      Leaves core text names env (step ∷ []) i j ts after → LeavesAlone core text names env step i j ts after
  single (Test e) (annotated.test names env c _ i j ts after (annotated.done ns vs h)) = (refl, refl, refl)
  single (Bind name e) (annotated.bind names env x c v _ i j ts after has (annotated.done ns vs h)) =
      (v, has, refl, refl, refl)
  single (Term what label excluded) (annotated.terminal names env pattern own others _ i h j ts us after (annotated.done ns vs k) is) =
      (is, refl)
  single (Call callee arguments label excluded) (annotated.call names env n given own others values _ i h j t ts us after have within (annotated.done ns vs k) is) =
      (values, t, have, within, is, refl)

  -- what steps and one behind them leave in turn
  abbrev Turn : List (List ℕ) → List Value → List Step → Step → ℕ → ℕ → valued.Trees → List Value → Type 0
  Turn names env steps last i j ts after = LeaveInTurn core text names env steps last i j ts after

  split : (steps : List Step) (last : Step) {names : List (List ℕ)} {env : List Value} {i j : ℕ} {ts : valued.Trees}
      {after : List Value} → Leaves core text names env (steps ++ last ∷ []) i j ts after →
      Turn names env steps last i j ts after
  split [] last {names = names} {env = env} {i = i} {j = j} {ts = ts} {after = after} leaves =
      record {
        between = env;
        h = i;
        us = valued.none;
        vs = ts;
        first = annotated.done names env i;
        alone =
            subst (λ (ns : List (List ℕ)). LeavesAlone core text ns env last i j ts after) (sym (append-nil names))
            (single last leaves);
        joined = refl;
        bare = refl;
      }
  split (step ∷ steps) last (annotated.test names env e _ i j ts after rest) =
      let h = split steps last rest in
      record {
        between = h.between;
        h = h.h;
        us = h.us;
        vs = h.vs;
        first = annotated.test names env e steps i h.h h.us h.between h.first;
        alone = h.alone;
        joined = h.joined;
        bare = h.bare;
      }
  split (step ∷ steps) last (annotated.bind names env name e v _ i j ts after has rest) =
      let h = split steps last rest in
      record {
        between = h.between;
        h = h.h;
        us = h.us;
        vs = h.vs;
        first = annotated.bind names env name e v steps i h.h h.us h.between has h.first;
        alone =
            subst (λ (ns : List (List ℕ)). LeavesAlone core text ns h.between last h.h j h.vs after)
            (append_assoc names (name ∷ []) (flat_map names_of steps)) h.alone;
        joined = h.joined;
        bare = h.bare;
      }
  split (step ∷ steps) last (annotated.terminal names env what label excluded _ i k j ts us after rest is) =
      let h = split steps last rest in
      let leaf = valued.Leaf i k in
      record {
        between = h.between;
        h = h.h;
        us = valued.more leaf h.us;
        vs = h.vs;
        first =
            annotated.terminal names env what label excluded steps i k h.h h.us (valued.more leaf h.us) h.between h.first refl;
        alone =
            subst (λ (ns : List (List ℕ)). LeavesAlone core text ns h.between last h.h j h.vs after)
            (append_assoc names (labels label) (flat_map names_of steps)) h.alone;
        joined = is ∙ ap (valued.more leaf) h.joined;
        bare = ap bare_trees is ∙ ap (plain.more (plain.Leaf i k)) h.bare;
      }
  split (step ∷ steps) last (annotated.call names env callee arguments label excluded values _ i k j t ts us after have within rest is) =
      let h = split steps last rest in
      record {
        between = h.between;
        h = h.h;
        us = valued.more t h.us;
        vs = h.vs;
        first =
            annotated.call names env callee arguments label excluded values steps i k h.h t h.us (valued.more t h.us) h.between
            have within h.first refl;
        alone =
            subst (λ (ns : List (List ℕ)). LeavesAlone core text ns h.between last h.h j h.vs after)
            (append_assoc names (labels label) (flat_map names_of steps)) h.alone;
        joined = is ∙ ap (valued.more t) h.joined;
        bare = ap bare_trees is ∙ ap (plain.more (bare_tree t)) h.bare;
      }

  -- no steps leave what is there
  nothing : {names : List (List ℕ)} {env : List Value} {i j : ℕ} {ts : valued.Trees} {after : List Value} →
      Leaves core text names env [] i j ts after → (j ≡ i) × (after ≡ env)
  nothing (annotated.done names env i) = (refl, refl)

  -- whatever the steps before the item's dot leave with these trees is the item's
  abbrev Meets : Item → plain.Trees → Type 0
  Meets x us =
      (nonterminal : Nonterminal) (alternative : CoreAlt) (j : ℕ) (ts : valued.Trees) (after : List Value) →
      IsAlternative core x.instance.nonterminal x.alternative nonterminal alternative →
      Leaves core text nonterminal.params x.instance.values (take x.dot alternative.steps) x.instance.start j ts after →
      bare_trees ts ≡ us → (j ≡ x.position) × (after ≡ x.env)

  first_meets : (instance : Instance) (a : ℕ) → Meets (first instance a) plain.none
  first_meets instance a nonterminal alternative j ts after has leaves same = nothing leaves

  -- what the steps before the item and its next step leave
  record Behind (it : Item) (names : List (List ℕ)) (step : Step) (nonterminal : Nonterminal) (alternative : CoreAlt) (j : ℕ)
      (ts : valued.Trees) (after : List Value) : Type 0 where
    turn : Turn nonterminal.params it.instance.values (take it.dot alternative.steps) step it.instance.start j ts after
    visible : nonterminal.params ++ flat_map names_of (take it.dot alternative.steps) ≡ names

  behind : (it : Item) (names : List (List ℕ)) (step : Step) → StandsBefore core it names step → (nonterminal : Nonterminal)
      (alternative : CoreAlt) (j : ℕ) (ts : valued.Trees) (after : List Value) →
      IsAlternative core it.instance.nonterminal it.alternative nonterminal alternative →
      Leaves core text nonterminal.params it.instance.values (take (suc it.dot) alternative.steps) it.instance.start j ts
      after → Behind it names step nonterminal alternative j ts after
  behind it names step s nonterminal alternative j ts after has leaves =
      let same = same_alternative core it.instance.nonterminal it.alternative s.nonterminal nonterminal s.alternative alternative s.has has in
      let next : slice_get alternative.steps it.dot ≡ Some step =
      ap (λ (a : CoreAlt). slice_get a.steps it.dot) (sym same.alternatives) ∙ s.next in
      record {
        turn =
            split (take it.dot alternative.steps) step
            (subst
            (λ (xs : List Step). Leaves core text nonterminal.params it.instance.values xs it.instance.start j ts after)
            (take_step alternative.steps it.dot step next) leaves);
        visible = (λ i. names_at (sym same.nonterminals i) (sym same.alternatives i) it.dot) ∙ sym s.visible;
      }

  -- where trees end
  abbrev end_of : plain.Tree → ℕ
  end_of (plain.Leaf i j) = j
  end_of (plain.Node tag i j ts) = j

  -- a node ends where its steps do
  within_ends : {n : ℕ} {vs : List Value} {i j : ℕ} {t : valued.Tree} → Within core text n vs i j t → end_of (bare_tree t) ≡ j
  within_ends (annotated.node n a vs nonterminal alternative i j ts after t has leaves is) = ap (λ u. end_of (bare_tree u)) is

  tree_ends : {n : ℕ} {vs : List Value} {i j : ℕ} {t : plain.Tree} → HasTree core text n vs i j t → end_of t ≡ j
  tree_ends (core_trees.node n a vs nonterminal alternative i j ts t has leads is) = ap end_of is

  -- trees with none or one behind them, as trees without values are
  none_last : (ts : plain.Trees) (vs : valued.Trees) (us : plain.Trees) →
      plain.join ts (bare_trees vs) ≡ plain.join us plain.none → vs ≡ valued.none → ts ≡ us
  none_last ts vs us e is =
      sym (join-none ts) ∙ ap (λ (zs : valued.Trees). plain.join ts (bare_trees zs)) (sym is) ∙ e ∙ join-none us

  one_last : (ts : plain.Trees) (vs : valued.Trees) (t : valued.Tree) (us ws : plain.Trees) (u : plain.Tree) →
      plain.join ts (bare_trees vs) ≡ plain.join us ws → vs ≡ valued.one t → ws ≡ plain.one u →
      plain.join ts (plain.one (bare_tree t)) ≡ plain.join us (plain.one u)
  one_last ts vs t us ws u e is by =
      ap (λ (zs : valued.Trees). plain.join ts (bare_trees zs)) (sym is) ∙ e ∙ ap (plain.join us) by

  -- so it is behind one more step
  past_meets : (it : Item) (bound : List Value) (j : ℕ) (ts us : plain.Trees) → Meets it ts → Passes core text it bound j us →
      Meets (past it bound j) (plain.join ts us)
  past_meets it _ j ts _ meets (trees.test names e _ before holds here) nonterminal alternative k zs after has leaves same =
      let b = behind it names (Test e) before nonterminal alternative k zs after has leaves in
      let t = b.turn in
      let bare : bare_trees t.us ≡ ts = none_last (bare_trees t.us) t.vs ts (sym t.bare ∙ same) t.alone.1 in
      let m = meets nonterminal alternative t.h t.us t.between has t.first bare in
      (t.alone.0 ∙ m.0 ∙ sym here, t.alone.2 ∙ m.1 ∙ sym (append-nil it.env))
  past_meets it _ j ts _ meets (trees.bind names name e v _ before value here) nonterminal alternative k zs after has leaves same =
      let b = behind it names (Bind name e) before nonterminal alternative k zs after has leaves in
      let t = b.turn in
      let bare : bare_trees t.us ≡ ts = none_last (bare_trees t.us) t.vs ts (sym t.bare ∙ same) t.alone.3 in
      let m = meets nonterminal alternative t.h t.us t.between has t.first bare in
      let own : value_of text names it.env it.position e ≡ Some t.alone.0 =
      (λ i. value_of text (sym b.visible i) (sym m.1 i) (sym m.0 i) e) ∙ t.alone.1 in
      let values = one_value (value_of text names it.env it.position e) t.alone.0 v own value in
      (t.alone.2 ∙ m.0 ∙ sym here, t.alone.4 ∙ ap₂ (λ (vs : List Value) (w : Value). vs ++ w ∷ []) m.1 values)
  past_meets it bound j ts us meets (trees.terminal names what label excluded _ _ _ before matches free bound_is us_is)
      nonterminal alternative k zs after has leaves same =
      let b = behind it names (Term what label excluded) before nonterminal alternative k zs after has leaves in
      let t = b.turn in
      let leaf = valued.Leaf t.h k in
      let p =
      parted (bare_trees t.us) ts (plain.Leaf t.h k) (plain.Leaf it.position j)
      (one_last (bare_trees t.us) t.vs leaf ts us (plain.Leaf it.position j) (sym t.bare ∙ same) t.alone.0 us_is) in
      let m = meets nonterminal alternative t.h t.us t.between has t.first p.before in
      let ends : k ≡ j = ap end_of p.last in (
        ends,
        t.alone.1 ∙ (λ i. m.1 i ++ span_of label (m.0 i) (ends i)) ∙ ap (λ (vs : List Value). it.env ++ vs) (sym bound_is),
      )
  past_meets it bound j ts us meets (trees.call callee label excluded u _ _ _ calls tree free bound_is us_is)
      nonterminal alternative k zs after has leaves same =
      let step = Call callee.nonterminal calls.arguments label excluded in
      let b = behind it calls.names step calls.before nonterminal alternative k zs after has leaves in
      let t = b.turn in
      let p =
      parted (bare_trees t.us) ts (bare_tree t.alone.1) u
      (one_last (bare_trees t.us) t.vs t.alone.1 ts us u (sym t.bare ∙ same) t.alone.4 us_is) in
      let m = meets nonterminal alternative t.h t.us t.between has t.first p.before in
      let ends : k ≡ j = sym (within_ends t.alone.3) ∙ ap end_of p.last ∙ tree_ends tree in (
        ends,
        t.alone.5 ∙ (λ i. m.1 i ++ span_of label (m.0 i) (ends i)) ∙ ap (λ (vs : List Value). it.env ++ vs) (sym bound_is),
      )

  -- and behind all of them
  came : {x : Item} {us : plain.Trees} → Comes core text x us → Meets x us
  came (trees.begin instance a x e) = subst (λ (z : Item). Meets z plain.none) (sym e) (first_meets instance a)
  came (trees.further it bound j ts us vs x comes passes e is) =
      subst (λ (z : Item). Meets z vs) (sym e)
      (subst (λ (zs : plain.Trees). Meets (past it bound j) zs) (sym is) (past_meets it bound j ts us (came comes) passes))

pub in_turn : StepsLeaveInTurn
in_turn core text names env steps last i j ts after leaves = split core text steps last leaves

pub environments : StepsLeaveEnvironments
environments core text x us nonterminal alternative j ts after has comes leaves same =
    came core text comes nonterminal alternative j ts after has leaves same
