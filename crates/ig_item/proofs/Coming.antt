-- Items are reached by the trees before their dots, and trees by complete items.
use Rattle.std.proofs.Common.{◌≡◌, ℕ, suc, ◌≤◌, List, [], ◌∷◌, ◌++◌, length, drop, refl, sym, ap, ◌∙◌, subst, arith}
use Rattle.std.proofs.lemmas.List.{append-nil}
use Rattle.std.proofs.lemmas.Option.{same_Some}
use Rattle.ig_text.specs.Input.{Input}
use Rattle.ig_text.specs.Tree.{Tree, Trees, Leaf, Node, none, one, join}
use Rattle.ig_expr.specs.declared.value.Value.{Value}
use Rattle.ig_item.specs.Step.{Step, Test, Bind, Term, Call, labels}
use Rattle.ig_item.specs.Core.{IsAlternative, numbered}
use Rattle.ig_item.specs.Visible.{names_at}
use Rattle.ig_item.specs.WellKinded.{HasRoot}
use Rattle.ig_item.specs.ItemTrees as trees
use Rattle.ig_item.specs.ItemTrees.{Passes, Comes, Completes}
use Rattle.ig_item.specs.CoreTrees as core_trees
use Rattle.ig_item.specs.CoreTrees.{Leads, HasTree, CoreTree}
use Rattle.ig_item.specs.Items as items
use Rattle.ig_item.specs.Items.{Item, first, past, span_of, root_instance, StandsBefore, IsComplete, Calls, Follows, Reachable, IsCompleteRoot, RootIsComplete}
use Rattle.ig_item.specs.Laws.{TreesByItems, ItemsByTrees, InstanceTrees}
use Rattle.ig_item.specs.declared.core_grammar.Nonterminal.{Nonterminal}
use Rattle.ig_item.specs.declared.core_grammar.CoreAlt.{CoreAlt}
use Rattle.ig_item.specs.declared.items.Instance.{Instance}
use Rattle.ig_item.proofs.Dots.{names_step, alone}
use Rattle.ig_item.specs.Induction.{kept}
use Rattle.ig_item.proofs.Reachability.{reach}
use Rattle.ig_item.proofs.ItemTrees.{item_at, comes_tree}
use Rattle.ig_text.proofs.Trees.{join_join, join-none}
use Rattle.ig_text.proofs.Lists.{stands, at_end}

module _ (core : List Nonterminal) (text : Input) where
  -- a reachable complete item of the instance at j
  record Completed (instance : Instance) (j : ℕ) : Type 0 where
    a : ℕ
    dot : ℕ
    env : List Value
    reachable : Reachable core text (item_at instance a dot env j)
    complete : IsComplete core (item_at instance a dot env j)

  -- a reachable item behind the last step, at j
  record Ends (instance : Instance) (a : ℕ) (alternative : CoreAlt) (j : ℕ) : Type 0 where
    env : List Value
    reachable : Reachable core text (item_at instance a (length alternative.steps) env j)

  mutual
    leads_reach : {names : List (List ℕ)} {env : List Value} {steps : List Step} {i j : ℕ} {us : Trees} →
        Leads core text names env steps i j us → (instance : Instance) (a dot : ℕ) (nonterminal : Nonterminal)
        (alternative : CoreAlt) → IsAlternative core instance.nonterminal a nonterminal alternative →
        names ≡ names_at nonterminal alternative dot → dot ≤ length alternative.steps →
        drop dot alternative.steps ≡ steps → Reachable core text (item_at instance a dot env i) →
        Ends instance a alternative j
    leads_reach (core_trees.done names env i) instance a dot nonterminal alternative has visible within rest r =
        record {
          env = env;
          reachable =
              subst (λ (d : ℕ). Reachable core text (item_at instance a d env i)) (at_end alternative.steps dot within rest) r;
        }
    leads_reach (core_trees.test names env c others i j ts holds leads) instance a dot nonterminal alternative has visible
        within rest r =
        let it : Item = item_at instance a dot env i in
        let s = stands alternative.steps dot (Test c) others rest in
        let before : StandsBefore core it names (Test c) =
        record { nonterminal = nonterminal; alternative = alternative; has = has; next = s.here; visible = visible } in
        let next = reach core text (items.test it names c (past it [] i) r before holds refl) in
        let same : names ≡ names_at nonterminal alternative (suc dot) =
        sym (append-nil names) ∙ ap (λ (ns : List (List ℕ)). ns ++ []) visible ∙
        sym (names_step nonterminal alternative dot (Test c) s.here) in
        leads_reach leads instance a (suc dot) nonterminal alternative has same s.within s.after
        (subst (λ (vs : List Value). Reachable core text (item_at instance a (suc dot) vs i)) (append-nil env) next)
    leads_reach (core_trees.bind names env name c v others i j ts has_value leads) instance a dot nonterminal alternative has
        visible within rest r =
        let it : Item = item_at instance a dot env i in
        let s = stands alternative.steps dot (Bind name c) others rest in
        let before : StandsBefore core it names (Bind name c) =
        record { nonterminal = nonterminal; alternative = alternative; has = has; next = s.here; visible = visible } in
        let next = reach core text (items.bind it names name c v (past it (v ∷ []) i) r before has_value refl) in
        let same : names ++ name ∷ [] ≡ names_at nonterminal alternative (suc dot) =
        ap (λ (ns : List (List ℕ)). ns ++ name ∷ []) visible ∙
        sym (names_step nonterminal alternative dot (Bind name c) s.here) in
        leads_reach leads instance a (suc dot) nonterminal alternative has same s.within s.after next
    leads_reach (core_trees.terminal names env what label excluded others i h j ts us matches free leads e) instance a dot
        nonterminal alternative has visible within rest r =
        let it : Item = item_at instance a dot env i in
        let step : Step = Term what label excluded in
        let s = stands alternative.steps dot step others rest in
        let before : StandsBefore core it names step =
        record { nonterminal = nonterminal; alternative = alternative; has = has; next = s.here; visible = visible } in
        let next =
        reach core text
        (items.terminal it names what label excluded h (past it (span_of label i h) h) r before matches free refl) in
        let same : names ++ labels label ≡ names_at nonterminal alternative (suc dot) =
        ap (λ (ns : List (List ℕ)). ns ++ labels label) visible ∙ sym (names_step nonterminal alternative dot step s.here) in
        leads_reach leads instance a (suc dot) nonterminal alternative has same s.within s.after next
    leads_reach (core_trees.call names env callee arguments label excluded vs others i h j t ts us have tree free leads e)
        instance a dot nonterminal alternative has visible within rest r =
        let it : Item = item_at instance a dot env i in
        let called : Instance = record { nonterminal = callee; values = vs; start = i } in
        let step : Step = Call callee arguments label excluded in
        let s = stands alternative.steps dot step others rest in
        let calls : Calls core text it called label excluded =
        record {
          names = names;
          arguments = arguments;
          before =
              record { nonterminal = nonterminal; alternative = alternative; has = has; next = s.here; visible = visible };
          values = have;
          here = refl;
        } in
        let c =
        tree_reach tree
        (λ b other chosen at.
        reach core text (items.call it called label excluded other b chosen (first called b) r calls at refl)) in
        let done : Item = item_at called c.a c.dot c.env h in
        let next =
        reach core text
        (items.return it done label excluded (past it (span_of label i h) h) r c.reachable calls c.complete free refl) in
        let same : names ++ labels label ≡ names_at nonterminal alternative (suc dot) =
        ap (λ (ns : List (List ℕ)). ns ++ labels label) visible ∙ sym (names_step nonterminal alternative dot step s.here) in
        leads_reach leads instance a (suc dot) nonterminal alternative has same s.within s.after next

    tree_reach : {n : ℕ} {vs : List Value} {i j : ℕ} {t : Tree} → HasTree core text n vs i j t →
        ((a : ℕ) (nonterminal : Nonterminal) (alternative : CoreAlt) → IsAlternative core n a nonterminal alternative →
        Reachable core text (first (record { nonterminal = n; values = vs; start = i }) a)) →
        Completed (record { nonterminal = n; values = vs; start = i }) j
    tree_reach (core_trees.node n a vs nonterminal alternative i j ts t has leads e) firsts =
        let instance : Instance = record { nonterminal = n; values = vs; start = i } in
        let ends =
        leads_reach leads instance a 0 nonterminal alternative has (sym (append-nil nonterminal.params)) (omega arith) refl
        (firsts a nonterminal alternative has) in
        record {
          a = a;
          dot = length alternative.steps;
          env = ends.env;
          reachable = ends.reachable;
          complete = record { nonterminal = nonterminal; alternative = alternative; has = has; last = refl };
        }

  -- the step before which a reachable item stands leads to a reachable item
  passes_reach : (it : Item) (bound : List Value) (j : ℕ) (us : Trees) → Reachable core text it →
      Passes core text it bound j us → Reachable core text (past it bound j)
  passes_reach it _ j _ r (trees.test names e _ before holds here) =
      reach core text (items.test it names e (past it [] j) r before holds (ap (past it []) here))
  passes_reach it _ j _ r (trees.bind names name e v _ before has here) =
      reach core text (items.bind it names name e v (past it (v ∷ []) j) r before has (ap (past it (v ∷ [])) here))
  passes_reach it bound j us r (trees.terminal names what label excluded _ _ _ before matches free bound_is us_is) =
      reach core text
      (items.terminal it names what label excluded j (past it bound j) r before matches free
      (ap (λ (vs : List Value). past it vs j) bound_is))
  passes_reach it bound j us r (trees.call callee label excluded t _ _ _ calls tree free bound_is us_is) =
      let c =
      tree_reach tree
      (λ b other chosen at.
      reach core text (items.call it callee label excluded other b chosen (first callee b) r calls at refl)) in
      reach core text
      (items.return it (item_at callee c.a c.dot c.env j) label excluded (past it bound j) r c.reachable calls c.complete free
      (ap (λ (vs : List Value). past it vs j) bound_is))

  abbrev FirstIsReachable : Item → Type 0
  FirstIsReachable x = Reachable core text (first x.instance x.alternative)

  comes_reach : {x : Item} {ts : Trees} → Comes core text x ts → FirstIsReachable x → Reachable core text x
  comes_reach (trees.begin instance a x e) r =
      subst (Reachable core text) (sym e) (subst FirstIsReachable e r)
  comes_reach (trees.further it bound j ts us vs x comes passes e vs_is) r =
      subst (Reachable core text) (sym e)
      (passes_reach it bound j us (comes_reach comes (subst FirstIsReachable e r)) passes)

  abbrev HasCome : Item → Type 0
  HasCome x = (FirstIsReachable x) × (ts : Trees) × (Comes core text x ts)

  -- an item to which steps lead, and the one behind the next step
  come_past : (it : Item) (bound : List Value) (j : ℕ) (us : Trees) → HasCome it → Passes core text it bound j us →
      HasCome (past it bound j)
  come_past it bound j us k passes =
      (k.0, join k.1 us, trees.further it bound j k.1 us (join k.1 us) (past it bound j) k.2 passes refl refl)

  rule_come : (x : Item) → Follows core text HasCome x → HasCome x
  rule_come _ (items.root x e) =
      subst HasCome (sym e) (
        reach core text (items.root (first root_instance 1) refl),
        none,
        trees.begin root_instance 1 (first root_instance 1) refl,
      )
  rule_come _ (items.test it names c x k before holds e) =
      subst HasCome (sym e) (come_past it [] it.position none k (trees.test names c it.position before holds refl))
  rule_come _ (items.bind it names name c v x k before has e) =
      subst HasCome (sym e) (come_past it (v ∷ []) it.position none k (trees.bind names name c v it.position before has refl))
  rule_come _ (items.terminal it names what label excluded j x k before matches free e) =
      let bound = span_of label it.position j in
      let us = one (Leaf it.position j) in
      subst HasCome (sym e)
      (come_past it bound j us k (trees.terminal names what label excluded bound j us before matches free refl refl))
  rule_come _ (items.call it callee label excluded nonterminal a alternative x k calls at e) =
      subst HasCome (sym e) (
        reach core text
            (items.call it callee label excluded nonterminal a alternative (first callee a) (comes_reach k.2 k.0) calls at refl),
        none,
        trees.begin callee a (first callee a) refl,
      )
  rule_come _ (items.return it done label excluded x k l calls complete free e) =
      let bound = span_of label it.position done.position in
      let t = Node complete.alternative.tag done.instance.start done.position l.1 in
      let tree = comes_tree core text done l.1 l.2 complete in
      subst HasCome (sym e)
      (come_past it bound done.position (one t) k
      (trees.call done.instance label excluded t bound done.position (one t) calls tree free refl refl))

  pub has_come : (x : Item) → Reachable core text x → HasCome x
  has_come = kept core text HasCome rule_come

  -- an item behind the last step, at j
  record ToEnd (instance : Instance) (a : ℕ) (alternative : CoreAlt) (j : ℕ) (ts : Trees) : Type 0 where
    env : List Value
    comes : Comes core text (item_at instance a (length alternative.steps) env j) ts

  -- one step further, and the others behind it
  on : (it : Item) (bound : List Value) (h : ℕ) (ts us : Trees) → Comes core text it ts → Passes core text it bound h us →
      Comes core text (past it bound h) (join ts us)
  on it bound h ts us comes passes = trees.further it bound h ts us (join ts us) (past it bound h) comes passes refl refl

  leads_come : {names : List (List ℕ)} {env : List Value} {steps : List Step} {i j : ℕ} {us : Trees} →
      Leads core text names env steps i j us → (instance : Instance) (a dot : ℕ) (nonterminal : Nonterminal)
      (alternative : CoreAlt) → IsAlternative core instance.nonterminal a nonterminal alternative →
      names ≡ names_at nonterminal alternative dot → dot ≤ length alternative.steps →
      drop dot alternative.steps ≡ steps → (ts : Trees) → Comes core text (item_at instance a dot env i) ts →
      ToEnd instance a alternative j (join ts us)
  leads_come (core_trees.done names env i) instance a dot nonterminal alternative has visible within rest ts c =
      record {
        env = env;
        comes =
            subst (λ (d : ℕ). Comes core text (item_at instance a d env i) (join ts none))
            (at_end alternative.steps dot within rest)
            (subst (λ (zs : Trees). Comes core text (item_at instance a dot env i) zs) (sym (join-none ts)) c);
      }
  leads_come (core_trees.test names env e others i j us holds leads) instance a dot nonterminal alternative has visible
      within rest ts c =
      let it : Item = item_at instance a dot env i in
      let s = stands alternative.steps dot (Test e) others rest in
      let before : StandsBefore core it names (Test e) =
      record { nonterminal = nonterminal; alternative = alternative; has = has; next = s.here; visible = visible } in
      let next = on it [] i ts none c (trees.test names e i before holds refl) in
      let same : names ≡ names_at nonterminal alternative (suc dot) =
      sym (append-nil names) ∙ ap (λ (ns : List (List ℕ)). ns ++ []) visible ∙
      sym (names_step nonterminal alternative dot (Test e) s.here) in
      leads_come leads instance a (suc dot) nonterminal alternative has same s.within s.after ts
      (subst (λ (zs : Trees). Comes core text (item_at instance a (suc dot) env i) zs) (join-none ts)
      (subst (λ (vs : List Value). Comes core text (item_at instance a (suc dot) vs i) (join ts none)) (append-nil env) next))
  leads_come (core_trees.bind names env name e v others i j us has_value leads) instance a dot nonterminal alternative has
      visible within rest ts c =
      let it : Item = item_at instance a dot env i in
      let s = stands alternative.steps dot (Bind name e) others rest in
      let before : StandsBefore core it names (Bind name e) =
      record { nonterminal = nonterminal; alternative = alternative; has = has; next = s.here; visible = visible } in
      let next = on it (v ∷ []) i ts none c (trees.bind names name e v i before has_value refl) in
      let same : names ++ name ∷ [] ≡ names_at nonterminal alternative (suc dot) =
      ap (λ (ns : List (List ℕ)). ns ++ name ∷ []) visible ∙
      sym (names_step nonterminal alternative dot (Bind name e) s.here) in
      leads_come leads instance a (suc dot) nonterminal alternative has same s.within s.after ts
      (subst (λ (zs : Trees). Comes core text (item_at instance a (suc dot) (env ++ v ∷ []) i) zs) (join-none ts) next)
  leads_come (core_trees.terminal names env what label excluded others i h j us vs matches free leads e) instance a dot
      nonterminal alternative has visible within rest ts c =
      let it : Item = item_at instance a dot env i in
      let step : Step = Term what label excluded in
      let s = stands alternative.steps dot step others rest in
      let before : StandsBefore core it names step =
      record { nonterminal = nonterminal; alternative = alternative; has = has; next = s.here; visible = visible } in
      let extra = one (Leaf i h) in
      let bound = span_of label i h in
      let next = on it bound h ts extra c (trees.terminal names what label excluded bound h extra before matches free refl refl) in
      let same : names ++ labels label ≡ names_at nonterminal alternative (suc dot) =
      ap (λ (ns : List (List ℕ)). ns ++ labels label) visible ∙ sym (names_step nonterminal alternative dot step s.here) in
      subst (λ (zs : Trees). ToEnd instance a alternative j zs) (join_join ts extra us ∙ ap (join ts) (sym e))
      (leads_come leads instance a (suc dot) nonterminal alternative has same s.within s.after (join ts extra) next)
  leads_come (core_trees.call names env callee arguments label excluded vs others i h j t us zs have tree free leads e)
      instance a dot nonterminal alternative has visible within rest ts c =
      let it : Item = item_at instance a dot env i in
      let called : Instance = record { nonterminal = callee; values = vs; start = i } in
      let step : Step = Call callee arguments label excluded in
      let s = stands alternative.steps dot step others rest in
      let calls : Calls core text it called label excluded =
      record {
        names = names;
        arguments = arguments;
        before =
            record { nonterminal = nonterminal; alternative = alternative; has = has; next = s.here; visible = visible };
        values = have;
        here = refl;
      } in
      let bound = span_of label i h in
      let next = on it bound h ts (one t) c (trees.call called label excluded t bound h (one t) calls tree free refl refl) in
      let same : names ++ labels label ≡ names_at nonterminal alternative (suc dot) =
      ap (λ (ns : List (List ℕ)). ns ++ labels label) visible ∙ sym (names_step nonterminal alternative dot step s.here) in
      subst (λ (ws : Trees). ToEnd instance a alternative j ws) (join_join ts (one t) us ∙ ap (join ts) (sym e))
      (leads_come leads instance a (suc dot) nonterminal alternative has same s.within s.after (join ts (one t)) next)

  tree_completes : {n : ℕ} {vs : List Value} {i j : ℕ} {t : Tree} → HasTree core text n vs i j t →
      Completes core text (record { nonterminal = n; values = vs; start = i }) j t
  tree_completes (core_trees.node n a vs nonterminal alternative i j ts t has leads e) =
      let instance : Instance = record { nonterminal = n; values = vs; start = i } in
      let ends =
      leads_come leads instance a 0 nonterminal alternative has (sym (append-nil nonterminal.params)) (omega arith) refl none
      (trees.begin instance a (first instance a) refl) in
      record {
        item = item_at instance a (length alternative.steps) ends.env j;
        trees = ts;
        of_instance = refl;
        to = refl;
        complete = record { nonterminal = nonterminal; alternative = alternative; has = has; last = refl };
        comes = ends.comes;
        tree = e;
      }

  completes_tree : (instance : Instance) (j : ℕ) (t : Tree) → Completes core text instance j t →
      HasTree core text instance.nonterminal instance.values instance.start j t
  completes_tree instance j t c =
      let of_item = comes_tree core text c.item c.trees c.comes c.complete in
      let tag = c.complete.alternative.tag in
      let at_instance : HasTree core text instance.nonterminal instance.values instance.start c.item.position (Node tag instance.start c.item.position c.trees) =
      subst (λ (x : Instance). HasTree core text x.nonterminal x.values x.start c.item.position (Node tag x.start c.item.position c.trees))
      c.of_instance of_item in
      subst (HasTree core text instance.nonterminal instance.values instance.start j) (sym c.tree)
      (subst (λ (p : ℕ). HasTree core text instance.nonterminal instance.values instance.start p (Node tag instance.start p c.trees))
      c.to at_instance)

  pub root_first : HasRoot core → (a : ℕ) (nonterminal : Nonterminal) (alternative : CoreAlt) →
      IsAlternative core 0 a nonterminal alternative → Reachable core text (first root_instance a)
  root_first root a nonterminal alternative at =
      let same : nonterminal ≡ root.nonterminal = same_Some nonterminal root.nonterminal (sym at.there ∙ root.first) in
      let one : a ≡ 1 =
      alone root.alternative alternative a
      (ap (λ (members : List CoreAlt). numbered members a) (sym root.single) ∙
      ap (λ (n : Nonterminal). numbered n.alternatives a) (sym same) ∙ at.has) in
      reach core text (items.root (first root_instance a) (ap (first root_instance) one))

  root_tree : RootIsComplete core text → (t : Tree) × CoreTree core text t
  root_tree r =
      let come = has_come r.item r.reachable in
      let t = Node r.root.complete.alternative.tag 0 (length text.characters) come.1 in (
        t,
        completes_tree root_instance (length text.characters) t
            (record {
              item = r.item;
              trees = come.1;
              of_instance = r.root.of_root;
              to = r.to_end;
              complete = r.root.complete;
              comes = come.2;
              tree = refl;
            }),
      )

  root_item : HasRoot core → ((t : Tree) × CoreTree core text t) → RootIsComplete core text
  root_item root tree =
      let c = tree_reach tree.1 (root_first root) in
      record {
        item = item_at root_instance c.a c.dot c.env (length text.characters);
        reachable = c.reachable;
        root = record { of_root = refl; complete = c.complete };
        to_end = refl;
      }

pub trees_by_items : TreesByItems
trees_by_items core text w = (root_tree core text, root_item core text w.root)

pub items_by_trees : ItemsByTrees
items_by_trees core text x = (has_come core text x, λ k. comes_reach core text k.2 k.0)

pub instance_trees : InstanceTrees
instance_trees core text instance j t = (λ tree. tree_completes core text tree, completes_tree core text instance j t)
