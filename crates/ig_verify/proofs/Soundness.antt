-- The trees of a sound forest are trees of the core grammar.
use Rattle.std.proofs.Common.{◌≡◌, ℕ, List, [], ◌∷◌, Some, length, slice_get, refl, sym, ap, ◌∙◌, subst, arith}
use Rattle.std.proofs.lemmas.Option.{same_Some}
use Rattle.std.proofs.lemmas.List.Elements.{All-contains}
use Rattle.ig_text.specs.Input.{Input}
use Rattle.ig_text.specs.Tree.{Tree, Trees, Leaf, Node, none, one, join}
use Rattle.ig_text.proofs.Trees.{join-none}
use Rattle.ig_text.proofs.Lists.{contains_from_at, get_within}
use Rattle.ig_text.specs.declared.tag.Tag.{Tag}
use Rattle.ig_text.specs.declared.text.Span.{Span}
use Rattle.ig_item.specs.CoreTrees.{HasTree}
use Rattle.ig_text.specs.Pattern.{Matches}
use Rattle.ig_item.specs.Step.{Step, Test, Bind, Term, Call}
use Rattle.ig_item.specs.Items.{Item, first, past, span_of, MatchesNone, StandsBefore, Calls}
use Rattle.ig_item.specs.ItemTrees as reached
use Rattle.ig_item.specs.ItemTrees.{Comes}
use Rattle.ig_item.specs.Laws.{InstanceTrees}
use Rattle.ig_item.specs.Gives.{NodeKey, nothing, leaf, tree}
use Rattle.ig_item.specs.declared.core_grammar.Nonterminal.{Nonterminal}
use Rattle.ig_item.specs.declared.items.Instance.{Instance}
use Rattle.ig_expr.specs.declared.value.Value.{Value}
use Rattle.ig_forest_tables.specs.Forest as forest
use Rattle.ig_forest_tables.specs.Forest.{Forest, ItemNode, IsForest, item_of}
use Rattle.ig_forest_tables.specs.Unfold as ways
use Rattle.ig_forest_tables.specs.Unfold.{OfNode, OfItem}
use Rattle.ig_forest_tables.specs.declared.entry.Entry.TheVariants.{Begin, Pass, Take}
use Rattle.ig_forest_tables.specs.declared.entry.Child.TheVariants as child
use Rattle.ig_verify.specs.Takes.{Takes, StepTakes}
use Rattle.ig_verify.specs.Sound.{IsSound, IsFirst, IsWhole, ChoiceFits, EntryFollows, key_of}
use Rattle.ig_verify.specs.Laws.{SoundUnfoldsToCoreTrees, SoundNodesUnfold}

abbrev item_at : Instance → ℕ → ℕ → List Value → ℕ → Item
item_at i a d vs p = record { instance = i; alternative = a; dot = d; env = vs; position = p }

placed : (i : Instance) (a d e : ℕ) (us vs : List Value) (p q : ℕ) → d ≡ e → us ≡ vs → p ≡ q →
    item_at i a d us p ≡ item_at i a e vs q
placed i a d e us vs p q h k m = cc

module _ (core : List Nonterminal) (text : Input) where
  abbrev pub HasKeyTree : NodeKey → Tree → Type 0
  HasKeyTree key t = HasTree core text key.instance.nonterminal key.instance.values key.instance.start key.end t

  -- the trees before the dot, behind one more step
  by_nothing : (it x : Item) (names : List (List ℕ)) (step : Step) → StandsBefore core it names step →
      StepTakes text names it step nothing x → (ts : Trees) → Comes core text it ts → Comes core text x ts
  by_nothing it x names (Test e) before t ts c =
      reached.further it [] it.position ts none ts x c (reached.test names e it.position before t.0 refl) t.1
      (sym (join-none ts))
  by_nothing it x names (Bind name e) before t ts c =
      reached.further it (t.0 ∷ []) it.position ts none ts x c (reached.bind names name e t.0 it.position before t.1 refl) t.2
      (sym (join-none ts))
  by_nothing it x names (Term what label excluded) before t ts c = absurd t
  by_nothing it x names (Call callee arguments label excluded) before t ts c = absurd t

  pub comes_by_nothing : {it x : Item} → Takes core text it nothing x → (ts : Trees) → Comes core text it ts →
      Comes core text x ts
  comes_by_nothing {it = it} {x = x} t ts c = by_nothing it x t.names t.step t.before t.takes ts c

  by_leaf : (it x : Item) (names : List (List ℕ)) (step : Step) (span : Span) → StandsBefore core it names step →
      StepTakes text names it step (leaf span) x → (ts : Trees) → Comes core text it ts →
      Comes core text x (join ts (one (Leaf span.begin span.end)))
  by_leaf it x names (Test e) span before t ts c = absurd t
  by_leaf it x names (Bind name e) span before t ts c = absurd t
  by_leaf it x names (Term what label excluded) span before t ts c =
      let end = span.end in
      let here : span.begin ≡ it.position = t.0 in
      let matches = subst (λ (i : ℕ). Matches text what i end) here t.1 in
      let free = subst (λ (i : ℕ). MatchesNone text excluded i end) here t.2 in
      let is : x ≡ past it (span_of label it.position end) end =
      subst (λ (i : ℕ). x ≡ past it (span_of label i end) end) here t.3 in
      reached.further it (span_of label it.position end) end ts (one (Leaf it.position end))
      (join ts (one (Leaf span.begin end))) x c
      (reached.terminal names what label excluded (span_of label it.position end) end (one (Leaf it.position end)) before
      matches free refl refl) is (ap (λ (i : ℕ). join ts (one (Leaf i end))) here)
  by_leaf it x names (Call callee arguments label excluded) span before t ts c = absurd t

  pub comes_by_leaf : {it x : Item} → (span : Span) → Takes core text it (leaf span) x → (ts : Trees) →
      Comes core text it ts → Comes core text x (join ts (one (Leaf span.begin span.end)))
  comes_by_leaf {it = it} {x = x} span t ts c = by_leaf it x t.names t.step span t.before t.takes ts c

  by_tree : (it x : Item) (names : List (List ℕ)) (step : Step) (key : NodeKey) → StandsBefore core it names step →
      StepTakes text names it step (tree key) x → (ts : Trees) (t : Tree) → HasKeyTree key t → Comes core text it ts →
      Comes core text x (join ts (one t))
  by_tree it x names (Test e) key before takes ts t has c = absurd takes
  by_tree it x names (Bind name e) key before takes ts t has c = absurd takes
  by_tree it x names (Term what label excluded) key before takes ts t has c = absurd takes
  by_tree it x names (Call callee arguments label excluded) key before takes ts t has c =
      let end = key.end in
      let called = subst (λ (n : ℕ). StandsBefore core it names (Call n arguments label excluded)) (sym takes.0) before in
      let calls : Calls core text it key.instance label excluded =
      record { names = names; arguments = arguments; before = called; values = takes.2; here = takes.1 } in
      reached.further it (span_of label it.position end) end ts (one t) (join ts (one t)) x c
      (reached.call key.instance label excluded t (span_of label it.position end) end (one t) calls has takes.3 refl refl)
      takes.4 refl

  pub comes_by_tree : {it x : Item} → (key : NodeKey) → Takes core text it (tree key) x → (ts : Trees) (t : Tree) →
      HasKeyTree key t → Comes core text it ts → Comes core text x (join ts (one t))
  comes_by_tree {it = it} {x = x} key takes ts t has c = by_tree it x takes.names takes.step key takes.before takes.takes ts t has c

  -- an item of dot 0 that stands at its start, with nothing bound
  pub first_comes : (it : ItemNode) → it.dot ≡ 0 → IsFirst it → Comes core text (item_of it) none
  first_comes it dot is =
      let same : item_of it ≡ first (item_of it).instance it.alternative =
      placed (item_of it).instance it.alternative it.dot 0 it.env it.values it.position it.start dot is.unbound is.here in
      reached.begin (item_of it).instance it.alternative (item_of it) same

module _ (trees : InstanceTrees) (core : List Nonterminal) (text : Input) (f : Forest) (is : IsForest f)
    (s : IsSound core text f) where
  not_first : (it : ItemNode) (prev : ℕ) → forest.IsPrevious f it.dot prev → it.dot ≡ 0 → ⊥
  not_first it prev p e = omega (arith, p.behind, e)

  mutual
    pub node_trees : {v d : ℕ} {cs : List ℕ} {t : Tree} → OfNode f v d cs t → (node : forest.Node) →
        slice_get f.nodes v ≡ Some node → HasKeyTree core text (key_of node) t
    node_trees (ways.choose v d i n choice bs cs ts t at among of_item c e) node has =
        let same : n ≡ node = same_Some n node (sym at ∙ has) in
        let fits = All-contains (ChoiceFits core f n) n.alternatives choice (s.nodes v n at).choices (contains_from_at n.alternatives i choice among) in
        let comes = item_trees of_item fits.it fits.there in
        subst (λ (m : forest.Node). HasKeyTree core text (key_of m) t) same
        ((trees core text (key_of n).instance n.span.end t).1
        (record {
          item = item_of fits.it;
          trees = ts;
          of_instance = fits.completes.instance;
          to = fits.completes.end;
          complete = fits.completes.complete;
          comes = comes;
          tree = e ∙ ap (λ (tag : Tag). Node tag n.span.begin n.span.end ts) fits.tagged;
        }))

    pub item_trees : {k d : ℕ} {cs : List ℕ} {ts : Trees} → OfItem f k d cs ts → (it : ItemNode) →
        slice_get f.items k ≡ Some it → Comes core text (item_of it) ts
    item_trees (ways.begin k d i it cs at among c) own has =
        let same : it ≡ own = same_Some it own (sym at ∙ has) in
        let dot : it.dot ≡ 0 = is.entries k it Begin at (contains_from_at it.entries i Begin among) in
        subst (λ (x : ItemNode). Comes core text (item_of x) none) same
        (first_comes core text it dot ((s.entries k it at).begin dot))
    item_trees (ways.pass k d i prev it bs cs ts at among of_prev c) own has =
        let same : it ≡ own = same_Some it own (sym at ∙ has) in
        let member = contains_from_at it.entries i (Pass prev) among in
        let further = not_first it prev (is.entries k it (Pass prev) at member) in
        let from = All-contains (EntryFollows core text f it) it.entries (Pass prev) ((s.entries k it at).further further) member in
        subst (λ (x : ItemNode). Comes core text (item_of x) ts) same
        (comes_by_nothing core text from.takes ts (item_trees of_prev from.before from.there))
    item_trees (ways.leaf k d i prev it span bs cs ts us at among of_prev c e) own has =
        let same : it ≡ own = same_Some it own (sym at ∙ has) in
        let entry = Take prev (child.Leaf span) in
        let member = contains_from_at it.entries i entry among in
        let further = not_first it prev (is.entries k it entry at member) in
        let from = All-contains (EntryFollows core text f it) it.entries entry ((s.entries k it at).further further) member in
        subst (λ (x : ItemNode). Comes core text (item_of x) us) same
        (subst (Comes core text (item_of it)) (sym e)
        (comes_by_leaf core text span from.takes ts (item_trees of_prev from.before from.there)))
    item_trees (ways.node k d i prev v it ps bs cs ts us t at among of_prev of_node c e) own has =
        let same : it ≡ own = same_Some it own (sym at ∙ has) in
        let entry = Take prev (child.Node v) in
        let member = contains_from_at it.entries i entry among in
        let fits = is.entries k it entry at member in
        let further = not_first it prev fits.0 in
        let from = All-contains (EntryFollows core text f it) it.entries entry ((s.entries k it at).further further) member in
        subst (λ (x : ItemNode). Comes core text (item_of x) us) same
        (subst (Comes core text (item_of it)) (sym e)
        (comes_by_tree core text (key_of from.0) from.2.takes ts t (node_trees of_node from.0 from.1)
        (item_trees of_prev from.2.before from.2.there)))

pub sound_nodes : InstanceTrees → SoundNodesUnfold
sound_nodes trees core text f v d cs t node is s of_node at = node_trees trees core text f is s of_node node at

root_there : (f : Forest) → IsForest f → (node : forest.Node) × (slice_get f.nodes f.root ≡ Some node)
root_there f is = get_within f.nodes f.root is.root

pub sound_trees : InstanceTrees → SoundUnfoldsToCoreTrees
sound_trees trees core text f d t is s u =
    let root = root_there f is in
    let whole : IsWhole text root.0 = (s.nodes f.root root.0 root.1).root refl in
    let has = node_trees trees core text f is s u.1 root.0 root.1 in
    let same : key_of root.0 ≡ record { instance = record { nonterminal = 0; values = []; start = 0 }; end = length text.characters } = cc in
    subst (λ (k : NodeKey). HasKeyTree core text k t) same has
