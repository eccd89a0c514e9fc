-- In the trees of a derivation positions are in order and within the text, and so are those of trees with values.
use Rattle.std.proofs.Common.{◌≡◌, ℕ, List, length, sym, subst, arith}
use Rattle.ig_text.specs.Input.{Input}
use Rattle.ig_text.specs.Tree.{Tree, Trees, Leaf, Node, none, more, join}
use Rattle.ig_expr.specs.ValuedTree as valued
use Rattle.ig_expr.specs.declared.value.Value.{Value}
use Rattle.ig_grammar.specs.Symbol.{Symbol}
use Rattle.ig_grammar.specs.declared.declaration.DeclKind.{DeclKind}
use Rattle.ig_grammar.specs.declared.grammar.Grammar.{Grammar}
use Rattle.ig_grammar.specs.declared.place.Shape.{Shape}
use Rattle.ig_meaning.specs.Annotated.{Bind, Binds, Within, Behind}
use Rattle.ig_meaning.specs.Annotated as a
use Rattle.ig_meaning.specs.Environment.{Environment}
use Rattle.ig_meaning.specs.Derivation.{Covers, Derives, Lists, Items, Instance, Trails}
use Rattle.ig_meaning.specs.Derivation.{empty, symbol, literal, one_of, token, call, label, guard, let_be, absent, present, star, plus, sep_star, sep_plus, group, offside, ignore, align, filtered, sequence, entry}
use Rattle.ig_meaning.specs.Derivation.{nil, snoc, one_item, more_items, first_item, further_item, no_item, some_items, bare, with_filters, alternative, layout, no_layout, outside}
use Rattle.ig_meaning.specs.Laws.{IsInOrder, SpansAreInOrder, SpansInOrder}

module _ (n : ℕ) where
  abbrev mutual
    -- each leaf and each node is in order, in a text of n characters
    pub IsOrdered : Tree → Type 0
    IsOrdered (Leaf i j) = IsInOrder n i j j
    IsOrdered (Node tag i j ts) = IsInOrder n i j j × AllOrdered ts

    pub AllOrdered : Trees → Type 0
    AllOrdered none = Unit {0}
    AllOrdered (more t ts) = IsOrdered t × AllOrdered ts

  ordered_join : (ts us vs : Trees) → vs ≡ join ts us → AllOrdered ts → AllOrdered us → AllOrdered vs
  ordered_join ts us vs e a b = subst AllOrdered (sym e) (go ts a)
    where
      go : (ts : Trees) → AllOrdered ts → AllOrdered (join ts us)
      go none a = b
      go (more t ts) a = (a.0, go ts a.1)

  behind_one : (t : Tree) (us ts : Trees) → ts ≡ more t us → IsOrdered t → AllOrdered us → AllOrdered ts
  behind_one t us ts e a b = subst AllOrdered (sym e) (a, b)

  pub ordered_parts : (ts us vs : valued.Trees) → vs ≡ valued.join ts us → AllOrdered (valued.bare_trees vs) →
      AllOrdered (valued.bare_trees ts) × AllOrdered (valued.bare_trees us)
  ordered_parts ts us vs e a = go ts (subst (λ z. AllOrdered (valued.bare_trees z)) e a)
    where
      go : (ts : valued.Trees) → AllOrdered (valued.bare_trees (valued.join ts us)) → AllOrdered (valued.bare_trees ts) × AllOrdered (valued.bare_trees us)
      go valued.none a = (tt, a)
      go (valued.more t ts) a = let below = go ts a.1 in ((a.0, below.0), below.1)

  own : (i e j : ℕ) → IsInOrder n i e j → IsInOrder n i e e
  own i e j o = record { begins = o.begins; ends = omega arith; within = λ h. let k = o.within h in omega (arith, o.ends, k) }

  still : (i : ℕ) → IsInOrder n i i i
  still i = record { begins = omega arith; ends = omega arith; within = λ h. h }

  to_end : (i e j : ℕ) → IsInOrder n i e j → IsInOrder n i j j
  to_end i e j o = record { begins = omega (arith, o.begins, o.ends); ends = omega arith; within = o.within }

  joined : (i e h j : ℕ) → IsInOrder n i e h → IsInOrder n h j j → IsInOrder n i j j
  joined i e h j o p = record { begins = omega (arith, o.begins, o.ends, p.begins); ends = omega arith; within = λ l. p.within (o.within l) }

  trailed : (i e j : ℕ) → IsInOrder n i e e → IsInOrder n e j j → IsInOrder n i e j
  trailed i e j o p = record { begins = o.begins; ends = p.begins; within = λ l. p.within (o.within l) }

module _ (in_order : SpansAreInOrder) (g : Grammar) (shapes : List Shape) (text : Input) where
  abbrev n : ℕ
  n = length text.characters

  spans : SpansInOrder g shapes text
  spans = in_order g shapes text

  mutual
    pub covers_ordered : {c : DeclKind} {xs : List Symbol} {env after : Environment} {i j : ℕ} {vs : Trees} {starts : List ℕ} →
        Covers g shapes text c xs env i j vs after starts → AllOrdered n vs
    covers_ordered (empty c env i) = tt
    covers_ordered (symbol c x others env between after i e h j ts us vs ks ls starts first rest trees exposes) =
        ordered_join n ts us vs trees (derives_ordered first) (covers_ordered rest)

    derives_ordered : {c : DeclKind} {x : Symbol} {env after : Environment} {i e j : ℕ} {ts : Trees} {starts : List ℕ} →
        Derives g shapes text c x env i e j ts after starts → AllOrdered n ts
    derives_ordered (literal c word env i e j us ts starts spells trails trees exposes) =
        behind_one n (Leaf i e) us ts trees (own n i e j (spans.derives (literal c word env i e j us ts starts spells trails trees exposes))) (trails_ordered trails)
    derives_ordered (one_of c class env i e j us ts starts among trails trees exposes) =
        behind_one n (Leaf i e) us ts trees (own n i e j (spans.derives (one_of c class env i e j us ts starts among trails trees exposes))) (trails_ordered trails)
    derives_ordered (token c name arguments vs env i e j t us ts ks starts have instance trails trees exposes) =
        behind_one n t us ts trees (instance_ordered instance) (trails_ordered trails)
    derives_ordered (call c kind name arguments vs env i j t starts have instance other) = (instance_ordered instance, tt)
    derives_ordered (label c name x env between after i e j ts starts inner bound) = derives_ordered inner
    derives_ordered (guard c condition env i holds) = tt
    derives_ordered (let_be c name expression v env after i has bound) = tt
    derives_ordered (absent c x env i) = ((still n i, tt), tt)
    derives_ordered (present c x env between i e j ts starts inner) = ((to_end n i e j (spans.derives inner), derives_ordered inner), tt)
    derives_ordered (star c x env i j t starts items list) = (lists_ordered list, tt)
    derives_ordered (plus c x env i j t starts items list) = (lists_ordered list, tt)
    derives_ordered (sep_star c x separator env i j t starts items list) = (lists_ordered list, tt)
    derives_ordered (sep_plus c x separator env i j t starts items list) = (lists_ordered list, tt)
    derives_ordered (group c choices k xs env between i j ts starts chosen inner) = ((spans.covers inner, covers_ordered inner), tt)
    derives_ordered (offside c x env after i e j ts starts inner right) = derives_ordered inner
    derives_ordered (ignore c x env after i e j ts starts inner) = derives_ordered inner
    derives_ordered (align c x env after i e j ts starts items inner column) = items_ordered inner
    derives_ordered (filtered c x filters env after i e j ts starts inner passes) = derives_ordered inner
    derives_ordered (sequence c xs env after i j ts starts inner) = covers_ordered inner
    derives_ordered (entry c bindings x vs env inside after i e j ts starts have renewed inner) = derives_ordered inner

    lists_ordered : {c : DeclKind} {x : Symbol} {env : Environment} {i j : ℕ} {t : Tree} {starts items : List ℕ} →
        Lists g shapes text c x env i j t starts items → IsOrdered n t
    lists_ordered (nil c x env i) = (still n i, tt)
    lists_ordered (snoc c x env after i h e j t ts ks ls starts ps items list item exposes begins) =
        (joined n i h h j (spans.lists list) (to_end n h e j (spans.derives item)), (lists_ordered list, derives_ordered item))
    lists_ordered (one_item c x env after i e j ts starts item) = (to_end n i e j (spans.derives item), derives_ordered item)
    lists_ordered (more_items c x env after i h e j t ts ks ls starts ps items list item exposes begins) =
        (joined n i h h j (spans.lists list) (to_end n h e j (spans.derives item)), (lists_ordered list, derives_ordered item))
    lists_ordered (first_item c x separator env after i e j ts starts item) = (to_end n i e j (spans.derives item), derives_ordered item)
    lists_ordered (further_item c x separator env between after i h f m e j t us ts vs ks ms ls starts ps items list part item trees exposes begins) = (
      joined n i h h j (spans.lists list) (joined n h f m j (spans.derives part) (to_end n m e j (spans.derives item))),
      (lists_ordered list, ordered_join n us ts vs trees (derives_ordered part) (derives_ordered item)),
    )
    lists_ordered (no_item c x separator env i) = (still n i, tt)
    lists_ordered (some_items c x separator env i j t starts items list) = (spans.lists list, (lists_ordered list, tt))

    items_ordered : {c : DeclKind} {x : Symbol} {env after : Environment} {i e j : ℕ} {ts : Trees} {starts items : List ℕ} →
        Items g shapes text c x env i e j ts after starts items → AllOrdered n ts
    items_ordered (bare c x env i j t starts items list) = (lists_ordered list, tt)
    items_ordered (with_filters c x filters env after i e j ts starts items inner passes) = items_ordered inner

    instance_ordered : {name : List ℕ} {vs : List Value} {kind : DeclKind} {i e : ℕ} {t : Tree} {starts : List ℕ} →
        Instance g shapes text name vs kind i e t starts → IsOrdered n t
    instance_ordered (alternative name vs kind d k decl shape a env after i e ts t starts declares numbered bound same covers tree) =
        subst (IsOrdered n) (sym tree) (spans.covers covers, covers_ordered covers)

    trails_ordered : {c : DeclKind} {e j : ℕ} {ts : Trees} → Trails g shapes text c e j ts → AllOrdered n ts
    trails_ordered (layout name kind e j t starts declared instance) = (instance_ordered instance, tt)
    trails_ordered (no_layout e undeclared) = tt
    trails_ordered (outside c e other) = tt

-- symbols whose trees are ordered, with values, end in order
module _ (g : Grammar) (shapes : List Shape) (text : Input) where
  abbrev size : ℕ
  size = length text.characters

  pub within_spans : {name : List ℕ} {vs : List Value} {kind : DeclKind} {i e : ℕ} {t : valued.Tree} →
      Within g shapes text name vs kind i e t → IsOrdered size (valued.bare_tree t) → IsInOrder size i e e
  within_spans (a.alternative name vs kind d k decl shape by env after i e ts t declares numbered bound same inner tree) o =
      let q = subst (λ z. IsOrdered size (valued.bare_tree z)) tree o in q.0

  behind_spans : {c kind : DeclKind} {e j : ℕ} {ts : valued.Trees} → Behind g shapes text c kind e j ts → AllOrdered size (valued.bare_trees ts) → IsInOrder size e j j
  behind_spans (a.layout name kind e j t declared within) o = within_spans within o.0
  behind_spans (a.no_layout c kind e undeclared) o = still size e

  mutual
    pub bind_spans : {c : DeclKind} {xs : List Symbol} {env after : Environment} {i j : ℕ} {ts : valued.Trees} →
        Bind g shapes text c xs env i j ts after → AllOrdered size (valued.bare_trees ts) → IsInOrder size i j j
    bind_spans (a.nothing c env i) o = still size i
    bind_spans (a.next c x others env between after i e h j ts us vs first rest trees) o =
        let parts = ordered_parts size ts us vs trees o in joined size i e h j (binds_spans first parts.0) (bind_spans rest parts.1)

    pub binds_spans : {c : DeclKind} {x : Symbol} {env after : Environment} {i e j : ℕ} {ts : valued.Trees} →
        Binds g shapes text c x env i e j ts after → AllOrdered size (valued.bare_trees ts) → IsInOrder size i e j
    binds_spans (a.literal c word env i e j us behind) o = trailed size i e j o.0 (behind_spans behind o.1)
    binds_spans (a.one_of c class env i e j us behind) o = trailed size i e j o.0 (behind_spans behind o.1)
    binds_spans (a.call c kind name arguments vs env i e j t us have within behind) o =
        trailed size i e j (within_spans within o.0) (behind_spans behind o.1)
    binds_spans (a.label c name x env between after i e j ts inner bound) o = binds_spans inner o
    binds_spans (a.guard c condition env i) o = still size i
    binds_spans (a.let_be c name expression v env after i has bound) o = still size i
    binds_spans (a.node c x form parts env i j ts bound has inner) o = o.0.0
    binds_spans (a.round c x y env after i e j ts mark inner) o = binds_spans inner o
    binds_spans (a.sequence c xs env after i j ts inner) o = bind_spans inner o
    binds_spans (a.entry c bindings x vs env inside after i e j ts have renewed inner) o = to_end size i e j (binds_spans inner o)
