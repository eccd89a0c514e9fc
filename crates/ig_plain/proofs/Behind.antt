-- The one item behind an item is added, in tables to which environments were added before.
use Rattle.std.proofs.Common.{◌≡◌, ℕ, ◌+◌, List, ◌∷◌, ◌++◌, [], Some, None, Option, length, Contains, refl, sym, ap, ◌∙◌, subst, arith, slice_get}
use Rattle.std.specs.Prelude.{Result, Ok, Err, OnOk}
use Rattle.std.proofs.lemmas.Option.{same_Some}
use Rattle.std.proofs.lemmas.Result.{on_ok_weaker}
use Rattle.ig_expr.specs.declared.value.Value.{Value}
use Rattle.ig_item.specs.Items.{Item}
use Rattle.ig_item.specs.WellKinded.{NoneTwice}
use Rattle.ig_item.specs.declared.items.InstanceKey.{InstanceKey}
use Rattle.ig_item.specs.declared.items.Item as stored
use Rattle.ig_item.specs.declared.run_fault.RunFault.{RunFault}
use Rattle.ig_item.specs.declared.ways.Way.{Way}
use Rattle.ig_run_moves.specs.Tables.{IsNamed, item_by, Moves}
use Rattle.ig_run_tables.specs.Extends.{Extends}
use Rattle.ig_plain.specs.declared.found.Found.{Found}
use Rattle.ig_plain.specs.declared.trail.Trail.{Trail}
use Rattle.ig_plain.specs.Found.{means, count, Named, GrowsLater, Adds, AddsLater}
use Rattle.ig_plain.specs.Trail.{By, ComeByNodes, IsIndexed, IsNodeAt, Records, RecordsLater, Unfound}
use Rattle.ig_plain.proofs.Extending.{extends_itself, extends_same}
use Rattle.ig_plain.proofs.Growth.{extends_then, grows_not}
use Rattle.ig_plain.proofs.Additions.{adds_after, adds_alike, adds_nothing}
use Rattle.ig_plain.proofs.Indexing.{indexed_same}
use Rattle.ig_plain.proofs.Recording.{not_here, by_node_here, found_same, behind_same, records_after, records_nothing, records_same}

module _ (behind : Item → Item → Type 0) (a : Found) (envs : List (List Value)) (item : stored.Item) (r : Option stored.Item)
    (more : Extends a.envs.keys envs) (named : Named a item) (moves : Moves a.envs.keys envs item behind r) where
  -- there is none
  pub none_behind : r ≡ None → (x : Item) → behind (means a item) x → ⊥
  none_behind none x b =
      let q = (moves.exact a.keys a.named.values named x).0 b in
      let e : None ≡ Some q.0 = sym none ∙ q.1 in cc

  module _ (y : stored.Item) (is : r ≡ Some y) where
    pub it_is_behind : behind (means a item) (item_by envs a.keys y)
    it_is_behind = (moves.exact a.keys a.named.values named (item_by envs a.keys y)).1 (y, is, refl)

    pub only_behind : (x : Item) → behind (means a item) x → x ≡ item_by envs a.keys y
    only_behind x b =
        let q = (moves.exact a.keys a.named.values named x).0 b in
        sym q.2 ∙ ap (item_by envs a.keys) (same_Some q.0 y (sym q.1 ∙ is))

    pub named_behind : IsNamed envs a.keys y
    named_behind = moves.named y is a.keys named

    -- it isn't there, or came by a node
    pub new_behind : Unfound a (behind (means a item)) → Contains a.here.items y → ⊥
    new_behind new =
        not_here a envs a.keys more (extends_itself a.keys) y (item_by envs a.keys y) refl
        (λ x e. new x (subst (behind (means a item)) (sym e) it_is_behind))

    pub node_behind : (t : Trail) → ComeByNodes a t (behind (means a item)) → (k : ℕ) → slice_get a.here.items k ≡ Some y →
        IsNodeAt t.ways.firsts (length a.done.items + k)
    node_behind t nodes =
        by_node_here a envs a.keys more (extends_itself a.keys) t y (item_by envs a.keys y) refl
        (λ x e. nodes x (subst (behind (means a item)) (sym e) it_is_behind))

-- environments were added to the tables of a, which are those of m now
module _ (behind : Item → Item → Type 0) (a m : Found) (item : stored.Item) (r : Option stored.Item) (named : Named a item)
    (moves : Moves a.envs.keys m.envs.keys item behind r) (more : Extends a.envs.keys m.envs.keys)
    (once : NoneTwice a.envs.keys → NoneTwice m.envs.keys) (keys : m.keys ≡ a.keys) (done : m.done.items ≡ a.done.items)
    (at : m.here.items ≡ a.here.items) (later : m.later.items ≡ a.later.items) where
  count_same : count m ≡ count a
  count_same = let k = ap length done in let l = ap length at in let n = ap length later in omega (arith, k, l, n)

  index_same : (t : Trail) → IsIndexed a t → IsIndexed m t
  index_same t =
      indexed_same a.done.items m.done.items a.here.items m.here.items t.ways.firsts t.ways.firsts t.returned t.returned done at refl refl

  records_from : (may : Way → Item → Type 0) (b : Found) (t u : Trail) → Records may m b t u → Records may a b t u
  records_from may b t u d =
      let same = extends_same a.keys m.keys keys in
      records_after may a m b t u (found_same a m more same done at) (behind_same a m more same later) (index_same t) d

  pub adds_none_behind : (p budget : ℕ) → r ≡ None → Adds p (behind (means a item)) budget a m (Ok tt)
  adds_none_behind p budget none =
      adds_after p (behind (means a item)) budget a m m (Ok tt) (grows_not p (behind (means a item)) a m more once keys done at later) count_same
      (adds_nothing p (behind (means a item)) budget m
      (λ x b. absurd (none_behind behind a m.envs.keys item r more named moves none x b)))

  pub records_none_behind : (way : Way) (t : Trail) → r ≡ None → Records (By way (behind (means a item))) a m t t
  records_none_behind way t none =
      records_from (By way (behind (means a item))) m t t
      (records_nothing (By way (behind (means a item))) m t
      (λ w x b. none_behind behind a m.envs.keys item r more named moves none x b.1))

  module _ (y : stored.Item) (is : r ≡ Some y) (b : Found) where
    means_behind : item_by m.envs.keys a.keys y ≡ means m y
    means_behind = ap (λ (z : List InstanceKey). item_by m.envs.keys z y) (sym keys)

    pub into : (x : Item) → x ≡ means m y → behind (means a item) x
    into x e =
        subst (behind (means a item)) (means_behind ∙ sym e) (it_is_behind behind a m.envs.keys item r more named moves y is)

    pub from : (x : Item) → behind (means a item) x → x ≡ means m y
    from x q = only_behind behind a m.envs.keys item r more named moves y is x q ∙ means_behind

    pub adds_behind : (p budget : ℕ) (result : Result (Unit {0}) RunFault) → y.position ≡ p →
        Adds y.position (λ x. x ≡ means m y) budget m b result → Adds p (behind (means a item)) budget a b result
    adds_behind p budget result ends d =
        adds_after p (behind (means a item)) budget a m b result
        (grows_not p (behind (means a item)) a m more once keys done at later) count_same
        (adds_alike p (λ x. x ≡ means m y) (behind (means a item)) budget m b result into from
        (subst (λ (n : ℕ). Adds n (λ x. x ≡ means m y) budget m b result) ends d))

    pub records_behind : (way : Way) (t u : Trail) (result : Result (Unit {0}) RunFault) →
        OnOk result (Records (By way (λ x. x ≡ means m y)) m b t u) → OnOk result (Records (By way (behind (means a item))) a b t u)
    records_behind way t u result d =
        on_ok_weaker result
        (λ (e : Records (By way (λ x. x ≡ means m y)) m b t u).
        records_from (By way (behind (means a item))) b t u
        (records_same way (λ x. x ≡ means m y) (behind (means a item)) m b t u into from e)) d

    -- at a later position
    pub grows_behind : (p : ℕ) → GrowsLater p (means m y) m b → GrowsLater p (means m y) a b
    grows_behind p g =
        record {
          envs = extends_then a.envs.keys m.envs.keys b.envs.keys more g.envs;
          envs_once = λ n. g.envs_once (once n);
          keys = g.keys ∙ keys;
          done = g.done ∙ done;
          here = g.here ∙ at;
          item = g.item;
          later = g.later ∙ ap (λ (z : List stored.Item). z ++ g.item ∷ []) later;
          behind = g.behind;
          is = g.is;
        }

    pub adds_later_behind : (p budget : ℕ) (result : Result (Unit {0}) RunFault) → AddsLater p (means m y) budget m b result →
        AddsLater p (means m y) budget a b result
    adds_later_behind p budget (Ok u) d = (grows_behind p d.0, d.1)
    adds_later_behind p budget (Err f) d = λ e. let h = d e in (grows_behind p h.0, h.1)

    pub later_behind : (n : ℕ) (t u : Trail) → RecordsLater n (means m y) m b t u → RecordsLater n (means m y) a b t u
    later_behind n t u d =
        let same = extends_same a.keys m.keys keys in
        record {
          found = d.found ∙ found_same a m more same done at;
          behind = d.behind ∙ ap (λ (z : List Item). z ++ means m y ∷ []) (behind_same a m more same later);
          ways = d.ways;
          later = d.later;
          indexed = λ i. d.indexed (index_same t i);
        }
