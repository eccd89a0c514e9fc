-- The entries that are made from ways are those of the rules.
use Rattle.std.proofs.Common.{◌≡◌, ◌↔◌, ℕ, ◌<◌, List, Some, length, slice_get, Contains, refl, sym, ap, ◌∙◌, subst, arith}
use Rattle.std.specs.Prelude.{slice_index}
use Rattle.std.proofs.lemmas.Option.{same_Some, slice_get_within, get_or_from_slice_get}
use Rattle.ig_text.specs.Input.{Input}
use Rattle.ig_text.specs.declared.text.Span.{Span}
use Rattle.ig_text.proofs.Lists.{at_from_contains, get_within}
use Rattle.ig_item.specs.WellKinded.{NoneTwice}
use Rattle.ig_item.specs.Items.{Item, Reachable}
use Rattle.ig_item.specs.Gives.{NodeKey, Taken, Completes, nothing, leaf, tree}
use Rattle.ig_item.specs.Laws.{StandsBeforeOne}
use Rattle.ig_item.specs.Ways as ways
use Rattle.ig_item.specs.Ways.{AreWays, WayTo, IsWay, Says, IsFirstEnd, CameBy, found}
use Rattle.ig_item.specs.declared.core_grammar.Nonterminal.{Nonterminal}
use Rattle.ig_item.specs.declared.ways.Way.{Way}
use Rattle.ig_item.specs.declared.ways.Way.TheVariants as way
use Rattle.ig_forest_live.specs.Live as live
use Rattle.ig_forest_live.specs.Live.{Gives, IsLive}
use Rattle.ig_forest_tables.specs.Orders.{previous}
use Rattle.ig_forest.specs.Reduced as reduced
use Rattle.ig_forest.specs.Reduced.{IsEntry}
use Rattle.ig_forest.specs.CodeItemNodes.{AreNumbers, AreSources, WayFits, entry_by, number_by}
use Rattle.ig_forest_live.specs.Rows.{IsThere, item_at}
use Rattle.ig_forest_tables.specs.declared.entry.Entry.{Entry}
use Rattle.ig_forest_tables.specs.declared.entry.Entry.TheVariants.{Begin, Pass, Take}
use Rattle.ig_forest_tables.specs.declared.entry.Child.TheVariants as child
use Rattle.ig_forest.specs.declared.item_nodes.Sources.{Sources}
use Rattle.ig_forest.proofs.Steps.{given_dot}
use Rattle.ig_forest.proofs.CodeGives.{gives_one}

-- the tables are those of the items of a run, of which these are in the forest, over these nodes
pub record AreOfRun (core : List Nonterminal) (text : Input) (s : Sources) (items placed : List Item) (keys : List NodeKey) : Type 0 where
  pub ways : AreWays core text items s.links.now.ways
  pub once : NoneTwice items
  pub long : length s.numbers.now ≡ length items
  pub raw_long : length s.found.items.now ≡ length items
  pub positions : (k : ℕ) (x : Item) → slice_get items k ≡ Some x → (item_at s.found.items.now k).position ≡ x.position
  pub there : (k : ℕ) → Contains s.order.now k → IsThere s.found.items.now s.found.keys.now s.found.places.now k
  pub members : (k : ℕ) (x : Item) → slice_get items k ≡ Some x → Contains s.order.now k ↔ IsLive core text x
  pub placed_at : (p k : ℕ) (x : Item) → slice_get s.order.now p ≡ Some k → slice_get items k ≡ Some x → slice_get placed p ≡ Some x
  pub placed_by : (p : ℕ) (x : Item) → slice_get placed p ≡ Some x → (k : ℕ) × (slice_get s.order.now p ≡ Some k) × (slice_get items k ≡ Some x)
  pub numbers : AreNumbers s.order.now s.numbers.now
  pub nodes_long : length s.nodes.now ≡ length s.order.now
  pub nodes : (p k : ℕ) (x : Item) (key : NodeKey) → slice_get s.order.now p ≡ Some k → slice_get items k ≡ Some x → Completes core x key →
      slice_get keys (slice_index s.nodes.now p) ≡ Some key
  pub keys_once : NoneTwice keys

module _ (core : List Nonterminal) (text : Input) (s : Sources) (items placed : List Item) (keys : List NodeKey)
    (are : AreOfRun core text s items placed keys) where
  abbrev Known : Item → Type 0
  Known = Reachable core text

  -- the number of a live item
  record Numbered (j : ℕ) (x : Item) : Type 0 where
    pub place : ℕ
    pub at : slice_get s.order.now place ≡ Some j
    pub number : slice_get s.numbers.now j ≡ Some place
    pub is : number_by s j ≡ place
    pub item : slice_get placed place ≡ Some x

  numbered : (j : ℕ) (x : Item) → slice_get items j ≡ Some x → IsLive core text x → Numbered j x
  numbered j x at l =
      let (place, here) = at_from_contains s.order.now j ((are.members j x at).1 l) in
      let number = are.numbers place j here in record {
        place = place;
        at = here;
        number = number;
        is = get_or_from_slice_get s.numbers.now j place 0 number;
        item = are.placed_at place j x here at;
      }

  within : (j : ℕ) (x : Item) → Numbered j x → j < length s.numbers.now
  within j x n = slice_get_within s.numbers.now j n.place n.number

  -- the first complete item of a node over which a live item has a tree
  record Done (key : NodeKey) (d : ℕ) : Type 0 where
    pub item : Item
    pub numbered : Numbered d item
    pub node : slice_get keys (slice_index s.nodes.now (number_by s d)) ≡ Some key

  done : (x prev : Item) (key : NodeKey) (d : ℕ) → IsLive core text x → Gives core text prev (tree key) x → IsFirstEnd core Known items key d →
      Done key d
  done x prev key d l gives first =
      let e = first.end in
      let n = numbered d e.item e.there (live.child x prev e.item key l gives e.is_known e.completes) in
      let node = are.nodes n.place d e.item key n.at e.there e.completes in
      record { item = e.item; numbered = n; node = subst (λ (p : ℕ). slice_get keys (slice_index s.nodes.now p) ≡ Some key) (sym n.is) node }

  fits_says : (x prev : Item) (w : Way) (taken : Taken) → IsLive core text x → Gives core text prev taken x →
      Says core Known items x.position w prev taken → WayFits s w
  fits_says x _ _ _ l gives (ways.pass j prev at) = within j prev (numbered j prev at (live.previous x prev nothing l gives))
  fits_says x _ _ _ l gives (ways.leaf j prev taken at is) =
      let n = within j prev (numbered j prev at (live.previous x prev taken l gives)) in
      let a = are.long in
      let b = are.raw_long in
      (n, omega (arith, n, a, b))
  fits_says x _ _ _ l gives (ways.node j d prev key at first) =
      let n = numbered j prev at (live.previous x prev (tree key) l gives) in
      let f = done x prev key d l gives first in
      let m = f.numbered in
      let low = slice_get_within s.order.now m.place d m.at in
      let a = are.nodes_long in
      let i = m.is in
      (within j prev n, within d f.item m, omega (arith, low, a, i))

  fits_way : (x : Item) (w : Way) → IsLive core text x → IsWay core text Known items x w → WayFits s w
  fits_way x _ l (ways.begin dot) = tt
  fits_way x _ l (ways.comes w prev taken says gives) = fits_says x prev w taken l gives says

  -- an entry of the rules for each way
  entry_says : (x prev : Item) (w : Way) (taken : Taken) → IsLive core text x → Gives core text prev taken x →
      Says core Known items x.position w prev taken →
      IsEntry core text placed keys x (entry_by s x.position w)
  entry_says x _ _ _ l gives (ways.pass j prev at) =
      let n = numbered j prev at (live.previous x prev nothing l gives) in
      reduced.pass n.place prev (Pass (number_by s j)) n.item gives (ap Pass n.is)
  entry_says x _ _ _ l gives (ways.leaf j prev taken at is) =
      let n = numbered j prev at (live.previous x prev taken l gives) in
      let span : Span = record { begin = prev.position; end = x.position } in
      let g = subst (λ (t : Taken). Gives core text prev t x) is gives in
      let here = are.positions j prev at in
      reduced.take_leaf n.place prev span _ n.item g
      (ap (λ (b : ℕ). Take (number_by s j) (child.Leaf (record { begin = b; end = x.position }))) here ∙
      ap (λ (p : ℕ). Take p (child.Leaf span)) n.is)
  entry_says x _ _ _ l gives (ways.node j d prev key at first) =
      let n = numbered j prev at (live.previous x prev (tree key) l gives) in
      let f = done x prev key d l gives first in
      let v = slice_index s.nodes.now (number_by s d) in
      reduced.take_node n.place v prev key _ n.item f.node gives (ap (λ (p : ℕ). Take p (child.Node v)) n.is)

  entry_way : (x : Item) (w : Way) → IsLive core text x → IsWay core text Known items x w → IsEntry core text placed keys x (entry_by s x.position w)
  entry_way x _ l (ways.begin dot) = reduced.begin Begin dot refl
  entry_way x _ l (ways.comes w prev taken says gives) = entry_says x prev w taken l gives says

  -- a way is told by the previous item and by what was taken
  same_says : (position : ℕ) (v w : Way) (prev : Item) (taken other : Taken) → Says core Known items position v prev taken →
      Says core Known items position w prev other → taken ≡ other → v ≡ w
  same_says position _ _ _ _ _ (ways.pass j prev at) (ways.pass i _ bt) e = ap way.Pass (are.once j i prev at bt)
  same_says position _ _ _ _ _ (ways.pass j prev at) (ways.leaf i _ other bt is) e = cc
  same_says position _ _ _ _ _ (ways.pass j prev at) (ways.node i d _ key bt first) e = cc
  same_says position _ _ _ _ _ (ways.leaf j prev taken at is) (ways.pass i _ bt) e = cc
  same_says position _ _ _ _ _ (ways.leaf j prev taken at is) (ways.leaf i _ other bt it) e = ap way.Leaf (are.once j i prev at bt)
  same_says position _ _ _ _ _ (ways.leaf j prev taken at is) (ways.node i d _ key bt first) e = cc
  same_says position _ _ _ _ _ (ways.node j d prev key at first) (ways.pass i _ bt) e = cc
  same_says position _ _ _ _ _ (ways.node j d prev key at first) (ways.leaf i _ other bt is) e = cc
  same_says position _ _ _ _ _ (ways.node j d prev key at first) (ways.node i c _ other bt second) e =
      let same : key ≡ other = cc in
      let other_first = subst (λ (k : NodeKey). IsFirstEnd core Known items k c) (sym same) second in
      let low = first.least c other_first.end in
      let high = other_first.least d first.end in
      let ends : d ≡ c = omega (arith, low, high) in
      let prevs : j ≡ i = are.once j i prev at bt in
      cc

  -- from which item an entry comes
  record From (position : ℕ) (w : Way) (prev : Item) : Type 0 where
    pub number : ℕ
    pub at : slice_get items number ≡ Some prev
    pub is : previous (entry_by s position w) ≡ number_by s number

  from : (here position : ℕ) (w : Way) (prev : Item) (taken : Taken) → Says core Known items here w prev taken → From position w prev
  from here position _ _ _ (ways.pass j prev at) = record { number = j; at = at; is = refl }
  from here position _ _ _ (ways.leaf j prev taken at is) = record { number = j; at = at; is = refl }
  from here position _ _ _ (ways.node j d prev key at first) = record { number = j; at = at; is = refl }

  same_number : (i j : ℕ) (x y : Item) → Numbered i x → Numbered j y → number_by s i ≡ number_by s j → i ≡ j
  same_number i j x y n m e =
      let places : n.place ≡ m.place = sym n.is ∙ e ∙ m.is in
      same_Some i j (sym n.at ∙ ap (slice_get s.order.now) places ∙ m.at)

  -- two ways from one previous item are one
  one_came : StandsBeforeOne → (position : ℕ) (x prev other : Item) (v w : Way) (taken took : Taken) → IsLive core text x →
      Says core Known items x.position v prev taken →
      Gives core text prev taken x → Says core Known items x.position w other took → Gives core text other took x →
      previous (entry_by s position v) ≡ previous (entry_by s position w) → v ≡ w
  one_came before_one position x prev other v w taken took l says gives says_too gives_too e =
      let f = from x.position position v prev taken says in
      let g = from x.position position w other took says_too in
      let n = numbered f.number prev f.at (live.previous x prev taken l gives) in
      let m = numbered g.number other g.at (live.previous x other took l gives_too) in
      let numbers = same_number f.number g.number prev other n m (sym f.is ∙ e ∙ g.is) in
      let items_same : prev ≡ other = same_Some prev other (sym f.at ∙ ap (slice_get items) numbers ∙ g.at) in
      let says_here = subst (λ (z : Item). Says core Known items x.position w z took) (sym items_same) says_too in
      let gives_here = subst (λ (z : Item). Gives core text z took x) (sym items_same) gives_too in
      same_says x.position v w prev taken took says says_here (gives_one core text before_one gives gives_here)

  never_first : (x prev : Item) (taken : Taken) → x.dot ≡ 0 → Gives core text prev taken x → ⊥
  never_first x prev taken dot gives = let d = given_dot core text gives in omega (arith, dot, d)

  one_way : StandsBeforeOne → (position : ℕ) (x : Item) (v w : Way) → IsLive core text x → IsWay core text Known items x v → IsWay core text Known items x w →
      previous (entry_by s position v) ≡ previous (entry_by s position w) → v ≡ w
  one_way before_one position x _ _ l (ways.begin dot) (ways.begin too) e = refl
  one_way before_one position x _ _ l (ways.begin dot) (ways.comes w prev taken says gives) e = absurd (never_first x prev taken dot gives)
  one_way before_one position x _ _ l (ways.comes v prev taken says gives) (ways.begin dot) e = absurd (never_first x prev taken dot gives)
  one_way before_one position x _ _ l (ways.comes v prev taken says gives) (ways.comes w other took says_too gives_too) e =
      one_came before_one position x prev other v w taken took l says gives says_too gives_too e

  -- a number of the order is that of a live item
  record LiveAt (k : ℕ) : Type 0 where
    pub item : Item
    pub at : slice_get items k ≡ Some item
    pub live : IsLive core text item

  live_at : (k : ℕ) → Contains s.order.now k → LiveAt k
  live_at k c =
      let t = are.there k c in
      let a = are.raw_long in
      let (x, at) = get_within items k (let i = t.item in omega (arith, i, a)) in
      record { item = x; at = at; live = (are.members k x at).0 c }

  pub are_sources : StandsBeforeOne → AreSources s
  are_sources before_one = record {
    there = are.there;
    found = λ k c. let t = (are.there k c).item in let a = are.raw_long in let b = are.ways.ways.number in omega (arith, t, a, b);
    fit = λ k w c to. let l = live_at k c in fits_way l.item w l.live (are.ways.ways.sound k l.item w l.at to);
    one = λ k position v w c to_v to_w e.
        let l = live_at k c in
        ap (entry_by s position)
        (one_way before_one position l.item v w l.live (are.ways.ways.sound k l.item v l.at to_v) (are.ways.ways.sound k l.item w l.at to_w) e);
  }

  -- the number of a previous item is its place
  number_of_prev : (j p : ℕ) (prev : Item) → slice_get items j ≡ Some prev → slice_get placed p ≡ Some prev → number_by s j ≡ p
  number_of_prev j p prev at here =
      let (k, order_at, item_at_k) = are.placed_by p prev here in
      let same : k ≡ j = are.once k j prev item_at_k at in
      ap (number_by s) (sym same) ∙ get_or_from_slice_get s.numbers.now k p 0 (are.numbers p k order_at)

  shows_pass : (position p : ℕ) (w : Way) (prev : Item) (taken : Taken) → slice_get placed p ≡ Some prev →
      Says core Known items position w prev taken →
      taken ≡ nothing → Pass p ≡ entry_by s position w
  shows_pass position p _ _ _ here (ways.pass j prev at) e = ap Pass (sym (number_of_prev j p prev at here))
  shows_pass position p _ _ _ here (ways.leaf j prev taken at is) e = cc
  shows_pass position p _ _ _ here (ways.node j d prev key at first) e = cc

  shows_leaf : (position p : ℕ) (w : Way) (prev : Item) (taken : Taken) (span : Span) → slice_get placed p ≡ Some prev →
      Says core Known items position w prev taken → taken ≡ leaf span → Take p (child.Leaf span) ≡ entry_by s position w
  shows_leaf position p _ _ _ span here (ways.pass j prev at) e = cc
  shows_leaf position p _ _ _ span here (ways.leaf j prev taken at is) e =
      let spans : span ≡ (let own : Span = record { begin = prev.position; end = position } in own) = cc in
      ap (λ (z : Span). Take p (child.Leaf z)) spans ∙
      ap (λ (n : ℕ). Take n (child.Leaf (record { begin = prev.position; end = position }))) (sym (number_of_prev j p prev at here)) ∙
      ap (λ (b : ℕ). Take (number_by s j) (child.Leaf (record { begin = b; end = position }))) (sym (are.positions j prev at))
  shows_leaf position p _ _ _ span here (ways.node j d prev key at first) e = cc

  shows_node : (x : Item) (p v : ℕ) (w : Way) (prev : Item) (taken : Taken) (key : NodeKey) → IsLive core text x → slice_get placed p ≡ Some prev →
      slice_get keys v ≡ Some key → Says core Known items x.position w prev taken → Gives core text prev taken x → taken ≡ tree key →
      Take p (child.Node v) ≡ entry_by s x.position w
  shows_node x p v _ _ _ key l here key_at (ways.pass j prev at) gives e = cc
  shows_node x p v _ _ _ key l here key_at (ways.leaf j prev taken at is) gives e = cc
  shows_node x p v _ _ _ key l here key_at (ways.node j d prev own at first) gives e =
      let same : own ≡ key = cc in
      let f = done x prev own d l gives first in
      let w = slice_index s.nodes.now (number_by s d) in
      let nodes : w ≡ v = are.keys_once w v key (f.node ∙ ap Some same) key_at in
      ap (λ (z : ℕ). Take p (child.Node z)) (sym nodes) ∙ ap (λ (n : ℕ). Take n (child.Node w)) (sym (number_of_prev j p prev at here))

  -- the way of an entry
  record WayOf (k position : ℕ) (e : Entry) : Type 0 where
    pub way : Way
    pub to : WayTo s.links.now.ways k way
    pub is : e ≡ entry_by s position way

  begins : (k : ℕ) (x : Item) → slice_get items k ≡ Some x → x.dot ≡ 0 → WayOf k x.position Begin
  begins k x at dot =
      let a = slice_get_within items k x at in
      let b = are.ways.ways.number in
      let (w, here) = get_within s.links.now.ways.firsts k (omega (arith, a, b)) in
      by w here (are.ways.ways.sound k x w at (found here))
    where
      by : (w : Way) → slice_get s.links.now.ways.firsts k ≡ Some w → IsWay core text Known items x w → WayOf k x.position Begin
      by _ here (ways.begin too) = record { way = way.Begin; to = found here; is = refl }
      by _ here (ways.comes w prev taken says gives) = absurd (never_first x prev taken dot gives)

  way_of : (k : ℕ) (x : Item) (e : Entry) → slice_get items k ≡ Some x → IsLive core text x → IsEntry core text placed keys x e → WayOf k x.position e
  way_of k x e at l (reduced.begin _ dot is) =
      let b = begins k x at dot in record { way = b.way; to = b.to; is = is ∙ b.is }
  way_of k x e at l (reduced.pass p prev _ here gives is) =
      let came = are.ways.ways.complete k x prev nothing at gives in
      record { way = came.way; to = came.to; is = is ∙ shows_pass x.position p came.way prev nothing here came.says refl }
  way_of k x e at l (reduced.take_leaf p prev span _ here gives is) =
      let came = are.ways.ways.complete k x prev (leaf span) at gives in
      record { way = came.way; to = came.to; is = is ∙ shows_leaf x.position p came.way prev (leaf span) span here came.says refl }
  way_of k x e at l (reduced.take_node p v prev key _ here key_at gives is) =
      let came = are.ways.ways.complete k x prev (tree key) at gives in
      record { way = came.way; to = came.to; is = is ∙ shows_node x p v came.way prev (tree key) key l here key_at came.says gives refl }

  -- the entries of the ways to a live item are its entries
  pub entries_are : (k : ℕ) (x : Item) (e : Entry) → slice_get items k ≡ Some x → Contains s.order.now k →
      ((w : Way) × WayTo s.links.now.ways k w × (e ≡ entry_by s (item_at s.found.items.now k).position w)) ↔ IsEntry core text placed keys x e
  entries_are k x e at c =
      let l = (are.members k x at).0 c in
      let here = are.positions k x at in (
        λ h.
            subst (IsEntry core text placed keys x) (sym (h.2 ∙ ap (λ (n : ℕ). entry_by s n h.0) here))
            (entry_way x h.0 l (are.ways.ways.sound k x h.0 at h.1)),
        λ h. let w = way_of k x e at l h in (w.way, w.to, w.is ∙ ap (λ (n : ℕ). entry_by s n w.way) (sym here)),
      )
