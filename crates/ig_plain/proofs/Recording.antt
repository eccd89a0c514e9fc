-- What is recorded of the ways to items, one after the other.
use Rattle.ig_item.specs.declared.run_fault.RunFault.{RunFault}
use Rattle.std.proofs.Common.{◌≡◌, ◌⊎◌, ⊎_elim, inl, inr, ℕ, zero, suc, ◌+◌, ◌<◌, List, [], ◌∷◌, ◌++◌, Some, length, Contains, refl, sym, ap, ◌∙◌, subst, arith, slice_get, length-append, append_assoc, map}
use Rattle.std.specs.Prelude.{Result, Ok, Err, OnOk, option_map}
use Rattle.std.proofs.lemmas.List.{map-append}
use Rattle.std.proofs.lemmas.Option.{same_Some, slice_get_within, slice_get-map}
use Rattle.std.proofs.lemmas.List.Elements.{Contains-append_right, Contains-append_cases}
use Rattle.ig_text.proofs.Lists.{sides, right_at, none_in_nil, contains_one, it_is_in, get_within, mapped_in, same_map, contains_from_at}
use Rattle.ig_item.specs.Items.{Item, MatchesNone, past}
use Rattle.ig_item.specs.Ways.{WayLists, WayTo, found, again}
use Rattle.ig_expr.specs.declared.value.Value.{Value}
use Rattle.ig_item.specs.declared.items.InstanceKey.{InstanceKey}
use Rattle.ig_item.specs.declared.items.Item as stored
use Rattle.ig_item.specs.declared.ways.Way.{Way}
use Rattle.ig_item.specs.declared.ways.Way.TheVariants.{Node}
use Rattle.ig_item.specs.declared.ways.FurtherWay.{FurtherWay}
use Rattle.ig_plain.specs.declared.found.Found.{Found}
use Rattle.ig_plain.specs.declared.trail.Trail.{Trail}
use Rattle.ig_run_tables.specs.Extends.{Extends}
use Rattle.ig_run_moves.specs.Tables.{item_by}
use Rattle.ig_plain.specs.Found.{means, found_in, later_in, Named}
use Rattle.ig_run_tables.specs.Returned.{entry}
use Rattle.ig_plain.specs.Trail.{IsRecorded, here, later, By, ComeByNodes, ComesOnce, IsIndexed, IsNodeAt, Pushes, Unfound, Records, RecordsLater, RecordsTerminal}
use Rattle.ig_plain.proofs.Growth.{means_kept, found_named, longer, extends_at, extends_in, extends_then, extends_cases}
use Rattle.ig_plain.proofs.Extending.{extends_itself, extends_by, extends_same}
use Rattle.ig_plain.proofs.Indexing.{indexed_same, indexed_once, indexed_node}

-- what holds anyway holds where there is a value
pub ok_of : {T E P : Type 0} (r : Result T E) → P → OnOk r P
ok_of (Ok x) p = p
ok_of (Err e) p = tt

-- one item more at the position
pub found_one : (a : Found) (at : List stored.Item) (x : stored.Item) → at ≡ a.here.items ++ x ∷ [] →
    map (means a) (a.done.items ++ at) ≡ found_in a ++ means a x ∷ []
found_one a at x is =
    ap (map (means a))
    (ap (λ (z : List stored.Item). a.done.items ++ z) is ∙ sym (append_assoc a.done.items a.here.items (x ∷ []))) ∙
    map-append (means a) (a.done.items ++ a.here.items) (x ∷ [])

-- what has a number is found there
pub meant_at : (s : Found) (number : ℕ) (item : stored.Item) → slice_get (s.done.items ++ s.here.items) number ≡ Some item →
    slice_get (found_in s) number ≡ Some (means s item)
meant_at s number item at = slice_get-map (means s) (s.done.items ++ s.here.items) number ∙ ap (option_map (means s)) at

-- tables grew
module _ (a : Found) (envs : List (List Value)) (keys : List InstanceKey) (wider : Extends a.envs.keys envs) (more : Extends a.keys keys) where
  pub means_same : (x : stored.Item) → Named a x → item_by envs keys x ≡ means a x
  means_same x n = means_kept a.envs.keys envs a.keys keys x wider more a.named.values n

  -- an item that means none of those found isn't there
  pub not_here : (x : stored.Item) (y : Item) → item_by envs keys x ≡ y → Unfound a (λ z. z ≡ y) → Contains a.here.items x → ⊥
  not_here x y is new c =
      new (means a x) (sym (means_same x (a.named.here x c)) ∙ is)
      (mapped_in (means a) (a.done.items ++ a.here.items) x (Contains-append_right a.done.items a.here.items x c))

  -- an item that is among those at the position was found by a node, if all were that mean the same
  pub by_node_here : (t : Trail) (x : stored.Item) (y : Item) → item_by envs keys x ≡ y → ComeByNodes a t (λ z. z ≡ y) → (k : ℕ) →
      slice_get a.here.items k ≡ Some x → IsNodeAt t.ways.firsts (length a.done.items + k)
  by_node_here t x y is nodes k at =
      nodes (means a x) (sym (means_same x (a.named.here x (contains_from_at a.here.items k x at))) ∙ is) (length a.done.items + k)
      (meant_at a (length a.done.items + k) x (right_at a.done.items a.here.items (length a.done.items + k) k x refl at))

module _ (a b : Found) (envs : Extends a.envs.keys b.envs.keys) (keys : Extends a.keys b.keys) where
  same : (x : stored.Item) → Named a x → means b x ≡ means a x
  same x n = means_same a b.envs.keys b.keys envs keys x n

  pub found_same : b.done.items ≡ a.done.items → b.here.items ≡ a.here.items → found_in b ≡ found_in a
  found_same done at =
      ap (map (means b)) (ap (λ (z : List stored.Item). z ++ b.here.items) done ∙ ap (λ (z : List stored.Item). a.done.items ++ z) at) ∙
      same_map (means b) (means a) (a.done.items ++ a.here.items) (λ x c. same x (found_named a x c))

  later_map : map (means b) a.later.items ≡ later_in a
  later_map = same_map (means b) (means a) a.later.items (λ x c. same x (a.named.later x c))

  pub behind_same : b.later.items ≡ a.later.items → later_in b ≡ later_in a
  behind_same is = ap (map (means b)) is ∙ later_map

  pub behind_one : (x : stored.Item) (y : Item) → b.later.items ≡ a.later.items ++ x ∷ [] → means b x ≡ y → later_in b ≡ later_in a ++ y ∷ []
  behind_one x y is means_is =
      ap (map (means b)) is ∙ map-append (means b) a.later.items (x ∷ []) ∙ ap (λ (z : List Item). z ++ means b x ∷ []) later_map ∙
      ap (λ (z : Item). later_in a ++ z ∷ []) means_is

-- a way stays one as the lists grow
pub way_more : (v w : WayLists) (k : ℕ) (way : Way) → Extends v.firsts w.firsts → Extends v.further w.further → WayTo v k way →
    WayTo w k way
way_more v w k way firsts further (found at) = found (extends_at v.firsts w.firsts k way firsts at)
way_more v w k way firsts further (again more c item is) = again more (extends_in v.further w.further more further c) item is

-- what is recorded stays so
pub recorded_more : (may : Way → Item → Type 0) (a b : Found) (t u : Trail) (way : Way) (x : Item) → Records may a b t u →
    IsRecorded a t way x → IsRecorded b u way x
recorded_more may a b t u way x r (here k at to) =
    here k (extends_at (found_in a) (found_in b) k x r.found at) (way_more t.ways u.ways k way r.firsts r.further to)
recorded_more may a b t u way x r (later n (k, at, from) is) =
    later n (k, ap (λ (z : List Item). slice_get z k) r.behind ∙ at, ap (λ (z : List ℕ). slice_get z k) r.later ∙ from) is

-- nothing is to be recorded
pub records_nothing : (may : Way → Item → Type 0) (a : Found) (t : Trail) → ((way : Way) (x : Item) → may way x → ⊥) → Records may a a t t
records_nothing may a t never =
    record {
      found = extends_itself (found_in a);
      behind = refl;
      firsts = extends_itself t.ways.firsts;
      further = extends_itself t.ways.further;
      ends = refl;
      later = refl;
      numbered = λ e. e;
      there = λ more c. absurd (none_in_nil more c);
      each = λ e k way x at to. inl to;
      has = λ e way x m. absurd (never way x m);
      indexed = λ i. i;
    }

-- the same ways are allowed
pub records_alike : (may other : Way → Item → Type 0) (a b : Found) (t u : Trail) → ((way : Way) (x : Item) → may way x → other way x) →
    ((way : Way) (x : Item) → other way x → may way x) → Records may a b t u → Records other a b t u
records_alike may other a b t u into back r =
    record {
      found = r.found;
      behind = r.behind;
      firsts = r.firsts;
      further = r.further;
      ends = r.ends;
      later = r.later;
      numbered = r.numbered;
      there = r.there;
      each = λ e k way x at to.
          ⊎_elim (λ (h : WayTo t.ways k way). inl h) (λ (h : may way x). inr (into way x h)) (r.each e k way x at to);
      has = λ e way x m. r.has e way x (back way x m);
      indexed = r.indexed;
    }

-- tables grew before
pub records_after : (may : Way → Item → Type 0) (a b c : Found) (t u : Trail) → found_in b ≡ found_in a → later_in b ≡ later_in a →
    (IsIndexed a t → IsIndexed b t) → Records may b c t u → Records may a c t u
records_after may a b c t u same_found same_later same_index r =
    record {
      found = subst (λ (z : List Item). Extends z (found_in c)) same_found r.found;
      behind = r.behind ∙ same_later;
      firsts = r.firsts;
      further = r.further;
      ends = r.ends;
      later = r.later;
      numbered = λ e. r.numbered (e ∙ ap length (sym same_found));
      there = r.there;
      each = λ e. r.each (e ∙ ap length (sym same_found));
      has = λ e. r.has (e ∙ ap length (sym same_found));
      indexed = λ i. r.indexed (same_index i);
    }

-- one after the other
module _ (may first second : Way → Item → Type 0) (a b c : Found) (t u v : Trail) (d : Records first a b t u) (e : Records second b c u v)
    (one : (way : Way) (x : Item) → first way x → may way x) (other : (way : Way) (x : Item) → second way x → may way x)
    (split : (way : Way) (x : Item) → may way x → first way x ⊎ second way x) where
  within : (more : FurtherWay) → Contains d.further.more more → more.item < length (found_in c)
  within more m = let l = longer (found_in b) (found_in c) e.found in let n = d.there more m in omega (arith, l, n)

  -- a way of the one between to an item of that number, which is below the number of its items or was there before
  between : length t.ways.firsts ≡ length (found_in a) → (k : ℕ) (way : Way) (x : Item) → slice_get (found_in c) k ≡ Some x →
      WayTo u.ways k way → WayTo t.ways k way ⊎ first way x
  between n k way x at to = go to
    where
      below : k < length (found_in b) → WayTo t.ways k way ⊎ first way x
      below lt =
          let y = get_within (found_in b) k lt in
          let same : y.0 ≡ x = same_Some y.0 x (sym (extends_at (found_in b) (found_in c) k y.0 e.found y.1) ∙ at) in
          d.each n k way x (y.1 ∙ ap Some same) to

      go : WayTo u.ways k way → WayTo t.ways k way ⊎ first way x
      go (found f) = below (let l = slice_get_within u.ways.firsts k way f in let q = d.numbered n in omega (arith, l, q))
      go (again more m item is) =
          ⊎_elim (λ (h : Contains t.ways.further more). inl (again more h item is))
          (λ (h : Contains d.further.more more). below (let l = d.there more h in omega (arith, l, item)))
          (extends_cases t.ways.further u.ways.further more d.further m)

  pub records_then : Records may a c t v
  records_then =
      record {
        found = extends_then (found_in a) (found_in b) (found_in c) d.found e.found;
        behind = e.behind ∙ d.behind;
        firsts = extends_then t.ways.firsts u.ways.firsts v.ways.firsts d.firsts e.firsts;
        further = extends_then t.ways.further u.ways.further v.ways.further d.further e.further;
        ends = e.ends ∙ d.ends;
        later = e.later ∙ d.later;
        numbered = λ n. e.numbered (d.numbered n);
        there = λ more m.
            ⊎_elim (within more) (e.there more) (Contains-append_cases d.further.more e.further.more more m);
        each = λ n k way x at to.
            ⊎_elim
            (λ (h : WayTo u.ways k way).
            ⊎_elim (λ (g : WayTo t.ways k way). inl g) (λ (g : first way x). inr (one way x g)) (between n k way x at h))
            (λ (h : second way x). inr (other way x h)) (e.each (d.numbered n) k way x at to);
        has = λ n way x m.
            ⊎_elim (λ (h : first way x). recorded_more second b c u v way x e (d.has n way x h))
            (λ (h : second way x). e.has (d.numbered n) way x h) (split way x m);
        indexed = λ i. e.indexed (d.indexed i);
      }

-- one new item, with its way
module _ (a b : Found) (t u : Trail) (x : Item) (way : Way) (more_found : found_in b ≡ found_in a ++ x ∷ []) (same_later : later_in b ≡ later_in a)
    (ways : u.ways ≡ record t.ways { firsts = t.ways.firsts ++ way ∷ [] }) (same_prevs : u.later.items ≡ t.later.items)
    (indexed : IsIndexed a t → IsIndexed b u) where
  firsts_are : u.ways.firsts ≡ t.ways.firsts ++ way ∷ []
  firsts_are = ap (λ (w : WayLists). w.firsts) ways

  further_are : u.ways.further ≡ t.ways.further
  further_are = ap (λ (w : WayLists). w.further) ways

  new_each : length t.ways.firsts ≡ length (found_in a) → (k : ℕ) (w : Way) (y : Item) → slice_get (found_in b) k ≡ Some y → WayTo u.ways k w →
      WayTo t.ways k w ⊎ By way (λ z. z ≡ x) w y
  new_each n k w y at (found f) =
      ⊎_elim (λ (h : slice_get t.ways.firsts k ≡ Some w). inl (found h))
      (λ (h : (m : ℕ) × (k ≡ length t.ways.firsts + m) × (slice_get (way ∷ []) m ≡ Some w)). inr (new h.0 h.1 h.2))
      (sides t.ways.firsts (way ∷ []) k w (ap (λ (z : List Way). slice_get z k) (sym firsts_are) ∙ f))
    where
      at_end : (m : ℕ) → slice_get (way ∷ []) m ≡ Some w → (m ≡ 0) × (w ≡ way)
      at_end zero e = (refl, sym (same_Some way w e))
      at_end (suc m) e = cc

      new : (m : ℕ) → k ≡ length t.ways.firsts + m → slice_get (way ∷ []) m ≡ Some w → By way (λ z. z ≡ x) w y
      new m is e =
          let p = at_end m e in
          let last : slice_get (found_in b) k ≡ Some x =
          ap (λ (z : List Item). slice_get z k) more_found ∙
          right_at (found_in a) (x ∷ []) k 0 x (let q = p.0 in omega (arith, is, q, n)) refl in (p.1, same_Some y x (sym at ∙ last))
  new_each n k w y at (again more c item is) = inl (again more (subst (λ (z : List FurtherWay). Contains z more) further_are c) item is)

  pub records_new : Records (By way (λ z. z ≡ x)) a b t u
  records_new =
      record {
        found = extends_by (found_in a) (found_in b) (x ∷ []) more_found;
        behind = same_later;
        firsts = extends_by t.ways.firsts u.ways.firsts (way ∷ []) firsts_are;
        further = extends_same t.ways.further u.ways.further further_are;
        ends = ap (λ (w : WayLists). w.ends) ways;
        later = same_prevs;
        numbered = λ n.
            let p = ap length firsts_are ∙ length-append t.ways.firsts (way ∷ []) in
            let q = ap length more_found ∙ length-append (found_in a) (x ∷ []) in omega (arith, n, p, q);
        there = λ more c. absurd (none_in_nil more c);
        each = new_each;
        has = λ n w y m.
            here (length (found_in a))
            (ap (λ (z : List Item). slice_get z (length (found_in a))) more_found ∙
            right_at (found_in a) (x ∷ []) (length (found_in a)) 0 y (omega arith) (ap Some (sym m.1)))
            (found (ap (λ (z : List Way). slice_get z (length (found_in a))) firsts_are ∙
            right_at t.ways.firsts (way ∷ []) (length (found_in a)) 0 w (omega (arith, n)) (ap Some (sym m.0))));
        indexed = indexed;
      }

-- what was pushed is one new item, with its way
pub pushed_records : (x : stored.Item) (way : Way) (a b : Found) (t m u : Trail) → Pushes x way a b m u → m.ways ≡ t.ways →
    m.later.items ≡ t.later.items → (IsIndexed a t → IsIndexed b u) → Records (By way (λ z. z ≡ means a x)) a b t u
pushed_records x way a b t m u p ways same_prevs indexed =
    records_new a b t u (means a x) way
    (ap (λ (z : List stored.Item). map (means b) (z ++ b.here.items)) p.done ∙
    same_map (means b) (means a) (a.done.items ++ b.here.items) (λ y c. same y) ∙ found_one a b.here.items x p.here)
    (ap (map (means b)) p.behind ∙ same_map (means b) (means a) a.later.items (λ y c. same y))
    (p.ways ∙ ap (λ (w : WayLists). record w { firsts = w.firsts ++ way ∷ [] }) ways) (p.later ∙ same_prevs) indexed
  where
    same : (y : stored.Item) → means b y ≡ means a y
    same y =
        ap (λ (z : List (List Value)). item_by z b.keys y) p.envs ∙ ap (λ (z : List InstanceKey). item_by a.envs.keys z y) p.keys

-- it came by no call, so that the index has all that it has to
pub pushed_once : (x : stored.Item) (way : Way) (a b : Found) (t u : Trail) → Pushes x way a b t u → ComesOnce way → IsIndexed a t → IsIndexed b u
pushed_once x way a b t u p once i =
    indexed_same a.done.items b.done.items (a.here.items ++ x ∷ []) b.here.items (t.ways.firsts ++ way ∷ []) u.ways.firsts t.returned u.returned
    p.done p.here (ap (λ (z : WayLists). z.firsts) p.ways) p.returned
    (indexed_once a.done.items a.here.items t.ways.firsts t.returned x way once i)

-- it came by a call, and was added to the index before
pub pushed_node : (x : stored.Item) (way : Way) (number : ℕ) (a b : Found) (t m u : Trail) → Pushes x way a b m u →
    number ≡ length a.done.items + length a.here.items →
    m.ways.firsts ≡ t.ways.firsts → m.returned ≡ t.returned ++ entry x number ∷ [] → IsIndexed a t → IsIndexed b u
pushed_node x way number a b t m u p is firsts returned i =
    indexed_same a.done.items b.done.items (a.here.items ++ x ∷ []) b.here.items (t.ways.firsts ++ way ∷ []) u.ways.firsts
    (t.returned ++ entry x number ∷ []) u.returned
    p.done p.here (ap (λ (z : WayLists). z.firsts) p.ways ∙ ap (λ (z : List Way). z ++ way ∷ []) firsts) (p.returned ∙ returned)
    (indexed_node a.done.items a.here.items t.ways.firsts t.returned x way number is i)

-- a further way to the item of that number
module _ (a : Found) (t u : Trail) (x : Item) (number prev done : ℕ) (at : slice_get (found_in a) number ≡ Some x)
    (ways : u.ways ≡ record t.ways { further = t.ways.further ++ record { item = number; prev = prev; done = done } ∷ [] })
    (same_prevs : u.later.items ≡ t.later.items) (same_index : u.returned ≡ t.returned) where
  abbrev one_more : FurtherWay
  one_more = record { item = number; prev = prev; done = done }

  with_one : u.ways.further ≡ t.ways.further ++ one_more ∷ []
  with_one = ap (λ (w : WayLists). w.further) ways

  same_firsts : u.ways.firsts ≡ t.ways.firsts
  same_firsts = ap (λ (w : WayLists). w.firsts) ways

  further_each : (k : ℕ) (w : Way) (y : Item) → slice_get (found_in a) k ≡ Some y → WayTo u.ways k w →
      WayTo t.ways k w ⊎ By (Node prev done) (λ z. z ≡ x) w y
  further_each k w y there (found f) = inl (found (ap (λ (z : List Way). slice_get z k) (sym same_firsts) ∙ f))
  further_each k w y there (again more c item is) =
      ⊎_elim (λ (h : Contains t.ways.further more). inl (again more h item is))
      (λ (h : Contains (one_more ∷ []) more).
      let same : more ≡ one_more = contains_one one_more more h in
      let k_is : number ≡ k = sym (ap (λ (z : FurtherWay). z.item) same) ∙ item in
      inr (is ∙ ap (λ (z : FurtherWay). Node z.prev z.done) same, same_Some y x (sym there ∙ ap (slice_get (found_in a)) (sym k_is) ∙ at)))
      (Contains-append_cases t.ways.further (one_more ∷ []) more (subst (λ (z : List FurtherWay). Contains z more) with_one c))

  pub records_further : Records (By (Node prev done) (λ z. z ≡ x)) a a t u
  records_further =
      record {
        found = extends_itself (found_in a);
        behind = refl;
        firsts = extends_same t.ways.firsts u.ways.firsts same_firsts;
        further = extends_by t.ways.further u.ways.further (one_more ∷ []) with_one;
        ends = ap (λ (w : WayLists). w.ends) ways;
        later = same_prevs;
        numbered = λ n. ap length same_firsts ∙ n;
        there = λ more c.
            let i = ap (λ (z : FurtherWay). z.item) (contains_one one_more more c) in
            let l = slice_get_within (found_in a) number x at in omega (arith, i, l);
        each = λ n. further_each;
        has = λ n w y m.
            here number (at ∙ ap Some (sym m.1))
            (again one_more
            (subst (λ (z : List FurtherWay). Contains z one_more) (sym with_one)
            (Contains-append_right t.ways.further (one_more ∷ []) one_more (it_is_in one_more))) refl m.0);
        indexed = indexed_same a.done.items a.done.items a.here.items a.here.items t.ways.firsts u.ways.firsts t.returned u.returned refl refl
            same_firsts same_index;
      }

-- of other items that are the same
pub records_same : (way : Way) (may other : Item → Type 0) (a b : Found) (t u : Trail) → ((x : Item) → may x → other x) →
    ((x : Item) → other x → may x) → Records (By way may) a b t u → Records (By way other) a b t u
records_same way may other a b t u into back r =
    records_alike (By way may) (By way other) a b t u (λ w x m. (m.0, into x m.1)) (λ w x m. (m.0, back x m.1)) r

-- an item was added at a later position
pub records_later : (n : ℕ) (x : stored.Item) (y : Item) (a b : Found) (t u : Trail) → Extends a.envs.keys b.envs.keys →
    b.keys ≡ a.keys → b.done.items ≡ a.done.items → b.here.items ≡ a.here.items → b.later.items ≡ a.later.items ++ x ∷ [] → means b x ≡ y →
    u.ways ≡ t.ways → u.later.items ≡ t.later.items ++ n ∷ [] → u.returned ≡ t.returned → RecordsLater n y a b t u
records_later n x y a b t u envs keys done at behind is ways prevs returned =
    let same = extends_same a.keys b.keys keys in
    record {
      found = found_same a b envs same done at;
      behind = behind_one a b envs same x y behind is;
      ways = ways;
      later = prevs;
      indexed = indexed_same a.done.items b.done.items a.here.items b.here.items t.ways.firsts u.ways.firsts t.returned u.returned done at
          (ap (λ (z : WayLists). z.firsts) ways) returned;
    }
