-- The next position is reached: the ways to the items at it are known already.
use Rattle.std.proofs.Common.{◌≡◌, ◌⊎◌, ⊎_elim, inl, inr, ℕ, ◌+◌, ◌<◌, ◌≤◌, List, [], ◌∷◌, ◌++◌, Some, length, map, take, Contains, refl, sym, ap, ◌∙◌, subst, arith, slice_get, length-append, append_assoc, set, Bool, true, false, if◌then◌else◌}
use Rattle.std.proofs.lemmas.List.{append-nil, map-append, length-map, length-take-le, take_all, take_more_set}
use Rattle.std.proofs.lemmas.Option.{slice_get_within}
use Rattle.std.proofs.lemmas.List.Elements.{Contains-append_cases}
use Rattle.ig_text.specs.Input.{Input}
use Rattle.ig_text.proofs.Lists.{at_from_contains, among_all, contains_from_at, contains_one, right_at, sides, take_at, same_map, unmapped_at, mapped_at}
use Rattle.ig_item.specs.Items.{Item}
use Rattle.ig_item.specs.Ways as ways
use Rattle.ig_item.specs.Ways.{WayLists}
use Rattle.ig_item.specs.WellKinded.{NoneTwice}
use Rattle.ig_item.specs.declared.core_grammar.Nonterminal.{Nonterminal}
use Rattle.ig_item.specs.declared.items.Item as stored
use Rattle.ig_item.specs.declared.ways.Way.{Way}
use Rattle.ig_item.specs.declared.ways.Way.TheVariants.{Leaf}
use Rattle.ig_item.specs.declared.ways.FurtherWay.{FurtherWay}
use Rattle.ig_plain.specs.declared.found.Found.{Found}
use Rattle.ig_plain.specs.declared.trail.Trail.{Trail}
use Rattle.ig_run_moves.specs.declared.waiting.Waiting.{Waiting}
use Rattle.ig_run_tables.specs.Extends.{Extends}
use Rattle.ig_plain.specs.Found.{means, found_in, later_in, taken_in}
use Rattle.ig_plain.specs.Run.{IsRun}
use Rattle.ig_plain.specs.Arrival.{IsParted, ArrivesWith, WereThere}
use Rattle.ig_plain.specs.Trail as trail
use Rattle.ig_plain.specs.Trail.{Pairs, IsRecorded, FollowTrail, HasTrail, PartsTrail, ArrivesOn}
use Rattle.ig_plain.proofs.Growth.{longer, extends_at}
use Rattle.ig_plain.proofs.Distinct.{different}
use Rattle.ig_plain.proofs.Pairing.{IsSameFrom, all_same, same_more, same_set, set_among, front_at, behind_at, pairs_left, pairs_right, pairs_sides, pairs_mapped, pairs_unmapped}
use Rattle.ig_plain.proofs.Extending.{extends_same}
use Rattle.ig_plain.proofs.Recording.{way_more}
use Rattle.ig_plain.proofs.Trails.{RecordsMore, follow, ends_found, ends_none}
use Rattle.ig_plain.proofs.Indexing.{indexed_same, indexed_next}
use Rattle.ig_plain.proofs.Onward.{known_more}
use Rattle.ig_plain.proofs.Arrivals.{once_left, parts_none, parts_here, parts_kept, same, taken_all, taken_was, stored_next}

-- one more of the later items is at the position
trail_here : (xs : List stored.Item) (ns : List ℕ) (h0 h : List stored.Item) (v0 v : WayLists) (r : List stored.Item) (q : List ℕ)
    (item : stored.Item) (prev : ℕ) → length ns ≡ length xs → PartsTrail xs ns h0 h v0 v r q →
    PartsTrail (xs ++ item ∷ []) (ns ++ prev ∷ []) h0 (h ++ item ∷ []) v0 (record v { firsts = v.firsts ++ Leaf prev ∷ [] }) r q
trail_here xs ns h0 h v0 v r q item prev even p =
    record {
      more = p.more ++ item ∷ [];
      numbers = p.numbers ++ prev ∷ [];
      here_is = ap (λ (z : List stored.Item). z ++ item ∷ []) p.here_is ∙ append_assoc h0 p.more (item ∷ []);
      firsts = ap (λ (z : List Way). z ++ Leaf prev ∷ []) p.firsts ∙ append_assoc v0.firsts (map Leaf p.numbers) (Leaf prev ∷ []) ∙
          ap (λ (z : List Way). v0.firsts ++ z) (sym (map-append Leaf p.numbers (prev ∷ [])));
      further = p.further;
      ends = p.ends;
      numbered = let a = length-append p.numbers (prev ∷ []) in let b = length-append p.more (item ∷ []) in let e = p.numbered in
          omega (arith, a, b, e);
      rest_numbered = p.rest_numbered;
      from = λ x n c.
          ⊎_elim (λ (k : Pairs p.more p.numbers x n). pairs_left xs (item ∷ []) ns (prev ∷ []) x n (p.from x n k))
          (λ (k : Pairs (item ∷ []) (prev ∷ []) x n). pairs_right xs (item ∷ []) ns (prev ∷ []) x n even k)
          (pairs_sides p.more (item ∷ []) p.numbers (prev ∷ []) x n p.numbered c);
      rest_from = λ x n c. pairs_left xs (item ∷ []) ns (prev ∷ []) x n (p.rest_from x n c);
      parted = λ x n c.
          ⊎_elim
          (λ (k : Pairs xs ns x n).
          ⊎_elim (λ (i : Pairs p.more p.numbers x n). inl (pairs_left p.more (item ∷ []) p.numbers (prev ∷ []) x n i))
          (λ (i : Pairs r q x n). inr i) (p.parted x n k))
          (λ (k : Pairs (item ∷ []) (prev ∷ []) x n). inl (pairs_right p.more (item ∷ []) p.numbers (prev ∷ []) x n p.numbered k))
          (pairs_sides xs (item ∷ []) ns (prev ∷ []) x n even c);
    }

-- one more of the later items stays
trail_kept : (xs : List stored.Item) (ns : List ℕ) (h0 h : List stored.Item) (v0 v : WayLists) (r : List stored.Item) (q : List ℕ)
    (item : stored.Item) (prev : ℕ) → length ns ≡ length xs → PartsTrail xs ns h0 h v0 v r q →
    PartsTrail (xs ++ item ∷ []) (ns ++ prev ∷ []) h0 h v0 v (r ++ item ∷ []) (q ++ prev ∷ [])
trail_kept xs ns h0 h v0 v r q item prev even p =
    record {
      more = p.more;
      numbers = p.numbers;
      here_is = p.here_is;
      firsts = p.firsts;
      further = p.further;
      ends = p.ends;
      numbered = p.numbered;
      rest_numbered = let a = length-append q (prev ∷ []) in let b = length-append r (item ∷ []) in let e = p.rest_numbered in omega (arith, a, b, e);
      from = λ x n c. pairs_left xs (item ∷ []) ns (prev ∷ []) x n (p.from x n c);
      rest_from = λ x n c.
          ⊎_elim (λ (k : Pairs r q x n). pairs_left xs (item ∷ []) ns (prev ∷ []) x n (p.rest_from x n k))
          (λ (k : Pairs (item ∷ []) (prev ∷ []) x n). pairs_right xs (item ∷ []) ns (prev ∷ []) x n even k)
          (pairs_sides r (item ∷ []) q (prev ∷ []) x n p.rest_numbered c);
      parted = λ x n c.
          ⊎_elim
          (λ (k : Pairs xs ns x n).
          ⊎_elim (λ (i : Pairs p.more p.numbers x n). inl i)
          (λ (i : Pairs r q x n). inr (pairs_left r (item ∷ []) q (prev ∷ []) x n i)) (p.parted x n k))
          (λ (k : Pairs (item ∷ []) (prev ∷ []) x n). inr (pairs_right r (item ∷ []) q (prev ∷ []) x n p.rest_numbered k))
          (pairs_sides xs (item ∷ []) ns (prev ∷ []) x n even c);
    }

-- the first i of the later items are parted where they stand: those that stay are the first `kept`
pub record IsPartedTo (position : ℕ) (later left : List stored.Item) (prevs numbers : List ℕ) (here after : List stored.Item) (v w : WayLists)
    (kept i : ℕ) : Type 0 where
  pub behind : kept ≤ i
  pub items_left : IsSameFrom later left i
  pub prevs_left : IsSameFrom prevs numbers i
  pub left_there : (x : stored.Item) → Contains left x → Contains later x
  pub items : IsParted position (take i later) here after (take kept left)
  pub trail : PartsTrail (take i later) (take i prevs) here after v w (take kept left) (take kept numbers)

-- nothing is parted yet
pub parted_none : (position : ℕ) (later : List stored.Item) (prevs : List ℕ) (here : List stored.Item) (v : WayLists) →
    IsPartedTo position later later prevs prevs here here v v 0 0
parted_none position later prevs here v =
    record {
      behind = omega arith;
      items_left = all_same later;
      prevs_left = all_same prevs;
      left_there = λ x c. c;
      items = parts_none position here;
      trail = record {
        more = [];
        numbers = [];
        here_is = sym (append-nil here);
        firsts = sym (append-nil v.firsts);
        further = refl;
        ends = refl;
        numbered = refl;
        rest_numbered = refl;
        from = λ x n c. c;
        rest_from = λ x n c. c;
        parted = λ x n c. inl c;
      };
    }

-- all are parted
pub parted_all : (position : ℕ) (later left : List stored.Item) (prevs numbers : List ℕ) (here after : List stored.Item) (v w : WayLists)
    (kept i : ℕ) → length prevs ≡ length later → length later ≤ i → IsPartedTo position later left prevs numbers here after v w kept i →
    IsParted position later here after (take kept left) × PartsTrail later prevs here after v w (take kept left) (take kept numbers)
parted_all position later left prevs numbers here after v w kept i even le p =
    let xs : take i later ≡ later = take_all i later le in
    let ns : take i prevs ≡ prevs = take_all i prevs (omega (arith, even, le)) in (
      subst (λ (z : List stored.Item). IsParted position z here after (take kept left)) xs p.items,
      subst (λ (z : List ℕ). PartsTrail later z here after v w (take kept left) (take kept numbers)) ns
          (subst (λ (z : List stored.Item). PartsTrail z (take i prevs) here after v w (take kept left) (take kept numbers)) xs p.trail),
    )

-- no other items are there than before
pub no_others : (position : ℕ) (later left : List stored.Item) (prevs numbers : List ℕ) (here after : List stored.Item) (v w : WayLists)
    (kept i : ℕ) → IsPartedTo position later left prevs numbers here after v w kept i → WereThere later here after left
no_others position later left prevs numbers here after v w kept i p =
    record {
      at = λ x c. ⊎_elim (λ h. inl h) (λ h. inr (among_all later i x h.0)) (p.items.here_now x c);
      behind = p.left_there;
    }

module _ (position : ℕ) (later left : List stored.Item) (prevs numbers : List ℕ) (here after : List stored.Item) (v w : WayLists) (kept i : ℕ)
    (item : stored.Item) (prev : ℕ) (even : length prevs ≡ length later) (at : slice_get left i ≡ Some item)
    (prev_at : slice_get numbers i ≡ Some prev) (p : IsPartedTo position later left prevs numbers here after v w kept i) where
  items_next : take (i + 1) later ≡ take i later ++ item ∷ []
  items_next = take_at later i item (sym (p.items_left.same i (omega arith)) ∙ at)

  prevs_next : take (i + 1) prevs ≡ take i prevs ++ prev ∷ []
  prevs_next = take_at prevs i prev (sym (p.prevs_left.same i (omega arith)) ∙ prev_at)

  same_length : length (take i prevs) ≡ length (take i later)
  same_length =
      let l = slice_get_within left i item at in
      let e = p.items_left.long in
      length-take-le i prevs (omega (arith, l, e, even)) ∙ sym (length-take-le i later (omega (arith, l, e)))

  trail_next : (h r : List stored.Item) (q : List ℕ) (u : WayLists) →
      PartsTrail (take i later ++ item ∷ []) (take i prevs ++ prev ∷ []) here h v u r q →
      PartsTrail (take (i + 1) later) (take (i + 1) prevs) here h v u r q
  trail_next h r q u t =
      subst (λ (z : List stored.Item). PartsTrail z (take (i + 1) prevs) here h v u r q) (sym items_next)
      (subst (λ (z : List ℕ). PartsTrail (take i later ++ item ∷ []) z here h v u r q) (sym prevs_next) t)

  -- nor behind a push of the item, if memory lasted
  pub no_others_pushed : (b : Bool) (next : List stored.Item) → next ≡ (if b then after ++ item ∷ [] else after) → WereThere later here next left
  no_others_pushed b next is = record { at = λ x c. each b is x c; behind = p.left_there }
    where
      before : WereThere later here after left
      before = no_others position later left prevs numbers here after v w kept i p

      each : (b : Bool) → next ≡ (if b then after ++ item ∷ [] else after) → (x : stored.Item) → Contains next x → Contains here x ⊎ Contains later x
      each true e x c =
          ⊎_elim (before.at x)
          (λ (h : Contains (item ∷ []) x).
          inr (p.left_there x (subst (Contains left) (sym (contains_one item x h)) (contains_from_at left i item at))))
          (Contains-append_cases after (item ∷ []) x (subst (λ (z : List stored.Item). Contains z x) e c))
      each false e x c = before.at x (subst (λ (z : List stored.Item). Contains z x) e c)

  -- the item is at the position
  pub parted_here : (more : List stored.Item) (u : WayLists) → item.position ≡ position → more ≡ after ++ item ∷ [] →
      u ≡ record w { firsts = w.firsts ++ Leaf prev ∷ [] } →
      IsPartedTo position later left prevs numbers here more v u kept (i + 1)
  parted_here more u there more_is u_is =
      subst (λ (z : List stored.Item). IsPartedTo position later left prevs numbers here z v u kept (i + 1)) (sym more_is)
      (subst (λ (z : WayLists). IsPartedTo position later left prevs numbers here (after ++ item ∷ []) v z kept (i + 1)) (sym u_is)
      record {
        behind = let l = p.behind in omega (arith, l);
        items_left = same_more later left i p.items_left;
        prevs_left = same_more prevs numbers i p.prevs_left;
        left_there = p.left_there;
        items = subst (λ (z : List stored.Item). IsParted position z here (after ++ item ∷ []) (take kept left)) (sym items_next)
            (parts_here position (take i later) here after (take kept left) item p.items there);
        trail = trail_next (after ++ item ∷ []) (take kept left) (take kept numbers) (record w { firsts = w.firsts ++ Leaf prev ∷ [] })
            (trail_here (take i later) (take i prevs) here after v w (take kept left) (take kept numbers) item prev same_length p.trail);
      })

  -- the item stays
  pub parted_kept : (item.position ≡ position → ⊥) →
      IsPartedTo position later (set left kept item) prevs (set numbers kept prev) here after v w (kept + 1) (i + 1)
  parted_kept away =
      let l = p.behind in
      let a = slice_get_within left i item at in
      let b = slice_get_within numbers i prev prev_at in
      let rest : take (kept + 1) (set left kept item) ≡ take kept left ++ item ∷ [] = take_more_set left kept item (omega (arith, l, a)) in
      let rest_prevs : take (kept + 1) (set numbers kept prev) ≡ take kept numbers ++ prev ∷ [] =
      take_more_set numbers kept prev (omega (arith, l, b)) in
      record {
        behind = omega (arith, l);
        items_left = same_set later left i kept item l p.items_left;
        prevs_left = same_set prevs numbers i kept prev l p.prevs_left;
        left_there = λ x c.
            ⊎_elim (p.left_there x) (λ (e : x ≡ item). p.left_there x (subst (Contains left) (sym e) (contains_from_at left i item at)))
            (set_among left kept item x c);
        items = subst (IsParted position (take (i + 1) later) here after) (sym rest)
            (subst (λ (z : List stored.Item). IsParted position z here after (take kept left ++ item ∷ [])) (sym items_next)
            (parts_kept position (take i later) here after (take kept left) item p.items away));
        trail = subst (λ (z : List ℕ). PartsTrail (take (i + 1) later) (take (i + 1) prevs) here after v w (take (kept + 1) (set left kept item)) z)
            (sym rest_prevs)
            (subst
            (λ (z : List stored.Item). PartsTrail (take (i + 1) later) (take (i + 1) prevs) here after v w z (take kept numbers ++ prev ∷ []))
            (sym rest)
            (trail_next after (take kept left ++ item ∷ []) (take kept numbers ++ prev ∷ []) w
            (trail_kept (take i later) (take i prevs) here after v w (take kept left) (take kept numbers) item prev same_length p.trail)));
      }

module _ (core : List Nonterminal) (text : Input) (budget p : ℕ) (a b : Found) (w : Waiting) (t u : Trail)
    (r : IsRun core text budget p (length a.here.items) a w) (m : ArrivesWith (p + 1) a b) (o : ArrivesOn a b t u)
    (h : HasTrail core text p (length a.here.items) a w t) (cleared : u.returned ≡ []) where
  abbrev known : List Item
  known = taken_in a (length a.here.items)

  abbrev means_same : (x : stored.Item) → means b x ≡ means a x
  means_same x = same core text budget p a b w r m x

  -- those that arrive stand behind those found
  abbrev found_next : found_in b ≡ found_in a ++ map (means a) o.more
  found_next =
      ap (λ (z : List stored.Item). map (means b) (z ++ b.here.items)) m.done ∙
      ap (λ (z : List stored.Item). map (means b) ((a.done.items ++ a.here.items) ++ z)) o.here_is ∙
      same_map (means b) (means a) ((a.done.items ++ a.here.items) ++ o.more) (λ x c. means_same x) ∙
      map-append (means a) (a.done.items ++ a.here.items) o.more

  abbrev grow : Extends (found_in a) (found_in b)
  grow = record { more = map (means a) o.more; is = found_next }

  abbrev firsts_grow : Extends t.ways.firsts u.ways.firsts
  firsts_grow = record { more = map Leaf o.numbers; is = o.firsts }

  recorded_was : (way : Way) (x : Item) → IsRecorded b u way x → IsRecorded a t way x
  recorded_was way x (trail.here k at (ways.found f)) =
      ⊎_elim
      (λ (i : slice_get t.ways.firsts k ≡ Some way).
      let l = slice_get_within t.ways.firsts k way i in let n = h.ways.numbered in
      trail.here k (front_at (found_in a) (found_in b) grow k x (omega (arith, l, n)) at) (ways.found i))
      (λ (i : (n : ℕ) × (k ≡ length t.ways.firsts + n) × (slice_get (map Leaf o.numbers) n ≡ Some way)).
      let v = unmapped_at Leaf o.numbers i.0 way i.2 in
      let n = h.ways.numbered in
      let e : k ≡ length (found_in a) + i.0 = omega (arith, i.1, n) in
      let y = unmapped_at (means a) o.more i.0 x (behind_at (found_in a) (found_in b) grow k i.0 x e at) in
      trail.later v.0
      (subst (λ (z : Item). Pairs (later_in a) t.later.items z v.0) y.2
      (pairs_mapped (means a) a.later.items t.later.items y.0 v.0 (o.from y.0 v.0 (i.0, y.1, v.1)))) (sym v.2))
      (sides t.ways.firsts (map Leaf o.numbers) k way (subst (λ (z : List Way). slice_get z k ≡ Some way) o.firsts f))
  recorded_was way x (trail.here k at (ways.again more c is e)) =
      let old = subst (λ (z : List FurtherWay). Contains z more) o.further c in
      let l = h.ways.there more old in
      trail.here k (front_at (found_in a) (found_in b) grow k x (omega (arith, l, is)) at) (ways.again more old is e)
  recorded_was way x (trail.later n pair e) =
      let y = pairs_unmapped (means b) b.later.items u.later.items x n pair in
      trail.later n
      (subst (λ (z : Item). Pairs (later_in a) t.later.items z n) (sym (means_same y.0) ∙ y.2)
      (pairs_mapped (means a) a.later.items t.later.items y.0 n (o.rest_from y.0 n y.1))) e

  recorded_stays : (way : Way) (x : Item) → IsRecorded a t way x → IsRecorded b u way x
  recorded_stays way x (trail.here k at to) = trail.here k (extends_at (found_in a) (found_in b) k x grow at)
      (way_more t.ways u.ways k way firsts_grow (extends_same t.ways.further u.ways.further o.further) to)
  recorded_stays way x (trail.later n pair e) =
      let y = pairs_unmapped (means a) a.later.items t.later.items x n pair in
      let is : means b y.0 ≡ x = means_same y.0 ∙ y.2 in
      ⊎_elim
      (λ (i : Pairs o.more o.numbers y.0 n).
      let k = length (found_in a) + i.0 in
      let at : slice_get (map (means a) o.more) i.0 ≡ Some x =
      mapped_at (means a) o.more i.0 y.0 i.1 ∙ ap Some y.2 in
      let f : slice_get (map Leaf o.numbers) i.0 ≡ Some way =
      mapped_at Leaf o.numbers i.0 n i.2 ∙ ap Some (sym e) in
      let e2 = h.ways.numbered in
      trail.here k
      (subst (λ (z : List Item). slice_get z k ≡ Some x) (sym found_next) (right_at (found_in a) (map (means a) o.more) k i.0 x refl at))
      (ways.found
      (subst (λ (z : List Way). slice_get z k ≡ Some way) (sym o.firsts)
      (right_at t.ways.firsts (map Leaf o.numbers) k i.0 way (omega (arith, e2)) f))))
      (λ (i : Pairs b.later.items u.later.items y.0 n).
      trail.later n
      (subst (λ (z : Item). Pairs (later_in b) u.later.items z n) is (pairs_mapped (means b) b.later.items u.later.items y.0 n i)) e)
      (o.parted y.0 n y.1)

  once : NoneTwice (found_in b)
  once = once_left (found_in b) (later_in b) (different (p + 1) b (stored_next core text budget p a b w r m))

  recorded : RecordsMore (λ way x. ⊥) a b t u
  recorded =
      record {
        numbered = ap length o.firsts ∙ length-append t.ways.firsts (map Leaf o.numbers) ∙ even ∙
            sym (ap length found_next ∙ length-append (found_in a) (map (means a) o.more));
        later_numbered = o.rest_numbered ∙ sym (length-map b.later.items (means b));
        there = λ more c.
            let l = h.ways.there more (subst (λ (z : List FurtherWay). Contains z more) o.further c) in let n = longer (found_in a) (found_in b) grow in
            omega (arith, l, n);
        keeps = recorded_stays;
        splits = λ way x c. inl (recorded_was way x c);
        has = λ way x c. absurd c;
        indexed = λ i.
            indexed_same (a.done.items ++ a.here.items) b.done.items o.more b.here.items (t.ways.firsts ++ map Leaf o.numbers) u.ways.firsts []
            u.returned m.done o.here_is o.firsts cleared
            (indexed_next a.done.items a.here.items o.more t.ways.firsts o.numbers t.returned o.numbered i);
      }
    where
      even : length t.ways.firsts + length (map Leaf o.numbers) ≡ length (found_in a) + length (map (means a) o.more)
      even =
          let n = h.ways.numbered in let k = length-map o.numbers Leaf in let l = length-map o.more (means a) in let e = o.numbered in
          omega (arith, n, k, l, e)

  -- the items that are taken stand before those that arrive
  below : (x : Item) → Contains known x → (d : ℕ) × (d < length (found_in a)) × (slice_get (found_in a) d ≡ Some x)
  below x c =
      let at = at_from_contains (found_in a) x (subst (λ (z : List Item). Contains z x) (taken_was core text budget p a b w r m) c) in
      (at.0, slice_get_within (found_in a) at.0 x at.1, at.1)

  -- no more is taken
  follows : FollowTrail core text b u known
  follows =
      let taken : Item → Type 0 = Contains known in
      let n = length (found_in a) in
      let grows = ends_found core known (found_in a) (found_in b) n grow once below in
      follow core text (λ way x. ⊥) a b t u known known n (λ key. ⊥) h.ways recorded grows
      (ends_none core taken taken (found_in a) (found_in b) n (λ key. ⊥) grows t.ways u.ways o.ends (λ key q. absurd q) h.ways.ends)
      (λ way x q. absurd q) (λ x prev what g. inl g)

  pub arrives_on : HasTrail core text (p + 1) 0 b w u
  arrives_on =
      record {
        ways = subst (FollowTrail core text b u) (taken_was core text budget p a b w r m ∙ sym (taken_all core text budget p a b w r m)) follows;
        callers = known_more core a b w.callers.items
            (record { more = b.here.items; is = ap (λ (z : List stored.Item). z ++ b.here.items) m.done }) (λ x n. means_same x) h.callers;
        ends = λ i callee called at known_called e.
            let l = r.waiting.before i called (p + 1) known_called e in absurd (omega (arith, l));
        indexed = recorded.indexed h.indexed;
      }
