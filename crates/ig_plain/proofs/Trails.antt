-- The ways of items as one more is known, and as more is recorded.
use Rattle.std.proofs.Common.{◌≡◌, ◌⊎◌, ⊎_elim, inl, inr, ℕ, ◌<◌, List, [], ◌∷◌, ◌++◌, Some, Option, length, Contains, refl, sym, ap, ◌∙◌, subst, arith, slice_get, length-append}
use Rattle.std.proofs.lemmas.Option.{slice_get_within}
use Rattle.std.proofs.lemmas.List.Elements.{Contains-append_left, Contains-append_right, Contains-append_cases}
use Rattle.ig_text.specs.Input.{Input}
use Rattle.ig_text.specs.declared.pattern.Pattern.{Pattern}
use Rattle.ig_text.proofs.Lists.{in_pushed, contains_from_at, it_is_in, contains_one, right_at}
use Rattle.ig_item.specs.Items.{Item, Calls, MatchesNone, past, span_of}
use Rattle.ig_item.specs.WellKinded.{NoneTwice}
use Rattle.ig_item.specs.Gives as given
use Rattle.ig_item.specs.Gives.{NodeKey, Taken, tree, Completes, Gives}
use Rattle.ig_item.specs.Ways as ways
use Rattle.ig_item.specs.Ways.{WayLists, WayTo, Says, IsWay, IsEnd, IsFirstEnd, IsFurtherEnd, AreEnds}
use Rattle.ig_item.specs.declared.core_grammar.Nonterminal.{Nonterminal}
use Rattle.ig_item.specs.declared.ways.Way.{Way}
use Rattle.ig_item.specs.declared.ways.Way.TheVariants.{Leaf}
use Rattle.ig_item.specs.declared.ways.FurtherWay.{FurtherWay}
use Rattle.ig_item.specs.declared.ways.FurtherEnd.{FurtherEnd}
use Rattle.ig_item.specs.Induction.{gives_more}
use Rattle.ig_plain.specs.declared.found.Found.{Found}
use Rattle.ig_plain.specs.declared.trail.Trail.{Trail}
use Rattle.ig_run_tables.specs.Extends.{Extends}
use Rattle.ig_plain.specs.Found.{found_in, later_in}
use Rattle.ig_plain.specs.Trail as trails
use Rattle.ig_plain.specs.Trail.{IsRecorded, IsIndexed, Records, RecordsLater, FollowTrail, Pairs, By}
use Rattle.ig_plain.proofs.Extending.{extends_same}
use Rattle.ig_plain.proofs.Growth.{extends_at, extends_cases, longer}
use Rattle.ig_plain.proofs.Pairing.{front_at, pairs_sides}
use Rattle.ig_plain.proofs.Recording.{way_more}

-- at most one more is known, of number n, which is an end of the nodes that `new` allows; and more was found
pub record EndsGrow (core : List Nonterminal) (known wider : Item → Type 0) (items more : List Item) (n : ℕ) (new : NodeKey → Type 0) : Type 0 where
  pub knows : (y : Item) → known y → wider y
  pub stays : (k : ℕ) (x : Item) → slice_get items k ≡ Some x → slice_get more k ≡ Some x
  pub splits : (key : NodeKey) (d : ℕ) → IsEnd core wider more key d → IsEnd core known items key d ⊎ ((d ≡ n) × new key)
  pub below : (key : NodeKey) (d : ℕ) → IsEnd core known items key d → d < n
  pub which : (x : Item) (key : NodeKey) → wider x → Completes core x key → known x ⊎ new key
  pub ends : (key : NodeKey) → new key → IsEnd core wider more key n

module _ (core : List Nonterminal) (known wider : Item → Type 0) (items more : List Item) (n : ℕ) (new : NodeKey → Type 0)
    (g : EndsGrow core known wider items more n new) where
  end_on : (key : NodeKey) (d : ℕ) → IsEnd core known items key d → IsEnd core wider more key d
  end_on key d e = record { item = e.item; there = g.stays d e.item e.there; is_known = g.knows e.item e.is_known; completes = e.completes }

  -- a first end stays the first
  pub first_on : (key : NodeKey) (d : ℕ) → IsFirstEnd core known items key d → IsFirstEnd core wider more key d
  first_on key d f =
      record {
        end = end_on key d f.end;
        least = λ c e.
            ⊎_elim (λ (h : IsEnd core known items key c). f.least c h)
            (λ (h : (c ≡ n) × new key). let l = g.below key d f.end in let q = h.0 in omega (arith, l, q)) (g.splits key c e);
      }

  first_back : (key : NodeKey) (d : ℕ) → IsFirstEnd core wider more key d → IsEnd core known items key d → IsFirstEnd core known items key d
  first_back key d f e = record { end = e; least = λ c h. f.least c (end_on key c h) }

  -- what a way says stays
  pub says_on : {position : ℕ} {way : Way} {prev : Item} {what : Taken} → Says core known items position way prev what →
      Says core wider more position way prev what
  says_on (ways.pass k prev at) = ways.pass k prev (g.stays k prev at)
  says_on (ways.leaf k prev taken at is) = ways.leaf k prev taken (g.stays k prev at) is
  says_on (ways.node k d prev key at f) = ways.node k d prev key (g.stays k prev at) (first_on key d f)

  further_on : (end : FurtherEnd) → IsFurtherEnd core known items end → IsFurtherEnd core wider more end
  further_on end f =
      record { key = f.key; first = first_on f.key end.first f.first; further = end_on f.key end.item f.further; other = f.other }

  -- the new item is the first end of a node that had none
  pub first_new : (key : NodeKey) → new key → ((d : ℕ) → IsEnd core known items key d → ⊥) → IsFirstEnd core wider more key n
  first_new key h fresh =
      record {
        end = g.ends key h;
        least = λ d e.
            ⊎_elim (λ (i : IsEnd core known items key d). absurd (fresh d i)) (λ (i : (d ≡ n) × new key). let q = i.0 in
            omega (arith, q)) (g.splits key d e);
      }

  -- the new item is the first end of its node, or no end
  pub ends_none : (v w : WayLists) → w.ends ≡ v.ends → ((key : NodeKey) → new key → (d : ℕ) → IsEnd core known items key d → ⊥) →
      AreEnds core known items v → AreEnds core wider more w
  ends_none v w same fresh old =
      record {
        first = λ x key c q.
            ⊎_elim (λ (h : known x). let f = old.first x key h q in
            (f.0, first_on key f.0 f.1)) (λ (h : new key). (n, first_new key h (fresh key h))) (g.which x key c q);
        exact = λ end. (
          λ c. further_on end ((old.exact end).0 (subst (λ (z : List FurtherEnd). Contains z end) same c)),
          λ f. subst (λ (z : List FurtherEnd). Contains z end) (sym same) ((old.exact end).1 (back end f)),
        );
      }
    where
      back : (end : FurtherEnd) → IsFurtherEnd core wider more end → IsFurtherEnd core known items end
      back end f =
          ⊎_elim
          (λ (h : IsEnd core known items f.key end.item).
          ⊎_elim
          (λ (i : IsEnd core known items f.key end.first).
          record { key = f.key; first = first_back f.key end.first f.first i; further = h; other = f.other })
          (λ (i : (end.first ≡ n) × new f.key). absurd (fresh f.key i.1 end.item h)) (g.splits f.key end.first f.first.end))
          (λ (h : (end.item ≡ n) × new f.key).
          ⊎_elim (λ (i : IsEnd core known items f.key end.first). absurd (fresh f.key h.1 end.first i))
          (λ (i : (end.first ≡ n) × new f.key). absurd (f.other (h.0 ∙ sym i.0))) (g.splits f.key end.first f.first.end))
          (g.splits f.key end.item f.further)

  -- the new item is a further end of its node
  pub ends_one : (v w : WayLists) (key : NodeKey) (d : ℕ) → new key → ((other : NodeKey) → new other → other ≡ key) →
      IsFirstEnd core known items key d →
      w.ends ≡ v.ends ++ record { first = d; item = n } ∷ [] → AreEnds core known items v → AreEnds core wider more w
  ends_one v w key d is one first_end added old =
      record {
        first = λ x other c q.
            ⊎_elim (λ (h : known x). let f = old.first x other h q in (f.0, first_on other f.0 f.1))
            (λ (h : new other). (d, subst (λ (z : NodeKey). IsFirstEnd core wider more z d) (sym (one other h)) now)) (g.which x other c q);
        exact = λ end. (
          λ c.
              ⊎_elim (λ (h : Contains v.ends end). further_on end ((old.exact end).0 h))
              (λ (h : Contains (record { first = d; item = n } ∷ []) end).
              subst (IsFurtherEnd core wider more) (sym (contains_one (record { first = d; item = n }) end h))
              (record { key = key; first = now; further = g.ends key is; other = λ e. let l = g.below key d first_end.end in omega (arith, l, e) }))
              (Contains-append_cases v.ends (record { first = d; item = n } ∷ []) end (subst (λ (z : List FurtherEnd). Contains z end) added c)),
          λ f. subst (λ (z : List FurtherEnd). Contains z end) (sym added) (back end f),
        );
      }
    where
      now : IsFirstEnd core wider more key d
      now = first_on key d first_end

      same_end : (a b : FurtherEnd) → a.first ≡ b.first → a.item ≡ b.item → a ≡ b
      same_end a b p q = λ i. record { first = p i; item = q i }

      back : (end : FurtherEnd) → IsFurtherEnd core wider more end → Contains (v.ends ++ record { first = d; item = n } ∷ []) end
      back end f =
          ⊎_elim
          (λ (h : IsEnd core known items f.key end.item).
          ⊎_elim
          (λ (i : IsEnd core known items f.key end.first).
          Contains-append_left v.ends (record { first = d; item = n } ∷ []) end
          ((old.exact end).1 (record { key = f.key; first = first_back f.key end.first f.first i; further = h; other = f.other })))
          (λ (i : (end.first ≡ n) × new f.key).
          let l = g.below f.key end.item h in let m = f.first.least end.item (end_on f.key end.item h) in let q = i.0 in
          absurd (omega (arith, l, m, q)))
          (g.splits f.key end.first f.first.end))
          (λ (h : (end.item ≡ n) × new f.key).
          let e = one f.key h.1 in
          let low = (subst (λ (z : NodeKey). IsFirstEnd core wider more z end.first) e f.first).least d now.end in
          let high = now.least end.first (subst (λ (z : NodeKey). IsEnd core wider more z end.first) e f.first.end) in
          let firsts : end.first ≡ d = omega (arith, low, high) in
          Contains-append_right v.ends (record { first = d; item = n } ∷ []) end
          (subst (Contains (record { first = d; item = n } ∷ [])) (sym (same_end end (record { first = d; item = n }) firsts h.0))
          (it_is_in (record { first = d; item = n }))))
          (g.splits f.key end.item f.further)

module _ (core : List Nonterminal) (text : Input) where
  -- an item that could come about in a way still can
  pub way_on : (known wider : Item → Type 0) (items more : List Item) (n : ℕ) (new : NodeKey → Type 0) → EndsGrow core known wider items more n new →
      (x : Item) (way : Way) → IsWay core text known items x way → IsWay core text wider more x way
  way_on known wider items more n new g x way (ways.begin e) = ways.begin e
  way_on known wider items more n new g x way (ways.comes w prev what says gives) =
      ways.comes w prev what (says_on core known wider items more n new g says) (gives_more core text g.knows gives)

  -- x comes from a taken item by a call of an instance of which `it` is a complete item
  pub record IsGivenBack (taken : List Item) (it prev : Item) (what : Taken) (x : Item) : Type 0 where
    pub caller : Contains taken prev
    pub key : NodeKey
    pub label : Option (List ℕ)
    pub excluded : List Pattern
    pub completes : Completes core it key
    pub takes : what ≡ tree key
    pub calls : Calls core text prev key.instance label excluded
    pub free : MatchesNone text excluded prev.position key.end
    pub is : x ≡ past prev (span_of label prev.position key.end) key.end

  -- what is given now was given before, or comes from the item that is taken now, or by it as a complete one
  pub gives_splits : (taken : List Item) (it prev : Item) (what : Taken) (x : Item) → Gives core text (Contains (taken ++ it ∷ [])) prev what x →
      Gives core text (Contains taken) prev what x ⊎ ((prev ≡ it) ⊎ IsGivenBack taken it prev what x)
  gives_splits taken it p w y (given.test prev names e x k before holds f) =
      ⊎_elim (λ (h : Contains taken prev). inl (given.test prev names e x h before holds f)) (λ (h : prev ≡ it). inr (inl h)) (in_pushed taken it prev k)
  gives_splits taken it p w y (given.bind prev names name e v x k before has f) =
      ⊎_elim (λ (h : Contains taken prev). inl (given.bind prev names name e v x h before has f)) (λ (h : prev ≡ it). inr (inl h))
      (in_pushed taken it prev k)
  gives_splits taken it p w y (given.terminal prev names what label excluded j t x k before matches free e f) =
      ⊎_elim (λ (h : Contains taken prev). inl (given.terminal prev names what label excluded j t x h before matches free e f))
      (λ (h : prev ≡ it). inr (inl h)) (in_pushed taken it prev k)
  gives_splits taken it p w y (given.return prev done label excluded key x k l calls completes free f) =
      ⊎_elim
      (λ (h : Contains taken prev).
      ⊎_elim (λ (i : Contains taken done). inl (given.return prev done label excluded key x h i calls completes free f))
      (λ (i : done ≡ it).
      inr (inr (record {
        caller = h;
        key = key;
        label = label;
        excluded = excluded;
        completes = subst (λ (z : Item). Completes core z key) i completes;
        takes = refl;
        calls = calls;
        free = free;
        is = f;
      })))
      (in_pushed taken it done l))
      (λ (h : prev ≡ it). inr (inl h)) (in_pushed taken it prev k)

-- the ends of taken items, as one more is taken
module _ (core : List Nonterminal) (taken items more : List Item) (n : ℕ) (ext : Extends items more) (once : NoneTwice more)
    (below : (y : Item) → Contains taken y → (d : ℕ) × (d < n) × (slice_get items d ≡ Some y)) where
  placed : (y : Item) (d : ℕ) → Contains taken y → slice_get more d ≡ Some y → (d < n) × (slice_get items d ≡ Some y)
  placed y d c at =
      let b = below y c in
      let e : b.0 ≡ d = once b.0 d y (extends_at items more b.0 y ext b.2) at in
      (let l = b.1 in omega (arith, l, e), subst (λ (z : ℕ). slice_get items z ≡ Some y) e b.2)

  end_back : (key : NodeKey) (d : ℕ) (wider : Item → Type 0) (e : IsEnd core wider more key d) → Contains taken e.item →
      IsEnd core (Contains taken) items key d
  end_back key d wider e c = record { item = e.item; there = (placed e.item d c e.there).1; is_known = c; completes = e.completes }

  end_below : (key : NodeKey) (d : ℕ) → IsEnd core (Contains taken) items key d → d < n
  end_below key d e = (placed e.item d e.is_known (extends_at items more d e.item ext e.there)).0

  -- no more is taken, and more is found
  pub ends_found : EndsGrow core (Contains taken) (Contains taken) items more n (λ key. ⊥)
  ends_found =
      record {
        knows = λ y c. c;
        stays = λ k x at. extends_at items more k x ext at;
        splits = λ key d e. inl (end_back key d (Contains taken) e e.is_known);
        below = end_below;
        which = λ x key c q. inl c;
        ends = λ key q. absurd q;
      }

  module _ (it : Item) (at : slice_get items n ≡ Some it) where
    -- it isn't taken yet
    pub not_yet : Contains taken it → ⊥
    not_yet c =
        let b = below it c in
        let e = once b.0 n it (extends_at items more b.0 it ext b.2) (extends_at items more n it ext at) in let l = b.1 in omega (arith, l, e)

    -- one more is taken
    pub ends_taken : EndsGrow core (Contains taken) (Contains (taken ++ it ∷ [])) items more n (λ key. Completes core it key)
    ends_taken =
        record {
          knows = λ y c. Contains-append_left taken (it ∷ []) y c;
          stays = λ k x e. extends_at items more k x ext e;
          splits = λ key d e.
              ⊎_elim (λ (h : Contains taken e.item). inl (end_back key d (Contains (taken ++ it ∷ [])) e h))
              (λ (h : Contains (it ∷ []) e.item).
              let same = contains_one it e.item h in
              inr (
                once d n it (e.there ∙ ap Some same) (extends_at items more n it ext at),
                subst (λ (z : Item). Completes core z key) same e.completes,
              ))
              (Contains-append_cases taken (it ∷ []) e.item e.is_known);
          below = end_below;
          which = λ x key c q.
              ⊎_elim (λ (h : Contains taken x). inl h)
              (λ (h : Contains (it ∷ []) x). inr (subst (λ (z : Item). Completes core z key) (contains_one it x h) q)) (Contains-append_cases taken (it ∷ []) x c);
          ends = λ key q.
              record {
                item = it;
                there = extends_at items more n it ext at;
                is_known = Contains-append_right taken (it ∷ []) it (it_is_in it);
                completes = q;
              };
        }

-- what was recorded stays, and all that `may` allows, and nothing else, was added
pub record RecordsMore (may : Way → Item → Type 0) (s t : Found) (trail u : Trail) : Type 0 where
  pub numbered : length u.ways.firsts ≡ length (found_in t)
  pub later_numbered : length u.later.items ≡ length (later_in t)
  pub there : (more : FurtherWay) → Contains u.ways.further more → more.item < length (found_in t)
  pub keeps : (way : Way) (x : Item) → IsRecorded s trail way x → IsRecorded t u way x
  pub splits : (way : Way) (x : Item) → IsRecorded t u way x → IsRecorded s trail way x ⊎ may way x
  pub has : (way : Way) (x : Item) → may way x → IsRecorded t u way x
  pub indexed : IsIndexed s trail → IsIndexed t u

-- more is taken: what follows is recorded, if what was added is sound and complete
pub follow : (core : List Nonterminal) (text : Input) (may : Way → Item → Type 0) (s t : Found) (trail u : Trail) (taken now : List Item) (n : ℕ)
    (new : NodeKey → Type 0) → FollowTrail core text s trail taken → RecordsMore may s t trail u →
    EndsGrow core (Contains taken) (Contains now) (found_in s) (found_in t) n new → AreEnds core (Contains now) (found_in t) u.ways →
    ((way : Way) (x : Item) → may way x → IsWay core text (Contains now) (found_in t) x way) →
    ((x prev : Item) (what : Taken) → Gives core text (Contains now) prev what x →
    Gives core text (Contains taken) prev what x ⊎ ((way : Way) × may way x × Says core (Contains now) (found_in t) x.position way prev what)) →
    FollowTrail core text t u now
follow core text may s t trail u taken now n new old r g ends sound complete =
    record {
      numbered = r.numbered;
      later_numbered = r.later_numbered;
      there = r.there;
      sound = λ way x q.
          ⊎_elim
          (λ (h : IsRecorded s trail way x). way_on core text (Contains taken) (Contains now) (found_in s) (found_in t) n new g x way
          (old.sound way x h))
          (λ (h : may way x). sound way x h) (r.splits way x q);
      complete = λ x prev what q.
          ⊎_elim
          (λ (h : Gives core text (Contains taken) prev what x).
          let c = old.complete x prev what h in
          record {
            way = c.way;
            recorded = r.keeps c.way x c.recorded;
            says = says_on core (Contains taken) (Contains now) (found_in s) (found_in t) n new g c.says;
          })
          (λ (h : (way : Way) × may way x × Says core (Contains now) (found_in t) x.position way prev what).
          record { way = h.0; recorded = r.has h.0 x h.1; says = h.2 })
          (complete x prev what q);
      ends = ends;
    }

-- only items that are numbered have ways
way_within : (v : WayLists) (n k : ℕ) (way : Way) → length v.firsts ≡ n → ((more : FurtherWay) → Contains v.further more → more.item < n) →
    WayTo v k way → k < n
way_within v n k way numbered there (ways.found at) = let l = slice_get_within v.firsts k way at in omega (arith, l, numbered)
way_within v n k way numbered there (ways.again more c e is) = let l = there more c in omega (arith, l, e)

-- pairs stay as both lists grow
pairs_kept : {X Y : Type 0} (xs xs2 : List X) (ns ns2 : List Y) (x : X) (n : Y) → Extends xs xs2 → Extends ns ns2 → Pairs xs ns x n →
    Pairs xs2 ns2 x n
pairs_kept xs xs2 ns ns2 x n e f p = (p.0, extends_at xs xs2 p.0 x e p.1, extends_at ns ns2 p.0 n f p.2)

-- what is recorded stays as the lists grow
recorded_kept : (s t : Found) (trail u : Trail) (way : Way) (x : Item) → Extends (found_in s) (found_in t) → Extends (later_in s) (later_in t) →
    Extends trail.ways.firsts u.ways.firsts → Extends trail.ways.further u.ways.further → Extends trail.later.items u.later.items →
    IsRecorded s trail way x → IsRecorded t u way x
recorded_kept s t trail u way x found behind firsts further later (trails.here k at to) =
    trails.here k (extends_at (found_in s) (found_in t) k x found at) (way_more trail.ways u.ways k way firsts further to)
recorded_kept s t trail u way x found behind firsts further later (trails.later n pair is) =
    trails.later n (pairs_kept (later_in s) (later_in t) trail.later.items u.later.items x n behind later pair) is

module _ (core : List Nonterminal) (text : Input) (s t : Found) (trail u : Trail) (taken : List Item)
    (old : FollowTrail core text s trail taken) where
  -- items at the position, and further ways to them
  pub more_here : (may : Way → Item → Type 0) → Records may s t trail u → RecordsMore may s t trail u
  more_here may r =
      record {
        numbered = r.numbered old.numbered;
        later_numbered = ap length r.later ∙ old.later_numbered ∙ ap length (sym r.behind);
        there = λ more c.
            ⊎_elim (λ (h : Contains trail.ways.further more). let l = old.there more h in let e = longer (found_in s) (found_in t) r.found in
            omega (arith, l, e))
            (λ (h : Contains r.further.more more). r.there more h) (extends_cases trail.ways.further u.ways.further more r.further c);
        keeps = λ way x q.
            recorded_kept s t trail u way x r.found (extends_same (later_in s) (later_in t) r.behind) r.firsts r.further
            (extends_same trail.later.items u.later.items r.later) q;
        splits = splits;
        has = r.has old.numbered;
        indexed = r.indexed;
      }
    where
      splits : (way : Way) (x : Item) → IsRecorded t u way x → IsRecorded s trail way x ⊎ may way x
      splits way x (trails.here k at to) =
          ⊎_elim
          (λ (h : WayTo trail.ways k way).
          inl (trails.here k
          (front_at (found_in s) (found_in t) r.found k x (way_within trail.ways (length (found_in s)) k way old.numbered old.there h) at) h))
          (λ (h : may way x). inr h) (r.each old.numbered k way x at to)
      splits way x (trails.later n pair is) =
          inl (trails.later n
          (pairs_kept (later_in t) (later_in s) u.later.items trail.later.items x n (extends_same (later_in t) (later_in s) (sym r.behind))
          (extends_same u.later.items trail.later.items (sym r.later)) pair) is)

  -- an item at a later position
  pub more_later : (n : ℕ) (y : Item) → RecordsLater n y s t trail u → RecordsMore (By (Leaf n) (λ x. x ≡ y)) s t trail u
  more_later n y r =
      record {
        numbered = ap (λ (z : WayLists). length z.firsts) r.ways ∙ old.numbered ∙ ap length (sym r.found);
        later_numbered =
            let a = ap length r.later in let b = ap length r.behind in let c = length-append trail.later.items (n ∷ []) in
            let d = length-append (later_in s) (y ∷ []) in let e = old.later_numbered in omega (arith, a, b, c, d, e);
        there = λ more c.
            let l = old.there more (subst (λ (z : WayLists). Contains z.further more) r.ways c) in let e = ap length r.found in omega (arith, l, e);
        keeps = λ way x q.
            recorded_kept s t trail u way x (extends_same (found_in s) (found_in t) r.found) (record { more = y ∷ []; is = r.behind })
            (extends_same trail.ways.firsts u.ways.firsts (ap (λ (z : WayLists). z.firsts) r.ways))
            (extends_same trail.ways.further u.ways.further (ap (λ (z : WayLists). z.further) r.ways)) (record { more = n ∷ []; is = r.later }) q;
        splits = splits;
        has = λ way x m.
            trails.later n (
              length (later_in s),
              subst (λ (z : List Item). slice_get z (length (later_in s)) ≡ Some x) (sym r.behind)
                  (right_at (later_in s) (y ∷ []) (length (later_in s)) 0 x (omega arith) (ap Some (sym m.1))),
              subst (λ (z : List ℕ). slice_get z (length (later_in s)) ≡ Some n) (sym r.later)
                  (right_at trail.later.items (n ∷ []) (length (later_in s)) 0 n (let e = old.later_numbered in omega (arith, e)) refl),
            ) m.0;
        indexed = r.indexed;
      }
    where
      splits : (way : Way) (x : Item) → IsRecorded t u way x → IsRecorded s trail way x ⊎ By (Leaf n) (λ z. z ≡ y) way x
      splits way x (trails.here k at to) =
          inl (trails.here k (subst (λ (z : List Item). slice_get z k ≡ Some x) r.found at) (subst (λ (z : WayLists). WayTo z k way) r.ways to))
      splits way x (trails.later m pair is) =
          ⊎_elim (λ (h : Pairs (later_in s) trail.later.items x m). inl (trails.later m h is))
          (λ (h : Pairs (y ∷ []) (n ∷ []) x m).
          inr (is ∙ ap Leaf (contains_one n m (contains_from_at (n ∷ []) h.0 m h.2)), contains_one y x (contains_from_at (y ∷ []) h.0 x h.1)))
          (pairs_sides (later_in s) (y ∷ []) trail.later.items (n ∷ []) x m old.later_numbered
          (subst (λ (z : List Item). Pairs z (trail.later.items ++ n ∷ []) x m) r.behind
          (subst (λ (z : List ℕ). Pairs (later_in t) z x m) r.later pair)))

  -- nothing but an end, in tables that may have grown
  pub more_none : found_in t ≡ found_in s → later_in t ≡ later_in s → u.ways.firsts ≡ trail.ways.firsts → u.ways.further ≡ trail.ways.further →
      u.later.items ≡ trail.later.items → (IsIndexed s trail → IsIndexed t u) → RecordsMore (λ way x. ⊥) s t trail u
  more_none found behind firsts further later indexed =
      record {
        numbered = ap length firsts ∙ old.numbered ∙ ap length (sym found);
        later_numbered = ap length later ∙ old.later_numbered ∙ ap length (sym behind);
        there = λ more c.
            let l = old.there more (subst (λ (z : List FurtherWay). Contains z more) further c) in let e = ap length found in omega (arith, l, e);
        keeps = λ way x q.
            recorded_kept s t trail u way x (extends_same (found_in s) (found_in t) found) (extends_same (later_in s) (later_in t) behind)
            (extends_same trail.ways.firsts u.ways.firsts firsts) (extends_same trail.ways.further u.ways.further further)
            (extends_same trail.later.items u.later.items later) q;
        splits = λ way x q.
            inl (recorded_kept t s u trail way x (extends_same (found_in t) (found_in s) (sym found))
            (extends_same (later_in t) (later_in s) (sym behind))
            (extends_same u.ways.firsts trail.ways.firsts (sym firsts)) (extends_same u.ways.further trail.ways.further (sym further))
            (extends_same u.later.items trail.later.items (sym later)) q);
        has = λ way x q. absurd q;
        indexed = indexed;
      }
