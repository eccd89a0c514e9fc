-- Marks that are set by a work list along the ways of a recording.
use Rattle.std.proofs.Common.{◌≡◌, ◌↔◌, ◌⊎◌, inl, inr, ℕ, zero, suc, ◌+◌, ◌<◌, ◌≤◌, List, [], ◌∷◌, ◌++◌, Bool, true, false, Some, None, length, take, set, get_or, slice_get, Contains, replicate, refl, sym, ap, ◌∙◌, subst, arith, length-set, length-append}
use Rattle.std.specs.List.{filter}
use Rattle.std.proofs.lemmas.Bool.{cases_eq}
use Rattle.std.proofs.lemmas.List.{take_all, take_more, length-replicate}
use Rattle.std.proofs.lemmas.List.Elements.{Contains-append_left, Contains-push, Contains-push_cases}
use Rattle.std.proofs.lemmas.Option.{same_Some, slice_get_within}
use Rattle.ig_text.proofs.Orders.{below_or_at}
use Rattle.ig_text.proofs.Filtered.{one_kept}
use Rattle.ig_text.proofs.Lists.{left_at, none_in_nil, contains_from_at, at_from_contains, get_within, unmapped_at, mapped_at, past_end}
use Rattle.ig_item.specs.Ways as ways
use Rattle.ig_item.specs.Ways.{WayLists, WayTo}
use Rattle.ig_item.specs.declared.ways.Way.{Way}
use Rattle.ig_item.specs.declared.ways.Way.TheVariants.{Pass, Leaf, Node}
use Rattle.ig_item.specs.declared.ways.FurtherWay.{FurtherWay}
use Rattle.ig_item.specs.declared.ways.FurtherEnd.{FurtherEnd}
use Rattle.ig_forest_live.specs.Marks.{is_live}
use Rattle.ig_forest_live.specs.Marks.{IsMarked}
use Rattle.ig_forest_live.specs.CodeWayMarks.{HasPrev, OfNode, first, further, Leads, previous, child, LeadsFrom, AreWhole, AreFound, MarksMore, ThatItem}
use Rattle.ig_forest_live.specs.declared.mark.Mark.{Mark}
use Rattle.ig_forest_live.specs.declared.mark.Mark.TheVariants.{Dead, Open, Complete}
use Rattle.ig_forest_live.specs.declared.marks.Walk.{Walk}
use Rattle.ig_forest_live.proofs.CodeGroups.{kept_few, place_set, place_elsewhere}

-- where a member that fails a test becomes one that passes it, one more passes
one_more : {X : Type 0} (p : X → Bool) (xs : List X) (k : ℕ) (old new : X) → slice_get xs k ≡ Some old → p old ≡ false →
    p new ≡ true → length (filter p (set xs k new)) ≡ suc (length (filter p xs))
one_more p [] k old new at fails passes = cc
one_more p (x ∷ xs) zero old new at fails passes =
    let f : p x ≡ false = ap p (same_Some x old at) ∙ fails in
    rw (passes, f) refl
one_more p (x ∷ xs) (suc k) old new at fails passes =
    let rest = one_more p xs k old new at fails passes in
    let a = one_kept (p x) x (filter p (set xs k new)) in
    let b = one_kept (p x) x (filter p xs) in
    omega (arith, rest, a, b)

-- what marks are there
pub marked_by : (marks : List Mark) (k : ℕ) (mark : Mark) → slice_get marks k ≡ Some mark → is_live mark ≡ true → IsMarked marks k
marked_by marks k mark at live = mapped_at is_live marks k mark at ∙ ap Some live

pub mark_of : (marks : List Mark) (k : ℕ) → IsMarked marks k → (mark : Mark) × (slice_get marks k ≡ Some mark) × (is_live mark ≡ true)
mark_of marks k marked = unmapped_at is_live marks k true marked

pub marked_within : (marks : List Mark) (k : ℕ) → IsMarked marks k → k < length marks
marked_within marks k marked = let m = mark_of marks k marked in slice_get_within marks k m.0 m.1

never_marked : (n k : ℕ) → IsMarked (replicate n Dead) k → ⊥
never_marked zero k e = cc
never_marked (suc n) zero e = cc
never_marked (suc n) (suc k) e = never_marked n k e

none_kept : (n : ℕ) → length (filter is_live (replicate n Dead)) ≡ 0
none_kept zero = refl
none_kept (suc n) = none_kept n

pub none_marked : (w : Walk) (count : ℕ) → w.marks.items ≡ replicate count Dead → w.found.items ≡ [] → AreFound w count
none_marked w count marks found = record {
  long = ap length marks ∙ length-replicate count Dead;
  same = λ k. (
    λ c. absurd (none_in_nil k (subst (λ (z : List ℕ). Contains z k) found c)),
    λ e. absurd (never_marked count k (subst (λ (z : List Mark). IsMarked z k) marks e)),
  );
  counted = ap length found ∙ sym (ap (λ (z : List Mark). length (filter is_live z)) marks ∙ none_kept count);
}

-- one mark more
module _ (marks : List Mark) (number : ℕ) (mark : Mark) (lt : number < length marks) (live : is_live mark ≡ true) where
  set_here : IsMarked (set marks number mark) number
  set_here = marked_by (set marks number mark) number mark (place_set marks number mark lt) live

  set_keeps : (k : ℕ) → IsMarked marks k → (k ≡ number) ⊎ ((k ≡ number) → ⊥) → IsMarked (set marks number mark) k
  set_keeps k marked (inl same) = subst (IsMarked (set marks number mark)) (sym same) set_here
  set_keeps k marked (inr other) =
      let m = mark_of marks k marked in
      marked_by (set marks number mark) k m.0 (place_elsewhere marks number k mark other ∙ m.1) m.2

  set_from : (k : ℕ) (m : Mark) → slice_get (set marks number mark) k ≡ Some m → (k ≡ number) ⊎ ((k ≡ number) → ⊥) →
      (slice_get marks k ≡ Some m) ⊎ ((k ≡ number) × (m ≡ mark))
  set_from k m at (inl same) =
      inr (same, same_Some m mark (sym at ∙ ap (slice_get (set marks number mark)) same ∙ place_set marks number mark lt))
  set_from k m at (inr other) = inl (sym (place_elsewhere marks number k mark other) ∙ at)

-- an item that is marked now
pub marked_now : (a b : Walk) (number : ℕ) (mark old : Mark) → AreFound a (length a.marks.items) → number < length a.marks.items →
    slice_get a.marks.items number ≡ Some old → is_live old ≡ false → is_live mark ≡ true → b.marks.items ≡ set a.marks.items number mark →
    b.found.items ≡ a.found.items ++ number ∷ [] → MarksMore a b (ThatItem number mark)
marked_now a b number mark old are lt at dead live marks found = record {
  found = record {
    long = ap length marks ∙ length-set a.marks.items number mark;
    same = λ k. (to k, back k);
    counted =
        let l = ap length found ∙ length-append a.found.items (number ∷ []) in
        let c = are.counted in
        let h : length (filter is_live b.marks.items) ≡ suc (length (filter is_live a.marks.items)) =
        ap (λ (z : List Mark). length (filter is_live z)) marks ∙ one_more is_live a.marks.items number old mark at dead live in
        omega (arith, l, c, h);
  };
  new =
      λ k m here is.
      set_from a.marks.items number mark lt live k m (subst (λ (z : List Mark). slice_get z k ≡ Some m) marks here) (cases_eq k number);
  all =
      λ k m h.
      subst (λ (z : List Mark). IsMarked z k) (sym marks)
      (subst (IsMarked (set a.marks.items number mark)) (sym h.0) (set_here a.marks.items number mark lt live));
  begins = λ i v e. ap (λ (z : List ℕ). slice_get z i) found ∙ left_at a.found.items (number ∷ []) i v e;
}
  where
    to : (k : ℕ) → Contains b.found.items k → IsMarked b.marks.items k
    to k c =
        subst (λ (z : List Mark). IsMarked z k) (sym marks)
        (elim (Contains-push_cases a.found.items number k (subst (λ (z : List ℕ). Contains z k) found c)) [
          | inl before ↦ set_keeps a.marks.items number mark lt live k ((are.same k).0 before) (cases_eq k number)
          | inr new ↦ subst (IsMarked (set a.marks.items number mark)) new (set_here a.marks.items number mark lt live)
        ])

    back : (k : ℕ) → IsMarked b.marks.items k → Contains b.found.items k
    back k marked =
        let m = mark_of b.marks.items k marked in
        subst (λ (z : List ℕ). Contains z k) (sym found)
        (elim (set_from a.marks.items number mark lt live k m.0
        (subst (λ (z : List Mark). slice_get z k ≡ Some m.0) marks m.1) (cases_eq k number)) [
          | inl before ↦
              Contains-append_left a.found.items (number ∷ []) k ((are.same k).1 (marked_by a.marks.items k m.0 before m.2))
          | inr now ↦ subst (Contains (a.found.items ++ number ∷ [])) (sym now.0) (Contains-push a.found.items number)
        ])

-- what was marked still is
pub still_marked : (a b : Walk) (P : ℕ → Mark → Type 0) (count : ℕ) → AreFound a count → MarksMore a b P → (k : ℕ) →
    IsMarked a.marks.items k → IsMarked b.marks.items k
still_marked a b P count are more k marked =
    let at = at_from_contains a.found.items k ((are.same k).1 marked) in
    (more.found.same k).0 (contains_from_at b.found.items at.0 k (more.begins at.0 k at.1))

pub marks_then : (a b c : Walk) (P Q R : ℕ → Mark → Type 0) → MarksMore a b P → MarksMore b c Q →
    ((k : ℕ) (m : Mark) → R k m ↔ (P k m ⊎ Q k m)) → MarksMore a c R
marks_then a b c P Q R ab bc same = record {
  found = subst (AreFound c) ab.found.long bc.found;
  new =
      λ k m at live. elim (bc.new k m at live) [
        | inl at_b ↦ elim (ab.new k m at_b live) [ inl at_a ↦ inl at_a | inr p ↦ inr ((same k m).1 (inl p)) ]
        | inr q ↦ inr ((same k m).1 (inr q))
      ];
  all =
      λ k m r. elim ((same k m).0 r) [
        | inl p ↦ still_marked b c Q (length a.marks.items) ab.found bc k (ab.all k m p)
        | inr q ↦ bc.all k m q
      ];
  begins = λ i v e. bc.begins i v (ab.begins i v e);
}

pub marks_same : (a b : Walk) (P Q : ℕ → Mark → Type 0) → MarksMore a b P → ((k : ℕ) (m : Mark) → P k m ↔ Q k m) → MarksMore a b Q
marks_same a b P Q ab same = record {
  found = ab.found;
  new = λ k m at live. elim (ab.new k m at live) [ inl before ↦ inl before | inr p ↦ inr ((same k m).0 p) ];
  all = λ k m q. ab.all k m ((same k m).1 q);
  begins = ab.begins;
}

pub marks_kept : (a b : Walk) (P : ℕ → Mark → Type 0) (count : ℕ) → AreFound a count → MarksMore a b P → AreFound b count
marks_kept a b P count are more = subst (AreFound b) are.long more.found

module _ (lists : WayLists) where
  -- the item is the first complete one of no node with further ones
  abbrev pub IsNoFirst : ℕ → Type 0
  IsNoFirst number = (end : FurtherEnd) → Contains lists.ends end → end.first ≡ number → ⊥

  -- a previous item is marked, and nodes are whole
  pub whole_with : (a b : Walk) (number count : ℕ) (mark : Mark) → AreFound a count → AreWhole lists a.marks.items →
      MarksMore a b (ThatItem number mark) → IsNoFirst number → AreWhole lists b.marks.items
  whole_with a b number count mark are whole more not_first end c marked =
      let m = mark_of b.marks.items end.first marked in
      elim (more.new end.first m.0 m.1 m.2) [
        | inl before ↦
            still_marked a b (ThatItem number mark) count are more end.item
            (whole end c (marked_by a.marks.items end.first m.0 before m.2))
        | inr now ↦ absurd (not_first end c now.0)
      ]

  -- a node is marked, and nodes are whole
  pub whole_with_node : (a b : Walk) (count done : ℕ) → AreFound a count → AreWhole lists a.marks.items →
      MarksMore a b (OfNode lists done) →
      ((one two : FurtherEnd) → Contains lists.ends one → Contains lists.ends two → one.first ≡ two.item → ⊥) →
      AreWhole lists b.marks.items
  whole_with_node a b count done are whole more apart end c marked =
      let m = mark_of b.marks.items end.first marked in
      elim (more.new end.first m.0 m.1 m.2) [
        | inl before ↦
            still_marked a b (OfNode lists done) count are more end.item
            (whole end c (marked_by a.marks.items end.first m.0 before m.2))
        | inr now ↦ by_node end c m.0 now
      ]
    where
      by_node : (end : FurtherEnd) → Contains lists.ends end → (m : Mark) → OfNode lists done end.first m → IsMarked b.marks.items end.item
      by_node end c m (first is complete) = more.all end.item Complete (further end c is refl refl)
      by_node end c m (further other among of is complete) = absurd (apart end other c among is)

  -- of a node the first complete item, and some further ones
  pub data NodePart (done : ℕ) (run : List FurtherEnd) (k : ℕ) (m : Mark) : Type 0 where
    start : k ≡ done → m ≡ Complete → NodePart done run k m
    part : (end : FurtherEnd) → Contains run end → k ≡ end.item → m ≡ Complete → NodePart done run k m

  pub part_next : (a b c : Walk) (done i number : ℕ) (run : List FurtherEnd) (d : FurtherEnd) → i < length run →
      MarksMore a b (NodePart done (take i run)) → number ≡ (get_or run i d).item →
      MarksMore b c (ThatItem number Complete) → MarksMore a c (NodePart done (take (i + 1) run))
  part_next a b c done i number run d lt ab is bc =
      marks_then a b c (NodePart done (take i run)) (ThatItem number Complete) (NodePart done (take (i + 1) run)) ab bc
      (λ k m. (there k m, back k m))
    where
      taken : take (i + 1) run ≡ take i run ++ get_or run i d ∷ []
      taken = take_more run i d lt

      there : (k : ℕ) (m : Mark) → NodePart done (take (i + 1) run) k m → NodePart done (take i run) k m ⊎ ((k ≡ number) × (m ≡ Complete))
      there k m (start at complete) = inl (start at complete)
      there k m (part end among at complete) =
          elim (Contains-push_cases (take i run) (get_or run i d) end (subst (λ (z : List FurtherEnd). Contains z end) taken among)) [
            | inl old ↦ inl (part end old at complete)
            | inr new ↦ inr (at ∙ ap (λ (z : FurtherEnd). z.item) (sym new) ∙ sym is, complete)
          ]

      still : (end : FurtherEnd) → Contains (take i run ++ get_or run i d ∷ []) end → Contains (take (i + 1) run) end
      still end = subst (λ (z : List FurtherEnd). Contains z end) (sym taken)

      back : (k : ℕ) (m : Mark) → NodePart done (take i run) k m ⊎ ((k ≡ number) × (m ≡ Complete)) → NodePart done (take (i + 1) run) k m
      back k m (inl (start at complete)) = start at complete
      back k m (inl (part end among at complete)) =
          part end (still end (Contains-append_left (take i run) (get_or run i d ∷ []) end among)) at complete
      back k m (inr h) =
          part (get_or run i d) (still (get_or run i d) (Contains-push (take i run) (get_or run i d))) (h.0 ∙ is) h.1

  pub part_all : (a b : Walk) (done i : ℕ) (run : List FurtherEnd) →
      ((end : FurtherEnd) → Contains run end ↔ (Contains lists.ends end × (end.first ≡ done))) → length run ≤ i →
      MarksMore a b (NodePart done (take i run)) → MarksMore a b (OfNode lists done)
  part_all a b done i run exact le more =
      marks_same a b (NodePart done (take i run)) (OfNode lists done) more (λ k m. (there k m, back k m))
    where
      all : take i run ≡ run
      all = take_all i run le

      there : (k : ℕ) (m : Mark) → NodePart done (take i run) k m → OfNode lists done k m
      there k m (start at complete) = first at complete
      there k m (part end among at complete) =
          let p = (exact end).0 (subst (λ (z : List FurtherEnd). Contains z end) all among) in further end p.0 p.1 at complete

      back : (k : ℕ) (m : Mark) → OfNode lists done k m → NodePart done (take i run) k m
      back k m (first at complete) = start at complete
      back k m (further end among of at complete) =
          part end (subst (λ (z : List FurtherEnd). Contains z end) (sym all) ((exact end).1 (among, of))) at complete

  -- a way over no node
  pub leads_back : (a b : Walk) (way : Way) (number : ℕ) → HasPrev way number → ((k : ℕ) → HasPrev way k → k ≡ number) →
      ((prev done : ℕ) → way ≡ Node prev done → ⊥) → MarksMore a b (ThatItem number Open) → MarksMore a b (Leads lists way)
  leads_back a b way number has only none more =
      marks_same a b (ThatItem number Open) (Leads lists way) more
      (λ k m. (λ h. previous (subst (HasPrev way) (sym h.0) has) h.1, back k m))
    where
      back : (k : ℕ) (m : Mark) → Leads lists way k m → (k ≡ number) × (m ≡ Open)
      back k m (previous p is_open) = (only k p, is_open)
      back k m (child prev done e node) = absurd (none prev done e)

  pub leads_by_pass : (a b : Walk) (way : Way) (number : ℕ) → way ≡ Pass number → MarksMore a b (ThatItem number Open) →
      MarksMore a b (Leads lists way)
  leads_by_pass a b way number is more =
      subst (λ (z : Way). MarksMore a b (Leads lists z)) (sym is)
      (leads_back a b (Pass number) number refl (λ k p. sym p) (λ prev done e. cc) more)

  pub leads_by_leaf : (a b : Walk) (way : Way) (number : ℕ) → way ≡ Leaf number → MarksMore a b (ThatItem number Open) →
      MarksMore a b (Leads lists way)
  leads_by_leaf a b way number is more =
      subst (λ (z : Way). MarksMore a b (Leads lists z)) (sym is)
      (leads_back a b (Leaf number) number refl (λ k p. sym p) (λ prev done e. cc) more)

  -- a way over a node
  pub leads_by_node : (a b c : Walk) (way : Way) (prev done : ℕ) → way ≡ Node prev done → MarksMore a b (ThatItem prev Open) →
      MarksMore b c (OfNode lists done) → MarksMore a c (Leads lists way)
  leads_by_node a b c way prev done is ab bc =
      subst (λ (z : Way). MarksMore a c (Leads lists z)) (sym is)
      (marks_then a b c (ThatItem prev Open) (OfNode lists done) (Leads lists (Node prev done)) ab bc
      (λ k m. (there k m, back k m)))
    where
      there : (k : ℕ) (m : Mark) → Leads lists (Node prev done) k m → ((k ≡ prev) × (m ≡ Open)) ⊎ OfNode lists done k m
      there k m (previous p is_open) = inl (sym p, is_open)
      there k m (child q d e node) = let same : d ≡ done = cc in inr (subst (λ (z : ℕ). OfNode lists z k m) same node)

      back : (k : ℕ) (m : Mark) → ((k ≡ prev) × (m ≡ Open)) ⊎ OfNode lists done k m → Leads lists (Node prev done) k m
      back k m (inl h) = previous (sym h.0) h.1
      back k m (inr node) = child prev done refl node

  -- to what the first way to an item and some further ones lead back
  pub data LedBy (number : ℕ) (run : List FurtherWay) (k : ℕ) (m : Mark) : Type 0 where
    by_first : (way : Way) → slice_get lists.firsts number ≡ Some way → Leads lists way k m → LedBy number run k m
    by_further : (more : FurtherWay) → Contains run more → Leads lists (Node more.prev more.done) k m → LedBy number run k m

  pub led_first : (a b : Walk) (way : Way) (number : ℕ) (run : List FurtherWay) → slice_get lists.firsts number ≡ Some way →
      MarksMore a b (Leads lists way) → MarksMore a b (LedBy number (take 0 run))
  led_first a b way number run at more =
      marks_same a b (Leads lists way) (LedBy number []) more (λ k m. (λ h. by_first way at h, back k m))
    where
      back : (k : ℕ) (m : Mark) → LedBy number [] k m → Leads lists way k m
      back k m (by_first other there_at h) = subst (λ (z : Way). Leads lists z k m) (same_Some other way (sym there_at ∙ at)) h
      back k m (by_further w c h) = absurd (none_in_nil w c)

  pub led_next : (a b c : Walk) (number i : ℕ) (next : Way) (run : List FurtherWay) (d : FurtherWay) → i < length run →
      MarksMore a b (LedBy number (take i run)) → next ≡ Node (get_or run i d).prev (get_or run i d).done →
      MarksMore b c (Leads lists next) → MarksMore a c (LedBy number (take (i + 1) run))
  led_next a b c number i next run d lt ab is bc =
      marks_then a b c (LedBy number (take i run)) (Leads lists (Node f.prev f.done)) (LedBy number (take (i + 1) run)) ab
      (subst (λ (z : Way). MarksMore b c (Leads lists z)) is bc) (λ k m. (there k m, back k m))
    where
      f : FurtherWay
      f = get_or run i d

      taken : take (i + 1) run ≡ take i run ++ f ∷ []
      taken = take_more run i d lt

      there : (k : ℕ) (m : Mark) → LedBy number (take (i + 1) run) k m →
          LedBy number (take i run) k m ⊎ Leads lists (Node f.prev f.done) k m
      there k m (by_first way at h) = inl (by_first way at h)
      there k m (by_further more among h) =
          elim (Contains-push_cases (take i run) f more (subst (λ (z : List FurtherWay). Contains z more) taken among)) [
            | inl old ↦ inl (by_further more old h)
            | inr new ↦ inr (subst (λ (z : FurtherWay). Leads lists (Node z.prev z.done) k m) (sym new) h)
          ]

      still : (more : FurtherWay) → Contains (take i run ++ f ∷ []) more → Contains (take (i + 1) run) more
      still more = subst (λ (z : List FurtherWay). Contains z more) (sym taken)

      back : (k : ℕ) (m : Mark) → LedBy number (take i run) k m ⊎ Leads lists (Node f.prev f.done) k m →
          LedBy number (take (i + 1) run) k m
      back k m (inl (by_first way at h)) = by_first way at h
      back k m (inl (by_further more among h)) = by_further more (still more (Contains-append_left (take i run) (f ∷ []) more among)) h
      back k m (inr h) = by_further f (still f (Contains-push (take i run) f)) h

  pub led_all : (a b : Walk) (number i : ℕ) (run : List FurtherWay) →
      ((more : FurtherWay) → Contains run more ↔ (Contains lists.further more × (more.item ≡ number))) → length run ≤ i →
      MarksMore a b (LedBy number (take i run)) → MarksMore a b (LeadsFrom lists number)
  led_all a b number i run exact le more =
      marks_same a b (LedBy number (take i run)) (LeadsFrom lists number) more (λ k m. (there k m, back k m))
    where
      all : take i run ≡ run
      all = take_all i run le

      there : (k : ℕ) (m : Mark) → LedBy number (take i run) k m → LeadsFrom lists number k m
      there k m (by_first way at h) = record { way = way; to = ways.found at; leads = h }
      there k m (by_further w among h) =
          let p = (exact w).0 (subst (λ (z : List FurtherWay). Contains z w) all among) in
          record { way = Node w.prev w.done; to = ways.again w p.0 p.1 refl; leads = h }

      by_way : (k : ℕ) (m : Mark) (other : Way) → WayTo lists number other → Leads lists other k m → LedBy number (take i run) k m
      by_way k m other (ways.found at) h = by_first other at h
      by_way k m other (ways.again w among item is) h =
          by_further w (subst (λ (z : List FurtherWay). Contains z w) (sym all) ((exact w).1 (among, item)))
          (subst (λ (z : Way). Leads lists z k m) is h)

      back : (k : ℕ) (m : Mark) → LeadsFrom lists number k m → LedBy number (take i run) k m
      back k m h = by_way k m h.way h.to h.leads

  -- all to which the ways lead back from the complete items of a node
  pub data Reached (root : ℕ) : ℕ → Mark → Type 0 where
    at_root : (k : ℕ) (m : Mark) → OfNode lists root k m → Reached root k m
    step : (j k : ℕ) (n m : Mark) → Reached root j n → LeadsFrom lists j k m → Reached root k m

  -- exactly that is marked
  pub record AreReached (root : ℕ) (marks : List Mark) : Type 0 where
    pub long : length marks ≡ length lists.firsts
    pub sound : (k : ℕ) (m : Mark) → slice_get marks k ≡ Some m → is_live m ≡ true → Reached root k m
    pub complete : (k : ℕ) (m : Mark) → Reached root k m → IsMarked marks k

  module _ (root : ℕ) where
    -- the first numbers found are visited
    pub record Walked (w : Walk) (turn : ℕ) : Type 0 where
      pub found : AreFound w (length lists.firsts)
      pub whole : AreWhole lists w.marks.items
      pub begun : (k : ℕ) (m : Mark) → OfNode lists root k m → IsMarked w.marks.items k
      pub sound : (k : ℕ) (m : Mark) → slice_get w.marks.items k ≡ Some m → is_live m ≡ true → Reached root k m
      pub closed : (i v : ℕ) → i < turn → slice_get w.found.items i ≡ Some v → (k : ℕ) (m : Mark) → LeadsFrom lists v k m →
          IsMarked w.marks.items k

    pub walk_begins : (a b : Walk) → AreFound a (length lists.firsts) → a.found.items ≡ [] → MarksMore a b (OfNode lists root) →
        AreWhole lists b.marks.items → Walked b 0
    walk_begins a b are none more whole = record {
      found = marks_kept a b (OfNode lists root) (length lists.firsts) are more;
      whole = whole;
      begun = more.all;
      sound =
          λ k m at live. elim (more.new k m at live) [
            | inl before ↦
                absurd (none_in_nil k (subst (λ (z : List ℕ). Contains z k) none ((are.same k).1 (marked_by a.marks.items k m before live))))
            | inr node ↦ at_root k m node
          ];
      closed = λ i v lt. absurd (omega (arith, lt));
    }

    pub walk_next : (a b : Walk) (turn v : ℕ) → Walked a turn → slice_get a.found.items turn ≡ Some v → MarksMore a b (LeadsFrom lists v) →
        AreWhole lists b.marks.items → Walked b (turn + 1)
    walk_next a b turn v walked at more whole = record {
      found = marks_kept a b (LeadsFrom lists v) (length lists.firsts) walked.found more;
      whole = whole;
      begun = λ k m node. still k (walked.begun k m node);
      sound =
          λ k m here live. elim (more.new k m here live) [
            | inl before ↦ walked.sound k m before live
            | inr leads ↦ step v k n.0 m (walked.sound v n.0 n.1 n.2) leads
          ];
      closed =
          λ i u lt at_u k m leads. elim (below_or_at i turn lt) [
            | inl lower ↦
                let (x, at_x) = get_within a.found.items i (earlier i lower) in
                let same : u ≡ x = same_Some u x (sym at_u ∙ more.begins i x at_x) in
                still k (walked.closed i x lower at_x k m (subst (λ (z : ℕ). LeadsFrom lists z k m) same leads))
            | inr now ↦
                let same : u ≡ v = same_Some u v (sym at_u ∙ ap (slice_get b.found.items) now ∙ more.begins turn v at) in
                more.all k m (subst (λ (z : ℕ). LeadsFrom lists z k m) same leads)
          ];
    }
      where
        n : (mark : Mark) × (slice_get a.marks.items v ≡ Some mark) × (is_live mark ≡ true)
        n = mark_of a.marks.items v ((walked.found.same v).0 (contains_from_at a.found.items turn v at))

        still : (k : ℕ) → IsMarked a.marks.items k → IsMarked b.marks.items k
        still = still_marked a b (LeadsFrom lists v) (length lists.firsts) walked.found more

        earlier : (i : ℕ) → i < turn → i < length a.found.items
        earlier i lt = let h = slice_get_within a.found.items turn v at in omega (arith, lt, h)

    pub turn_within : (w : Walk) (turn v : ℕ) → Walked w turn → slice_get w.found.items turn ≡ Some v → v < length lists.firsts
    turn_within w turn v walked at =
        subst (λ (z : ℕ). v < z) walked.found.long
        (marked_within w.marks.items v ((walked.found.same v).0 (contains_from_at w.found.items turn v at)))

    -- all that was found is visited
    pub walk_ends : (w : Walk) (turn : ℕ) → Walked w turn → length w.found.items ≤ turn → AreReached root w.marks.items
    walk_ends w turn walked le = record { long = walked.found.long; sound = walked.sound; complete = all }
      where
        all : (k : ℕ) (m : Mark) → Reached root k m → IsMarked w.marks.items k
        all k m (at_root _ _ node) = walked.begun k m node
        all k m (step j _ n _ reached leads) =
            let at = at_from_contains w.found.items j ((walked.found.same j).1 (all j n reached)) in
            let lt = slice_get_within w.found.items at.0 j at.1 in
            walked.closed at.0 j (omega (arith, lt, le)) at.1 k m leads

    pub walk_stops : (w : Walk) (turn : ℕ) → Walked w turn → slice_get w.found.items turn ≡ None → AreReached root w.marks.items
    walk_stops w turn walked none = walk_ends w turn walked (past_end w.found.items turn none)

    pub walk_runs_out : (w : Walk) (turn : ℕ) → Walked w turn → length lists.firsts ≤ turn → AreReached root w.marks.items
    walk_runs_out w turn walked le =
        let f = kept_few is_live w.marks.items in
        let c = walked.found.counted in
        let l = walked.found.long in
        walk_ends w turn walked (omega (arith, f, c, l, le))
