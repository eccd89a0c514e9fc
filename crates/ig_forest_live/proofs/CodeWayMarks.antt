-- What ways lead to from the root is live, and all that is live.
use Rattle.std.proofs.Common.{◌≡◌, ◌↔◌, inl, inr, ℕ, ◌<◌, List, Some, length, get_or, slice_get, Contains, refl, sym, ap, ◌∙◌, subst, arith, true}
use Rattle.std.proofs.lemmas.Bool.{cases_eq}
use Rattle.std.proofs.lemmas.List.Elements.{Contains-get_or}
use Rattle.std.proofs.lemmas.Option.{same_Some, slice_get_within}
use Rattle.ig_text.specs.Input.{Input}
use Rattle.ig_text.proofs.Lists.{at_from_contains, get_within}
use Rattle.ig_item.specs.Gives as rules
use Rattle.ig_item.specs.Gives.{NodeKey, Taken, tree, Completes}
use Rattle.ig_item.specs.Items.{Item, Reachable, IsComplete, StandsBefore}
use Rattle.ig_item.specs.Laws.{AlternativesAreOne}
use Rattle.ig_item.specs.Recorded.{Recording, IsRecorded}
use Rattle.ig_item.specs.Step.{Step, Test, Bind, Term, Call}
use Rattle.ig_item.specs.Tables.{items_of}
use Rattle.ig_item.specs.Ways as ways
use Rattle.ig_item.specs.Ways.{WayTo, Says, IsWay, IsEnd, IsFirstEnd}
use Rattle.ig_item.specs.declared.core_grammar.CoreAlt.{CoreAlt}
use Rattle.ig_item.specs.declared.core_grammar.Nonterminal.{Nonterminal}
use Rattle.ig_item.specs.declared.ways.Way.{Way}
use Rattle.ig_item.specs.declared.ways.Way.TheVariants.{Node}
use Rattle.ig_item.specs.declared.ways.FurtherEnd.{FurtherEnd}
use Rattle.ig_forest_live.specs.Live as live
use Rattle.ig_forest_live.specs.Live.{Gives, IsLive}
use Rattle.ig_forest_live.specs.Live.{root_key}
use Rattle.ig_forest_live.specs.Marks.{is_live}
use Rattle.ig_forest_live.specs.Marks.{IsMarked, AreMarks}
use Rattle.ig_forest_live.specs.CodeWayMarks.{IsAWay, HasPrev, OfNode, first, further, Leads, previous, child, AreWhole, AreFound, MarksMore, ThatItem}
use Rattle.ig_forest_live.specs.declared.mark.Mark.{Mark}
use Rattle.ig_forest_live.specs.declared.mark.Mark.TheVariants.{Dead, Open, Complete}
use Rattle.ig_forest_live.specs.declared.marks.Walk.{Walk}
use Rattle.ig_forest_live.proofs.CodeWalk.{IsNoFirst, mark_of, whole_with, Reached, at_root, step, AreReached}

-- the previous item of a rule stands before a step
module _ (core : List Nonterminal) (text : Input) where
  any_step : {prev x : Item} {taken : Taken} → Gives core text prev taken x → (names : List (List ℕ)) × (step : Step) × StandsBefore core prev names step
  any_step (rules.test prev ns f x r before holds is) = (ns, Test f, before)
  any_step (rules.bind prev ns name f v x r before has is) = (ns, Bind name f, before)
  any_step (rules.terminal prev ns what label excluded j taken x r before matches free t is) = (ns, Term what label excluded, before)
  any_step (rules.return prev done label excluded key x r d calls c free is) =
      (calls.names, Call key.instance.nonterminal calls.arguments label excluded, calls.before)

module _ (r : Recording) (recorded : IsRecorded r) where
  abbrev items : List Item
  items = items_of r.tables

  abbrev Known : Item → Type 0
  Known = Reachable r.core r.text

  -- a complete item is the previous one of no step
  not_complete : AlternativesAreOne → {prev x : Item} {taken : Taken} → Gives r.core r.text prev taken x → IsComplete r.core prev → ⊥
  not_complete alternatives_one {prev} gives c =
      let (names, next, b) = any_step r.core r.text gives in
      let same =
      alternatives_one r.core prev.instance.nonterminal prev.alternative c.nonterminal b.nonterminal c.alternative b.alternative
      c.has b.has in
      let within = slice_get_within b.alternative.steps prev.dot next b.next in
      let long = ap (λ (z : CoreAlt). length z.steps) same.alternatives in
      let last = c.last in
      omega (arith, within, last, long)

  -- an item has one node at most
  same_key : (x y : Item) (a b : NodeKey) → x ≡ y → Completes r.core x a → Completes r.core y b → a ≡ b
  same_key x y a b same ca cb =
      let i : a.instance ≡ b.instance = sym ca.instance ∙ ap (λ (z : Item). z.instance) same ∙ cb.instance in
      let e : a.end ≡ b.end = sym ca.end ∙ ap (λ (z : Item). z.position) same ∙ cb.end in
      λ k. record { instance = i k; end = e k }

  item_of_way : {n : ℕ} {way : Way} → WayTo r.ways n way → n < length r.ways.firsts
  item_of_way {n} {way} (ways.found at) = slice_get_within r.ways.firsts n way at
  item_of_way {n} (ways.again more among item is) =
      let lt = recorded.are_ways.ways.there more among in
      let long = recorded.are_ways.ways.number in
      omega (arith, lt, long, item)

  within_firsts : (k : ℕ) (x : Item) → slice_get items k ≡ Some x → k < length r.ways.firsts
  within_firsts k x at = let lt = slice_get_within items k x at in let long = recorded.are_ways.ways.number in omega (arith, lt, long)

  -- the item to which a way leads, which comes about in that way
  way_item : (n : ℕ) (way : Way) → WayTo r.ways n way → (x : Item) × IsWay r.core r.text Known items x way
  way_item n way to =
      let lt = item_of_way to in
      let long = recorded.are_ways.ways.number in
      let (x, at) = get_within items n (omega (arith, lt, long)) in
      (x, recorded.are_ways.ways.sound n x way at to)

  -- a way with a previous item
  record PrevAt (k : ℕ) (x : Item) : Type 0 where
    prev : Item
    taken : Taken
    there : slice_get items k ≡ Some prev
    gives : Gives r.core r.text prev taken x

  prev_there : {position : ℕ} {way : Way} {prev : Item} {taken : Taken} (k : ℕ) → Says r.core Known items position way prev taken → HasPrev way k →
      slice_get items k ≡ Some prev
  prev_there k (ways.pass p prev at) e = ap (slice_get items) (sym e) ∙ at
  prev_there k (ways.leaf p prev taken at is) e = ap (slice_get items) (sym e) ∙ at
  prev_there k (ways.node p d prev key at of) e = ap (slice_get items) (sym e) ∙ at

  prev_at : {x : Item} {way : Way} (k : ℕ) → IsWay r.core r.text Known items x way → HasPrev way k → PrevAt k x
  prev_at k (ways.begin dot) has = absurd has
  prev_at k (ways.comes way prev taken says gives) has =
      record { prev = prev; taken = taken; there = prev_there k says has; gives = gives }

  -- a way over a node
  record NodeAt (d : ℕ) (x : Item) : Type 0 where
    prev : Item
    key : NodeKey
    first : IsFirstEnd r.core Known items key d
    gives : Gives r.core r.text prev (tree key) x

  node_said : {position : ℕ} {way : Way} {prev x : Item} {taken : Taken} (p d : ℕ) → Says r.core Known items position way prev taken →
      Gives r.core r.text prev taken x → way ≡ Node p d → NodeAt d x
  node_said p d (ways.pass k prev at) gives is = cc
  node_said p d (ways.leaf k prev taken at t) gives is = cc
  node_said p d (ways.node k e prev key at of) gives is =
      let same : e ≡ d = cc in record { prev = prev; key = key; first = subst (IsFirstEnd r.core Known items key) same of; gives = gives }

  node_at : {x : Item} {way : Way} (p d : ℕ) → IsWay r.core r.text Known items x way → way ≡ Node p d → NodeAt d x
  node_at p d (ways.begin dot) is = cc
  node_at p d (ways.comes way prev taken says gives) is = node_said p d says gives is

  -- the previous item of a way is there, and is the first complete one of no node
  prev_within : (n k : ℕ) (way : Way) → WayTo r.ways n way → HasPrev way k → k < length r.ways.firsts
  prev_within n k way to has = let p = prev_at k (way_item n way to).1 has in within_firsts k p.prev p.there

  prev_no_first : AlternativesAreOne → (n k : ℕ) (way : Way) → WayTo r.ways n way → HasPrev way k → IsNoFirst r.ways k
  prev_no_first alternatives_one n k way to has end among is =
      let p = prev_at k (way_item n way to).1 has in
      let h = ((recorded.are_ways.ends.exact end).0 among).first.end in
      let same : h.item ≡ p.prev = same_Some h.item p.prev (sym h.there ∙ ap (slice_get items) is ∙ p.there) in
      not_complete alternatives_one p.gives (subst (IsComplete r.core) same h.completes.complete)

  -- so are the complete items of nodes
  done_within : (n p d : ℕ) (way : Way) → WayTo r.ways n way → way ≡ Node p d → d < length r.ways.firsts
  done_within n p d way to is = let h = (node_at p d (way_item n way to).1 is).first.end in within_firsts d h.item h.there

  pub end_within : (run : List FurtherEnd) (done i : ℕ) (d : FurtherEnd) →
      ((end : FurtherEnd) → Contains run end ↔ (Contains r.ways.ends end × (end.first ≡ done))) → i < length run →
      (get_or run i d).item < length r.ways.firsts
  end_within run done i d exact lt =
      let among = ((exact (get_or run i d)).0 (Contains-get_or run i d lt)).0 in
      let h = ((recorded.are_ways.ends.exact (get_or run i d)).0 among).further in within_firsts (get_or run i d).item h.item h.there

  -- a further complete item is the first one of no node
  pub ends_apart : (one two : FurtherEnd) → Contains r.ways.ends one → Contains r.ways.ends two → one.first ≡ two.item → ⊥
  ends_apart one two in_one in_two is =
      let a = (recorded.are_ways.ends.exact one).0 in_one in
      let b = (recorded.are_ways.ends.exact two).0 in_two in
      let same = same_Some a.first.end.item b.further.item (sym a.first.end.there ∙ ap (slice_get items) is ∙ b.further.there) in
      let key : a.key ≡ b.key = same_key a.first.end.item b.further.item a.key b.key same a.first.end.completes b.further.completes in
      let low = a.first.least two.first (subst (λ (z : NodeKey). IsEnd r.core Known items z two.first) (sym key) b.first.end) in
      let high = b.first.least two.item b.further in
      let e : two.item ≡ two.first = omega (arith, low, high, is) in
      b.other e

  -- of a node the complete items are those that are known by the first one
  node_end : (key : NodeKey) (d k : ℕ) (m : Mark) → IsFirstEnd r.core Known items key d → OfNode r.ways d k m → IsEnd r.core Known items key k
  node_end key d k m of (first is complete) = subst (IsEnd r.core Known items key) (sym is) of.end
  node_end key d k m of (further end among at is complete) =
      let h = (recorded.are_ways.ends.exact end).0 among in
      let same = same_Some h.first.end.item of.end.item (sym h.first.end.there ∙ ap (slice_get items) at ∙ of.end.there) in
      let e : h.key ≡ key = same_key h.first.end.item of.end.item h.key key same h.first.end.completes of.end.completes in
      subst (IsEnd r.core Known items key) (sym is) (subst (λ (z : NodeKey). IsEnd r.core Known items z end.item) e h.further)

  node_mark : (d k : ℕ) (m : Mark) → OfNode r.ways d k m → m ≡ Complete
  node_mark d k m (first is complete) = complete
  node_mark d k m (further end among at is complete) = complete

  end_node : (key : NodeKey) (d k : ℕ) → IsFirstEnd r.core Known items key d → IsEnd r.core Known items key k → OfNode r.ways d k Complete
  end_node key d k of end =
      elim (cases_eq k d) [
        | inl same ↦ first same refl
        | inr other ↦
            further (record { first = d; item = k })
            ((recorded.are_ways.ends.exact (record { first = d; item = k })).1
            (record { key = key; first = of; further = end; other = other })) refl refl refl
      ]

  number_of : (x : Item) → Known x → (k : ℕ) × (slice_get items k ≡ Some x)
  number_of x known = at_from_contains items x ((recorded.reachable x).1 known)

  module _ (alternatives_one : AlternativesAreOne) (root : ℕ) (of_root : IsFirstEnd r.core Known items (root_key r.text) root) where
    -- what is reached is live, and marked as it has to be
    record IsRight (k : ℕ) (m : Mark) : Type 0 where
      item : Item
      there : slice_get items k ≡ Some item
      live : IsLive r.core r.text item
      unfinished : m ≡ Open → IsComplete r.core item → ⊥
      complete : m ≡ Complete → IsComplete r.core item

    end_right : (key : NodeKey) (k : ℕ) (m : Mark) → m ≡ Complete → (end : IsEnd r.core Known items key k) →
        IsLive r.core r.text end.item → IsRight k m
    end_right key k m is end l = record {
      item = end.item;
      there = end.there;
      live = l;
      unfinished = λ e. let both : Open ≡ Complete = sym e ∙ is in cc;
      complete = λ e. end.completes.complete;
    }

    led_right : (x : Item) (way : Way) (k : ℕ) (m : Mark) → IsLive r.core r.text x → IsWay r.core r.text Known items x way →
        Leads r.ways way k m → IsRight k m
    led_right x way k m l is_way (previous has is_open) =
        let p = prev_at k is_way has in record {
          item = p.prev;
          there = p.there;
          live = live.previous x p.prev p.taken l p.gives;
          unfinished = λ e. not_complete alternatives_one p.gives;
          complete = λ e. let both : Open ≡ Complete = sym is_open ∙ e in cc;
        }
    led_right x way k m l is_way (child p d is node) =
        let h = node_at p d is_way is in
        let end = node_end h.key d k m h.first node in
        end_right h.key k m (node_mark d k m node) end (live.child x h.prev end.item h.key l h.gives end.is_known end.completes)

    right : (k : ℕ) (m : Mark) → Reached r.ways root k m → IsRight k m
    right k m (at_root _ _ node) =
        let end = node_end (root_key r.text) root k m of_root node in
        end_right (root_key r.text) k m (node_mark root k m node) end
        (live.root end.item end.is_known (record { of_root = end.completes.instance; complete = end.completes.complete }) end.completes.end)
    right k m (step j _ n _ reached leads) =
        let s = right j n reached in
        led_right s.item leads.way k m s.live (recorded.are_ways.ways.sound j s.item leads.way s.there leads.to) leads.leads

    -- the number of an item that is reached
    record IsReached (x : Item) : Type 0 where
      number : ℕ
      mark : Mark
      there : slice_get items number ≡ Some x
      reached : Reached r.ways root number mark

    prev_said : {position : ℕ} {way : Way} {prev : Item} {taken : Taken} → Says r.core Known items position way prev taken →
        (k : ℕ) × (slice_get items k ≡ Some prev) × HasPrev way k
    prev_said (ways.pass k prev at) = (k, at, refl)
    prev_said (ways.leaf k prev taken at is) = (k, at, refl)
    prev_said (ways.node k d prev key at of) = (k, at, refl)

    tree_said : {position : ℕ} {way : Way} {prev : Item} {taken : Taken} (key : NodeKey) → Says r.core Known items position way prev taken →
        taken ≡ tree key → (p : ℕ) × (d : ℕ) × (way ≡ Node p d) × IsFirstEnd r.core Known items key d
    tree_said key (ways.pass k prev at) t = cc
    tree_said key (ways.leaf k prev taken at is) t = cc
    tree_said key (ways.node k d prev other at of) t =
        let same : other ≡ key = cc in (k, d, refl, subst (λ (z : NodeKey). IsFirstEnd r.core Known items z d) same of)

    reached : (x : Item) → IsLive r.core r.text x → IsReached x
    reached x (live.root _ known is_root end) =
        let n = number_of x known in record {
          number = n.0;
          mark = Complete;
          there = n.1;
          reached =
              at_root n.0 Complete
              (end_node (root_key r.text) root n.0 of_root
              (record {
                item = x;
                there = n.1;
                is_known = known;
                completes = record { complete = is_root.complete; instance = is_root.of_root; end = end };
              }));
        }
    reached x (live.previous y _ taken l gives) =
        let h = reached y l in
        let came = recorded.are_ways.ways.complete h.number y x taken h.there gives in
        let p = prev_said came.says in record {
          number = p.0;
          mark = Open;
          there = p.1;
          reached = step h.number p.0 h.mark Open h.reached (record { way = came.way; to = came.to; leads = previous p.2 refl });
        }
    reached x (live.child y prev _ key l gives known completes) =
        let h = reached y l in
        let came = recorded.are_ways.ways.complete h.number y prev (tree key) h.there gives in
        let t = tree_said key came.says refl in
        let n = number_of x known in record {
          number = n.0;
          mark = Complete;
          there = n.1;
          reached =
              step h.number n.0 h.mark Complete h.reached
              (record {
                way = came.way;
                to = came.to;
                leads =
                    child t.0 t.1 t.2
                    (end_node key t.1 n.0 t.3 (record { item = x; there = n.1; is_known = known; completes = completes }));
              });
        }

    -- what is reached is marked: so exactly the live items are
    pub reached_live : (marks : List Mark) → AreReached r.ways root marks → AreMarks r.core r.text items marks
    reached_live marks are = record {
      long = are.long ∙ recorded.are_ways.ways.number;
      live = λ k x at. (to k x at, back k x at);
      complete = λ k x at. (done k x at, marked k x at);
    }
      where
        right_at : (k : ℕ) (m : Mark) → slice_get marks k ≡ Some m → is_live m ≡ true → IsRight k m
        right_at k m at is = right k m (are.sound k m at is)

        to : (k : ℕ) (x : Item) → slice_get items k ≡ Some x → IsMarked marks k → IsLive r.core r.text x
        to k x at is =
            let m = mark_of marks k is in
            let s = right_at k m.0 m.1 m.2 in
            subst (IsLive r.core r.text) (same_Some s.item x (sym s.there ∙ at)) s.live

        back : (k : ℕ) (x : Item) → slice_get items k ≡ Some x → IsLive r.core r.text x → IsMarked marks k
        back k x at l =
            let h = reached x l in
            let same : h.number ≡ k = recorded.once h.number k x h.there at in
            subst (IsMarked marks) same (are.complete h.number h.mark h.reached)

        done : (k : ℕ) (x : Item) → slice_get items k ≡ Some x → slice_get marks k ≡ Some Complete → IsLive r.core r.text x × IsComplete r.core x
        done k x at is =
            let s = right_at k Complete is refl in
            let same = same_Some s.item x (sym s.there ∙ at) in
            (subst (IsLive r.core r.text) same s.live, subst (IsComplete r.core) same (s.complete refl))

        completed : (k : ℕ) (x : Item) (m : Mark) → slice_get items k ≡ Some x → slice_get marks k ≡ Some m → is_live m ≡ true →
            IsComplete r.core x → m ≡ Complete
        completed k x Dead at is dead c = cc
        completed k x Open at is l c =
            let s = right_at k Open is l in
            absurd (s.unfinished refl (subst (IsComplete r.core) (same_Some x s.item (sym at ∙ s.there)) c))
        completed k x Complete at is l c = refl

        marked : (k : ℕ) (x : Item) → slice_get items k ≡ Some x → IsLive r.core r.text x × IsComplete r.core x → slice_get marks k ≡ Some Complete
        marked k x at h =
            let m = mark_of marks k (back k x at h.0) in
            m.1 ∙ ap Some (completed k x m.0 at m.1 m.2 h.1)

-- the numbers of a way of a recording
module _ (r : Recording) (way : Way) (is_a : IsAWay r way) where
  -- where the way has a previous item
  module _ (k : ℕ) (has : HasPrev way k) where
    pub prev_fits : (w : Walk) → AreFound w (length r.ways.firsts) → k < length w.marks.items
    prev_fits w are = let lt = prev_within r is_a.recorded is_a.number k way is_a.to has in let long = are.long in omega (arith, lt, long)

    pub prev_whole : AlternativesAreOne → (a b : Walk) → AreFound a (length r.ways.firsts) → AreWhole r.ways a.marks.items →
        MarksMore a b (ThatItem k Open) → AreWhole r.ways b.marks.items
    prev_whole alternatives_one a b are whole more =
        whole_with r.ways a b k (length r.ways.firsts) Open are whole more (prev_no_first r is_a.recorded alternatives_one is_a.number k way is_a.to has)

  pub done_fits : (prev done : ℕ) → way ≡ Node prev done → done < length r.ways.firsts
  done_fits prev done is = done_within r is_a.recorded is_a.number prev done way is_a.to is
