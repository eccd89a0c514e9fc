-- The least numbers of nodes, as one end after another is taken into account, and ways that are renamed by them.
use Rattle.std.proofs.Common.{◌≡◌, ◌∙◌, ◌⊎◌, ◌≢◌, inl, inr, ⊎_elim, ℕ, ◌+◌, ◌<◌, ◌≤◌, min, cond, Ordering, Less, Equal, Greater, Bool, true, false, List, [], ◌∷◌, ◌++◌, map, length, length-append, get_or, take, Contains, nat_eq, if◌then◌else◌, refl, sym, ap, subst, arith}
use Rattle.std.specs.Cmp.{ranks}
use Rattle.std.specs.Ordering.{MatchOrdering, is_lt, nat_cmp, ord_max}
use Rattle.std.proofs.lemmas.Bool.{cases_eq}
use Rattle.std.proofs.lemmas.List.{get_or_append_left, get_or_past, take_all}
use Rattle.std.proofs.lemmas.List.Elements.{Contains-append_left, Contains-append_right, Contains-append_cases}
use Rattle.std.proofs.lemmas.Option.{slice_get-get_or}
use Rattle.ig_text.proofs.Lists.{contains_from_at, contains_one, in_pushed, it_is_in, none_in_nil, take_at}
use Rattle.ig_text.proofs.Numbers.{same_number}
use Rattle.ig_text.proofs.Orders.{le_or_lt}
use Rattle.ig_item.specs.Ways.{WayLists}
use Rattle.ig_item.specs.declared.ways.Way.{Way}
use Rattle.ig_item.specs.declared.ways.Way.TheVariants.{Begin, Pass, Leaf, Node}
use Rattle.ig_item.specs.declared.ways.FurtherEnd.{FurtherEnd}
use Rattle.ig_run_laws.specs.Renaming.{GivesLeast, IsLeast, renamed, renamed_end, renamed_further, renamed_way}
use Rattle.ig_run_laws.specs.Renamed.{AreAbove, IsRenamed, at_or_same}

-- a member of a list up to a place and the one there
pub in_next : {X : Type 0} (xs : List X) (k : ℕ) (d : X) → k < length xs → (x : X) → Contains (take (k + 1) xs) x →
    Contains (take k xs) x ⊎ (x ≡ get_or xs k d)
in_next xs k d lt x c =
    in_pushed (take k xs) (get_or xs k d) x
    (subst (λ z. Contains z x) (take_at xs k (get_or xs k d) (slice_get-get_or xs k d lt)) c)

-- a list up to its end
pub in_whole : {X : Type 0} (xs : List X) (k : ℕ) → length xs ≤ k → (x : X) → Contains xs x → Contains (take k xs) x
in_whole xs k le x c = subst (λ z. Contains z x) (sym (take_all k xs le)) c

-- the greater of two numbers is no lower than either
greater_by : (a b : ℕ) (o : Ordering) → MatchOrdering o (b < a) (b ≡ a) (a < b) → (a ≤ cond (is_lt o) a b) × (b ≤ cond (is_lt o) a b)
greater_by a b Less h = (omega arith, omega (arith, h))
greater_by a b Equal h = (omega (arith, h), omega arith)
greater_by a b Greater h = (omega (arith, h), omega arith)

pub greater : (a b : ℕ) → (a ≤ ord_max nat_cmp a b) × (b ≤ ord_max nat_cmp a b)
greater a b = greater_by a b (nat_cmp b a) (ranks b a)

-- without ends each number is its own least one
pub least_none : (f : ℕ → ℕ) → ((d : ℕ) → f d ≡ d) → GivesLeast [] f
least_none f same d =
    record { one = inl (same d); itself = let e = same d in omega (arith, e); each = λ end c. absurd (none_in_nil end c) }

module _ (ends : List FurtherEnd) (end : FurtherEnd) (f g : ℕ → ℕ) (gives : GivesLeast ends f)
    (here : g end.first ≡ min (f end.first) end.item) (others : (d : ℕ) → d ≢ end.first → g d ≡ f d) where
  -- of the node of a further end
  least_here : (d : ℕ) → d ≡ end.first → IsLeast (ends ++ end ∷ []) d (g d)
  least_here d is =
      record {
        one = ⊎_elim (λ (le : f d ≤ end.item). kept (omega (arith, low, le))) (λ (lt : end.item < f d). lowered (omega (arith, low, lt)))
            (le_or_lt (f d) end.item);
        itself = let i = old.itself in omega (arith, low, i);
        each = λ e c same.
            ⊎_elim (λ (h : Contains ends e). let l = old.each e h same in omega (arith, low, l))
            (λ (h : Contains (end ∷ []) e).
            let i : end.item ≡ e.item = ap (λ (z : FurtherEnd). z.item) (sym (contains_one end e h)) in omega (arith, low, i))
            (Contains-append_cases ends (end ∷ []) e c);
      }
    where
      old : IsLeast ends d (f d)
      old = gives d

      low : g d ≡ min (f d) end.item
      low = subst (λ n. g n ≡ min (f n) end.item) (sym is) here

      kept : g d ≡ f d → (g d ≡ d) ⊎ Contains (ends ++ end ∷ []) (record { first = d; item = g d })
      kept e =
          ⊎_elim (λ (h : f d ≡ d). inl (e ∙ h))
          (λ (h : Contains ends (record { first = d; item = f d })).
          inr (Contains-append_left ends (end ∷ []) (record { first = d; item = g d })
          (subst (λ n. Contains ends (record { first = d; item = n })) (sym e) h))) old.one

      lowered : g d ≡ end.item → (g d ≡ d) ⊎ Contains (ends ++ end ∷ []) (record { first = d; item = g d })
      lowered e =
          inr (Contains-append_right ends (end ∷ []) (record { first = d; item = g d })
          (subst (λ n. Contains (end ∷ []) (record { first = n; item = g d })) (sym is)
          (subst (λ n. Contains (end ∷ []) (record { first = end.first; item = n })) (sym e) (it_is_in end))))

  -- of another one
  least_there : (d : ℕ) → d ≢ end.first → IsLeast (ends ++ end ∷ []) d (g d)
  least_there d other =
      subst (IsLeast (ends ++ end ∷ []) d) (sym (others d other))
      (record {
        one = ⊎_elim (λ (h : f d ≡ d). inl h)
            (λ (h : Contains ends (record { first = d; item = f d })).
            inr (Contains-append_left ends (end ∷ []) (record { first = d; item = f d }) h)) (gives d).one;
        itself = (gives d).itself;
        each = λ e c same.
            ⊎_elim (λ (h : Contains ends e). (gives d).each e h same)
            (λ (h : Contains (end ∷ []) e).
            absurd (other (sym same ∙ ap (λ (z : FurtherEnd). z.first) (contains_one end e h))))
            (Contains-append_cases ends (end ∷ []) e c);
      })

  pub least_more : GivesLeast (ends ++ end ∷ []) g
  least_more d = ⊎_elim (least_here d) (least_there d) (cases_eq d end.first)

-- where no end is lower each number is its own least one
pub least_above : (ends : List FurtherEnd) → AreAbove ends → GivesLeast ends (λ d. d)
least_above ends above d =
    record { one = inl refl; itself = omega arith; each = λ e c same. let l = above e c in omega (arith, l, same) }

-- and the names stay
map_same : {X : Type 0} (f : X → X) (xs : List X) → ((x : X) → f x ≡ x) → map f xs ≡ xs
map_same f [] same = refl
map_same f (x ∷ xs) same = ap (λ z. z ∷ map f xs) (same x) ∙ ap (λ z. x ∷ z) (map_same f xs same)

same_way : (w : Way) → renamed_way (λ d. d) w ≡ w
same_way Begin = refl
same_way (Pass k) = refl
same_way (Leaf k) = refl
same_way (Node k d) = refl

same_item : (item first : ℕ) (b : Bool) → nat_eq item first ≡ b → (if b then first else item) ≡ item
same_item item first true e = sym (same_number item first e)
same_item item first false e = refl

pub same_renamed : (lists : WayLists) → renamed (λ d. d) lists ≡ lists
same_renamed lists =
    ap (λ z. record { firsts = z; further = map (renamed_further (λ d. d)) lists.further; ends = map (renamed_end (λ d. d)) lists.ends })
    (map_same (renamed_way (λ d. d)) lists.firsts same_way) ∙
    ap (λ z. record { firsts = lists.firsts; further = z; ends = map (renamed_end (λ d. d)) lists.ends })
    (map_same (renamed_further (λ d. d)) lists.further (λ x. refl)) ∙
    ap (λ z. record { firsts = lists.firsts; further = lists.further; ends = z })
    (map_same (renamed_end (λ d. d)) lists.ends
    (λ e. ap (λ z. record { first = e.first; item = z }) (same_item e.item e.first (nat_eq e.item e.first) refl)))

pub is_renamed_above : (lists : WayLists) → AreAbove lists.ends → IsRenamed lists lists
is_renamed_above lists above =
    record { least = λ d. d; gives = least_above lists.ends above; is = sym (same_renamed lists) }

-- the end at a place is taken into account
pub least_next : (ends : List FurtherEnd) (k : ℕ) (d : FurtherEnd) (f g : ℕ → ℕ) → k < length ends → GivesLeast (take k ends) f →
    g (get_or ends k d).first ≡ min (f (get_or ends k d).first) (get_or ends k d).item →
    ((n : ℕ) → n ≢ (get_or ends k d).first → g n ≡ f n) → GivesLeast (take (k + 1) ends) g
least_next ends k d f g lt gives here others =
    subst (λ z. GivesLeast z g) (sym (take_at ends k (get_or ends k d) (slice_get-get_or ends k d lt)))
    (least_more (take k ends) (get_or ends k d) f g gives here others)

pub is_there : {X : Type 0} (xs : List X) (k : ℕ) (d : X) → k < length xs → Contains xs (get_or xs k d)
is_there xs k d lt = contains_from_at xs k (get_or xs k d) (slice_get-get_or xs k d lt)

-- a table of numbers that stand at their places, and one more
pub same_pushed : (table : List ℕ) (n : ℕ) → length table ≡ n → ((d : ℕ) → at_or_same table d ≡ d) → (d : ℕ) →
    at_or_same (table ++ n ∷ []) d ≡ d
same_pushed table n long same d =
    ⊎_elim (λ (within : length table + 1 ≤ d). get_or_past (table ++ n ∷ []) d d (let a = length-append table (n ∷ []) in omega (arith, a, within)))
    (λ (lt : d < length table + 1). ⊎_elim
    (λ (le : length table ≤ d). let at : d ≡ length table = omega (arith, le, lt) in
    subst (λ k. get_or (table ++ n ∷ []) k k ≡ k) (sym at) (last table n (length table) ∙ sym long))
    (λ (inside : d < length table). get_or_append_left table (n ∷ []) d d inside ∙ same d)
    (le_or_lt (length table) d))
    (le_or_lt (length table + 1) d)
  where
    last : (xs : List ℕ) (x d : ℕ) → get_or (xs ++ x ∷ []) (length xs) d ≡ x
    last [] x d = refl
    last (y ∷ ys) x d = last ys x d
