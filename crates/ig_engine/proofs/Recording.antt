-- What is recorded, one after the other.
use Rattle.std.proofs.Common.{◌≡◌, ◌⊎◌, ⊎_elim, inl, inr, ℕ, zero, suc, ◌<◌, ◌≤◌, List, [], ◌∷◌, ◌++◌, Some, length, Contains, refl, sym, ap, ◌∙◌, subst, arith, slice_get, length-append}
use Rattle.std.specs.List.Sorted.{IsPermutation}
use Rattle.std.proofs.lemmas.List.Sorted.{IsPermutation-sym, Contains-permutation, length_permutation}
use Rattle.std.proofs.lemmas.Option.{same_Some, slice_get_within}
use Rattle.std.proofs.lemmas.List.Elements.{Contains-append_right, Contains-append_cases}
use Rattle.ig_text.proofs.Lists.{none_in_nil, contains_one, contains_first, contains_later, it_is_in, in_rest, place_last, place_cases}
use Rattle.ig_item.specs.Items.{Item}
use Rattle.ig_item.specs.Ways.{WayLists, WayTo, found, again}
use Rattle.ig_item.specs.WellKinded.{NoneTwice}
use Rattle.ig_item.specs.declared.ways.Way.{Way}
use Rattle.ig_item.specs.declared.ways.Way.TheVariants.{Node}
use Rattle.ig_item.specs.declared.ways.FurtherWay.{FurtherWay}
use Rattle.ig_queue.specs.declared.ticket.Ticket.{Ticket}
use Rattle.ig_run_tables.specs.Extends.{Extends}
use Rattle.ig_run_laws.specs.Finding.{Finding, Finds, IsNewTicket, IsRecorded, Records}
use Rattle.ig_engine.specs.Adding.{By}
use Rattle.ig_engine.proofs.Lists.{longer, extends_itself, extends_by, extends_same, extends_at, extends_in, extends_then, extends_cases, extends_within, none_twice_longer}

-- a ticket of none of the items
pub no_new : (items : List Item) (t : Ticket) → IsNewTicket (length items) items t → ⊥
no_new items t n = let l = slice_get_within items t.number n.0 n.2 in let k = n.1 in omega (arith, l, k)

-- nothing is to be recorded
pub records_nothing : (may : Way → Item → Type 0) (a : Finding) → ((way : Way) (x : Item) → may way x → ⊥) → Records may a a
records_nothing may a never =
    record {
      items = extends_itself a.items;
      once = λ n. n;
      firsts = extends_itself a.lists.firsts;
      further = extends_itself a.lists.further;
      ends = refl;
      numbered = λ e. e;
      there = λ more c. absurd (none_in_nil more c);
      each = λ e k way x at to. inl to;
      has = λ way x m. absurd (never way x m);
      counts = refl;
      waiting = λ t. (
        λ c. inl c,
        λ c. ⊎_elim (λ (h : Contains a.waiting t). h) (λ (h : IsNewTicket (length a.items) a.items t). absurd (no_new a.items t h)) c,
      );
    }

-- the same ways are allowed
pub records_alike : (may other : Way → Item → Type 0) (a b : Finding) → ((way : Way) (x : Item) → may way x → other way x) →
    ((way : Way) (x : Item) → other way x → may way x) → Records may a b → Records other a b
records_alike may other a b into back r =
    record {
      items = r.items;
      once = r.once;
      firsts = r.firsts;
      further = r.further;
      ends = r.ends;
      numbered = r.numbered;
      there = r.there;
      each = λ e k way x at to.
          ⊎_elim (λ (h : WayTo a.lists k way). inl h) (λ (h : may way x). inr (into way x h)) (r.each e k way x at to);
      has = λ way x m. r.has way x (back way x m);
      counts = r.counts;
      waiting = r.waiting;
    }

-- a way stays one as the lists grow
pub way_more : (v w : WayLists) (k : ℕ) (way : Way) → Extends v.firsts w.firsts → Extends v.further w.further → WayTo v k way →
    WayTo w k way
way_more v w k way firsts further (found at) = found (extends_at v.firsts w.firsts k way firsts at)
way_more v w k way firsts further (again more c item is) = again more (extends_in v.further w.further more further c) item is

-- one after the other
module _ (may first second : Way → Item → Type 0) (a b c : Finding) (d : Records first a b) (e : Records second b c)
    (one : (way : Way) (x : Item) → first way x → may way x) (other : (way : Way) (x : Item) → second way x → may way x)
    (split : (way : Way) (x : Item) → may way x → first way x ⊎ second way x) where
  -- a way of the one between to an item of that number, which is below the number of its items or was there before
  between : length a.lists.firsts ≡ length a.items → (k : ℕ) (way : Way) (x : Item) → slice_get c.items k ≡ Some x →
      WayTo b.lists k way → WayTo a.lists k way ⊎ first way x
  between n k way x at to = go to
    where
      below : k < length b.items → WayTo a.lists k way ⊎ first way x
      below lt = d.each n k way x (extends_within b.items c.items k x e.items lt at) to

      go : WayTo b.lists k way → WayTo a.lists k way ⊎ first way x
      go (found f) = below (let l = slice_get_within b.lists.firsts k way f in let q = d.numbered n in omega (arith, l, q))
      go (again more m item is) =
          ⊎_elim (λ (h : Contains a.lists.further more). inl (again more h item is))
          (λ (h : Contains d.further.more more). below (let l = d.there more h in omega (arith, l, item)))
          (extends_cases a.lists.further b.lists.further more d.further m)

  -- tickets of the items that were added first, and then
  forth : (t : Ticket) → Contains b.waiting t ⊎ IsNewTicket (length b.items) c.items t →
      Contains a.waiting t ⊎ IsNewTicket (length a.items) c.items t
  forth t (inl w) =
      ⊎_elim (λ (h : Contains a.waiting t). inl h)
      (λ (h : IsNewTicket (length a.items) b.items t).
      inr (h.0, h.1, extends_at b.items c.items t.number h.0 e.items h.2, h.3))
      ((d.waiting t).0 w)
  forth t (inr h) =
      inr (h.0, (let l = longer a.items b.items d.items in let k = h.1 in omega (arith, l, k)), h.2, h.3)

  back : (t : Ticket) → Contains a.waiting t ⊎ IsNewTicket (length a.items) c.items t →
      Contains b.waiting t ⊎ IsNewTicket (length b.items) c.items t
  back t (inl w) = inl ((d.waiting t).1 (inl w))
  back t (inr h) =
      ⊎_elim
      (λ (lt : t.number < length b.items).
      inl ((d.waiting t).1 (inr (h.0, h.1, extends_within b.items c.items t.number h.0 e.items lt h.2, h.3))))
      (λ (le : length b.items ≤ t.number). inr (h.0, le, h.2, h.3))
      (split_at_length t.number (length b.items))
    where
      split_at_length : (m n : ℕ) → (m < n) ⊎ (n ≤ m)
      split_at_length m zero = inr (omega arith)
      split_at_length zero (suc n) = inl (omega arith)
      split_at_length (suc m) (suc n) =
          ⊎_elim (λ (h : m < n). inl (omega (arith, h))) (λ (h : n ≤ m). inr (omega (arith, h))) (split_at_length m n)

  pub records_then : Records may a c
  records_then =
      record {
        items = extends_then a.items b.items c.items d.items e.items;
        once = λ n. e.once (d.once n);
        firsts = extends_then a.lists.firsts b.lists.firsts c.lists.firsts d.firsts e.firsts;
        further = extends_then a.lists.further b.lists.further c.lists.further d.further e.further;
        ends = e.ends ∙ d.ends;
        numbered = λ n. e.numbered (d.numbered n);
        there = λ more m.
            ⊎_elim
            (λ (h : Contains d.further.more more).
            let l = longer b.items c.items e.items in let n = d.there more h in omega (arith, l, n))
            (e.there more) (Contains-append_cases d.further.more e.further.more more m);
        each = λ n k way x at to.
            ⊎_elim
            (λ (h : WayTo b.lists k way).
            ⊎_elim (λ (g : WayTo a.lists k way). inl g) (λ (g : first way x). inr (one way x g)) (between n k way x at h))
            (λ (h : second way x). inr (other way x h)) (e.each (d.numbered n) k way x at to);
        has = λ way x m.
            ⊎_elim
            (λ (h : first way x).
            let q = d.has way x h in (
              q.0,
              extends_at b.items c.items q.0 x e.items q.1,
              way_more b.lists c.lists q.0 way e.firsts e.further q.2,
            ))
            (λ (h : second way x). e.has way x h) (split way x m);
        counts = let p = d.counts in let q = e.counts in omega (arith, p, q);
        waiting = λ t. (
          λ w. forth t ((e.waiting t).0 w),
          λ w. (e.waiting t).1 (back t w),
        );
      }

-- one new item, with its way
module _ (a b : Finding) (x : Item) (way : Way) (more_found : b.items ≡ a.items ++ x ∷ [])
    (firsts_are : b.lists.firsts ≡ a.lists.firsts ++ way ∷ []) (further_are : b.lists.further ≡ a.lists.further)
    (ends_are : b.lists.ends ≡ a.lists.ends) (new : Contains a.items x → ⊥) (numbers : length a.lists.firsts ≡ length a.items)
    (put : IsPermutation (record { position = x.position; number = length a.items } ∷ a.waiting) b.waiting) where
  abbrev ticket : Ticket
  ticket = record { position = x.position; number = length a.items }

  new_each : length a.lists.firsts ≡ length a.items → (k : ℕ) (w : Way) (y : Item) → slice_get b.items k ≡ Some y → WayTo b.lists k w →
      WayTo a.lists k w ⊎ By way (λ z. z ≡ x) w y
  new_each n k w y at (found f) =
      ⊎_elim (λ (h : slice_get a.lists.firsts k ≡ Some w). inl (found h))
      (λ (h : (k ≡ length a.lists.firsts) × (way ≡ w)). inr (last h.0 h.1))
      (place_cases a.lists.firsts way w k (ap (λ (z : List Way). slice_get z k) (sym firsts_are) ∙ f))
    where
      last : k ≡ length a.lists.firsts → way ≡ w → By way (λ z. z ≡ x) w y
      last is same =
          let here : slice_get b.items k ≡ Some x =
          ap (λ (z : List Item). slice_get z k) more_found ∙ ap (slice_get (a.items ++ x ∷ [])) (is ∙ n) ∙ place_last a.items x in
          (sym same, same_Some y x (sym at ∙ here))
  new_each n k w y at (again more c item is) = inl (again more (subst (λ (z : List FurtherWay). Contains z more) further_are c) item is)

  forth_one : (t : Ticket) → Contains b.waiting t → Contains a.waiting t ⊎ IsNewTicket (length a.items) b.items t
  forth_one t c =
      ⊎_elim
      (λ (h : ticket ≡ t).
      let number : length a.items ≡ t.number = ap (λ (z : Ticket). z.number) h in
      inr (
        x,
        omega (arith, number),
        ap (λ (z : List Item). slice_get z t.number) more_found ∙ ap (slice_get (a.items ++ x ∷ [])) (sym number) ∙ place_last a.items x,
        ap (λ (z : Ticket). z.position) (sym h),
      ))
      (λ (h : Contains a.waiting t). inl h)
      (in_rest ticket a.waiting t (Contains-permutation b.waiting (ticket ∷ a.waiting) t (IsPermutation-sym (ticket ∷ a.waiting) b.waiting put) c))

  back_one : (t : Ticket) → Contains a.waiting t ⊎ IsNewTicket (length a.items) b.items t → Contains b.waiting t
  back_one t (inl h) = Contains-permutation (ticket ∷ a.waiting) b.waiting t put (contains_later ticket a.waiting t h)
  back_one t (inr h) =
      ⊎_elim
      (λ (q : slice_get a.items t.number ≡ Some h.0).
      absurd (let l = slice_get_within a.items t.number h.0 q in let k = h.1 in omega (arith, l, k)))
      (λ (q : (t.number ≡ length a.items) × (x ≡ h.0)). at_end q.0 q.1)
      (place_cases a.items x h.0 t.number (ap (λ (z : List Item). slice_get z t.number) (sym more_found) ∙ h.2))
    where
      at_end : t.number ≡ length a.items → x ≡ h.0 → Contains b.waiting t
      at_end number same =
          let position : t.position ≡ x.position = h.3 ∙ ap (λ (z : Item). z.position) (sym same) in
          let is : ticket ≡ t = λ i. record { position = sym position i; number = sym number i } in
          subst (Contains b.waiting) is
          (Contains-permutation (ticket ∷ a.waiting) b.waiting ticket put (contains_first ticket a.waiting))

  pub records_new : Records (By way (λ z. z ≡ x)) a b
  records_new =
      record {
        items = extends_by a.items b.items (x ∷ []) more_found;
        once = λ n. subst NoneTwice (sym more_found) (none_twice_longer a.items x n new);
        firsts = extends_by a.lists.firsts b.lists.firsts (way ∷ []) firsts_are;
        further = extends_same a.lists.further b.lists.further further_are;
        ends = ends_are;
        numbered = λ n.
            let p = ap length firsts_are ∙ length-append a.lists.firsts (way ∷ []) in
            let q = ap length more_found ∙ length-append a.items (x ∷ []) in omega (arith, n, p, q);
        there = λ more c. absurd (none_in_nil more c);
        each = new_each;
        has = λ w y m. (
          length a.items,
          ap (λ (z : List Item). slice_get z (length a.items)) more_found ∙ place_last a.items x ∙ ap Some (sym m.1),
          found (ap (λ (z : List Way). slice_get z (length a.items)) firsts_are ∙
              ap (slice_get (a.lists.firsts ++ way ∷ [])) (sym numbers) ∙ place_last a.lists.firsts way ∙ ap Some (sym m.0)),
        );
        counts =
            let q = ap length more_found ∙ length-append a.items (x ∷ []) in
            let p = length_permutation (ticket ∷ a.waiting) b.waiting put in omega (arith, p, q);
        waiting = λ t. (forth_one t, back_one t);
      }

-- a further way to the item of that number
module _ (a b : Finding) (x : Item) (number prev done : ℕ) (at : slice_get a.items number ≡ Some x) (same_items : b.items ≡ a.items)
    (same_firsts : b.lists.firsts ≡ a.lists.firsts)
    (with_one : b.lists.further ≡ a.lists.further ++ record { item = number; prev = prev; done = done } ∷ [])
    (same_ends : b.lists.ends ≡ a.lists.ends) (same_waiting : b.waiting ≡ a.waiting) where
  abbrev one_more : FurtherWay
  one_more = record { item = number; prev = prev; done = done }

  further_each : (k : ℕ) (w : Way) (y : Item) → slice_get b.items k ≡ Some y → WayTo b.lists k w →
      WayTo a.lists k w ⊎ By (Node prev done) (λ z. z ≡ x) w y
  further_each k w y there (found f) = inl (found (ap (λ (z : List Way). slice_get z k) (sym same_firsts) ∙ f))
  further_each k w y there (again more c item is) =
      ⊎_elim (λ (h : Contains a.lists.further more). inl (again more h item is))
      (λ (h : Contains (one_more ∷ []) more). inr (this h))
      (Contains-append_cases a.lists.further (one_more ∷ []) more (subst (λ (z : List FurtherWay). Contains z more) with_one c))
    where
      this : Contains (one_more ∷ []) more → By (Node prev done) (λ z. z ≡ x) w y
      this h =
          let same : more ≡ one_more = contains_one one_more more h in
          let k_is : number ≡ k = sym (ap (λ (z : FurtherWay). z.item) same) ∙ item in (
            is ∙ ap (λ (z : FurtherWay). Node z.prev z.done) same,
            same_Some y x (sym there ∙ ap (λ (z : List Item). slice_get z k) same_items ∙ ap (slice_get a.items) (sym k_is) ∙ at),
          )

  pub records_further : Records (By (Node prev done) (λ z. z ≡ x)) a b
  records_further =
      record {
        items = extends_same a.items b.items same_items;
        once = λ n. subst NoneTwice (sym same_items) n;
        firsts = extends_same a.lists.firsts b.lists.firsts same_firsts;
        further = extends_by a.lists.further b.lists.further (one_more ∷ []) with_one;
        ends = same_ends;
        numbered = λ n. ap length same_firsts ∙ n ∙ ap length (sym same_items);
        there = λ more c.
            let i = ap (λ (z : FurtherWay). z.item) (contains_one one_more more c) in
            let l = slice_get_within a.items number x at in let n = ap length same_items in omega (arith, i, l, n);
        each = λ n. further_each;
        has = λ w y m. (
          number,
          ap (λ (z : List Item). slice_get z number) same_items ∙ at ∙ ap Some (sym m.1),
          again one_more
              (subst (λ (z : List FurtherWay). Contains z one_more) (sym with_one)
              (Contains-append_right a.lists.further (one_more ∷ []) one_more (it_is_in one_more))) refl m.0,
        );
        counts = let p = ap length same_items in let q = ap length same_waiting in omega (arith, p, q);
        waiting = λ t. (
          λ c. inl (subst (λ (z : List Ticket). Contains z t) same_waiting c),
          λ c. ⊎_elim (λ (h : Contains a.waiting t). subst (λ (z : List Ticket). Contains z t) (sym same_waiting) h)
              (λ (h : IsNewTicket (length a.items) b.items t).
              absurd (let l = slice_get_within b.items t.number h.0 h.2 in let k = h.1 in let n = ap length same_items in omega (arith, l, k, n)))
              c,
        );
      }

-- more was found, and then more
pub finds_then : (may first second : Way → Item → Type 0) (xs ys zs : List Item) → ((way : Way) (x : Item) → first way x → may way x) →
    ((way : Way) (x : Item) → second way x → may way x) → Finds first xs ys → Finds second ys zs → Finds may xs zs
finds_then may first second xs ys zs one other d e =
    record {
      items = extends_then xs ys zs d.items e.items;
      once = λ n. e.once (d.once n);
      each = λ x c.
          ⊎_elim (λ (h : Contains d.items.more x). let q = d.each x h in (q.0, one q.0 x q.1))
          (λ (h : Contains e.items.more x). let q = e.each x h in (q.0, other q.0 x q.1))
          (Contains-append_cases d.items.more e.items.more x c);
    }

-- what else allows it
pub finds_alike : (may other : Way → Item → Type 0) (xs ys : List Item) → ((way : Way) (x : Item) → may way x → other way x) →
    Finds may xs ys → Finds other xs ys
finds_alike may other xs ys into d =
    record { items = d.items; once = d.once; each = λ x c. let q = d.each x c in (q.0, into q.0 x q.1) }

-- nothing was found; or one item, which wasn't there
pub finds_nothing : (may : Way → Item → Type 0) (xs ys : List Item) → ys ≡ xs → Finds may xs ys
finds_nothing may xs ys same =
    record {
      items = extends_same xs ys same;
      once = λ n. subst NoneTwice (sym same) n;
      each = λ x c. absurd (none_in_nil x c);
    }

pub finds_one : (may : Way → Item → Type 0) (xs ys : List Item) (x : Item) (way : Way) → ys ≡ xs ++ x ∷ [] → (Contains xs x → ⊥) → may way x →
    Finds may xs ys
finds_one may xs ys x way is new m =
    record {
      items = extends_by xs ys (x ∷ []) is;
      once = λ n. subst NoneTwice (sym is) (none_twice_longer xs x n new);
      each = λ y c. (way, subst (may way) (sym (contains_one x y c)) m);
    }

-- of ways that were recorded before, too
pub records_known : (may other : Way → Item → Type 0) (a b : Finding) → ((way : Way) (x : Item) → may way x → other way x) →
    ((way : Way) (x : Item) → other way x → may way x ⊎ IsRecorded a way x) → Records may a b → Records other a b
records_known may other a b into back r =
    record {
      items = r.items;
      once = r.once;
      firsts = r.firsts;
      further = r.further;
      ends = r.ends;
      numbered = r.numbered;
      there = r.there;
      each = λ e k way x at to.
          ⊎_elim (λ (h : WayTo a.lists k way). inl h) (λ (h : may way x). inr (into way x h)) (r.each e k way x at to);
      has = λ way x m.
          ⊎_elim (λ (h : may way x). r.has way x h)
          (λ (h : IsRecorded a way x). (
            h.0,
            extends_at a.items b.items h.0 x r.items h.1,
            way_more a.lists b.lists h.0 way r.firsts r.further h.2,
          )) (back way x m);
      counts = r.counts;
      waiting = r.waiting;
    }
