-- A work list that makes numbers by rules.
use Rattle.std.proofs.Common.{◌≡◌, ◌↔◌, ◌⊎◌, inl, inr, ◌∙◌, ℕ, zero, suc, ◌+◌, ◌-◌, ◌<◌, ◌≤◌, List, [], ◌∷◌, ◌++◌, Some, None, Bool, true, false, Contains, length, take, get_or, set, replicate, slice_get, refl, sym, ap, subst, arith, length-set, append_assoc}
use Rattle.std.specs.Prelude.{◌==◌, if◌then◌else◌}
use Rattle.std.proofs.lemmas.List.{length-replicate, length_push, get_or-set_same, get_or-set_other, get_or_push, get_or_append_left, append-nil, take_all, length-take-le}
use Rattle.std.proofs.lemmas.List.Elements.{Contains-append_left, Contains-append_right}
use Rattle.std.proofs.lemmas.Bool.{cases_eq}
use Rattle.std.proofs.lemmas.Bool.Decides.{nat_tests}
use Rattle.std.proofs.lemmas.Option.{slice_get_within, slice_get-get_or, get_or_from_slice_get, same_Some}
use Rattle.std.proofs.Math.Seq.{take-append_seam}
use Rattle.ig_text.proofs.Orders.{le_or_lt, below_or_at}
use Rattle.ig_text.proofs.Lists.{none_in_nil, contains_from_at, contains_first, contains_later, in_rest, in_pushed, past_end, place_last, take_at}
use Rattle.ig_analyse.specs.Marks.{is_marked, count_marks}
use Rattle.ig_analyse.specs.Rules.{IsDerived, derive, occurs, AreInside, AreUsers, Marking, Uses, AreMade, IsWork, used_by, IsUsing, Begins, added_users, MarkDerived}
use Rattle.ig_analyse.specs.declared.rules.Rule.{Rule}
use Rattle.ig_analyse.specs.declared.making.Work.{Work}
use Rattle.ig_analyse.proofs.Marking.{count_set, count_few, never_marked}

-- how often a number is in a list
is_same : (n : ℕ) → (n == n) ≡ true
is_same n = grind (arith, nat_tests)

is_other : (n x : ℕ) → (n ≡ x → ⊥) → (n == x) ≡ false
is_other n x other = grind (arith, nat_tests)

pub occurs_here : (n x : ℕ) (xs : List ℕ) → n ≡ x → occurs n (x ∷ xs) ≡ suc (occurs n xs)
occurs_here n x xs e =
    let s = ap (λ z. (if z then 1 else 0) + occurs n xs) (ap (λ z. n == z) (sym e) ∙ is_same n) in omega (arith, s)

pub occurs_later : (n x : ℕ) (xs : List ℕ) → (n ≡ x → ⊥) → occurs n (x ∷ xs) ≡ occurs n xs
occurs_later n x xs other = let s = ap (λ z. (if z then 1 else 0) + occurs n xs) (is_other n x other) in omega (arith, s)

pub occurs_append : (n : ℕ) (xs ys : List ℕ) → occurs n (xs ++ ys) ≡ occurs n xs + occurs n ys
occurs_append n [] ys = omega arith
occurs_append n (x ∷ xs) ys = let r = occurs_append n xs ys in omega (arith, r)

pub occurs_in : (n : ℕ) (xs : List ℕ) → Contains xs n → 1 ≤ occurs n xs
occurs_in n [] c = absurd (none_in_nil n c)
occurs_in n (x ∷ xs) c = elim (in_rest x xs n c) [
  | inl here ↦ let o = occurs_here n x xs (sym here) in omega (arith, o)
  | inr later ↦ let o = occurs_in n xs later in omega (arith, o)
]

pub in_occurs : (n : ℕ) (xs : List ℕ) → 1 ≤ occurs n xs → Contains xs n
in_occurs n [] l = absurd (omega (arith, l))
in_occurs n (x ∷ xs) l = elim (cases_eq n x) [
  | inl here ↦ subst (Contains (x ∷ xs)) (sym here) (contains_first x xs)
  | inr other ↦ let o = occurs_later n x xs other in contains_later x xs n (in_occurs n xs (omega (arith, l, o)))
]

pub occurs_not : (n : ℕ) (xs : List ℕ) → (Contains xs n → ⊥) → occurs n xs ≡ 0
occurs_not n xs none = elim (le_or_lt 1 (occurs n xs)) [
  | inl some ↦ absurd (none (in_occurs n xs some))
  | inr few ↦ omega (arith, few)
]

-- how often the members of one list are in another
abbrev met : List ℕ → List ℕ → ℕ
met ns [] = 0
met ns (w ∷ ws) = occurs w ns + met ns ws

-- where each is there at most once, and they are met as often as they are many, all are there
few_met : (ns ws : List ℕ) → ((n : ℕ) → occurs n ns ≤ 1) → met ns ws ≤ length ws
few_met ns [] once = omega arith
few_met ns (w ∷ ws) once = let a = once w in let b = few_met ns ws once in omega (arith, a, b)

all_met : (ns ws : List ℕ) → ((n : ℕ) → occurs n ns ≤ 1) → length ws ≤ met ns ws → (m : ℕ) → Contains ws m → Contains ns m
all_met ns [] once enough m c = absurd (none_in_nil m c)
all_met ns (w ∷ ws) once enough m c =
    let a = once w in
    let b = few_met ns ws once in
    elim (in_rest w ws m c) [
      | inl here ↦ subst (Contains ns) here (in_occurs w ns (omega (arith, enough, a, b)))
      | inr later ↦ all_met ns ws once (omega (arith, enough, a)) m later
    ]

met_all : (ns ws : List ℕ) → ((m : ℕ) → Contains ws m → Contains ns m) → length ws ≤ met ns ws
met_all ns [] all = omega arith
met_all ns (w ∷ ws) all =
    let a = occurs_in w ns (all w (contains_first w ws)) in
    let b = met_all ns ws (λ m c. all m (contains_later w ws m c)) in omega (arith, a, b)

-- the same, counted from the other side
none_met : (ws : List ℕ) → met [] ws ≡ 0
none_met [] = refl
none_met (w ∷ ws) = let r = none_met ws in omega (arith, r)

one_met : (n : ℕ) (ns ws : List ℕ) → met (n ∷ ns) ws ≡ occurs n ws + met ns ws
one_met n ns [] = omega arith
one_met n ns (w ∷ ws) =
    let r = one_met n ns ws in
    elim (cases_eq w n) [
      | inl same ↦
          let a = occurs_here w n ns same in
          let b = occurs_here n w ws (sym same) in omega (arith, r, a, b)
      | inr other ↦
          let a = occurs_later w n ns other in
          let b = occurs_later n w ws (λ e. other (sym e)) in omega (arith, r, a, b)
    ]

module _ (count : ℕ) (rules : List Rule) (users : List (List ℕ)) (u : AreUsers count rules users) where
  uses_met : (ns : List ℕ) (k : ℕ) (rule : Rule) → ((n : ℕ) → Contains ns n → n < count) → slice_get rules k ≡ Some rule →
      used_by users ns k ≡ met ns rule.callees
  uses_met [] k rule inside there = sym (none_met rule.callees)
  uses_met (n ∷ ns) k rule inside there =
      let r = uses_met ns k rule (λ m c. inside m (contains_later n ns m c)) there in
      let l = inside n (contains_first n ns) in
      let s = u.long in
      let row = slice_get-get_or users n [] (omega (arith, l, s)) in
      let a = u.same n k (get_or users n []) rule row there in
      let b = one_met n ns rule.callees in omega (arith, r, a, b)

used_append : (users : List (List ℕ)) (ns ms : List ℕ) (k : ℕ) → used_by users (ns ++ ms) k ≡ used_by users ns k + used_by users ms k
used_append users [] ms k = omega arith
used_append users (n ∷ ns) ms k = let r = used_append users ns ms k in omega (arith, r)

-- a number is marked
record More (rules : List Rule) (count : ℕ) (marks : List Bool) (found : List ℕ) (n : ℕ) (marks' : List Bool) (found' : List ℕ) : Type 0 where
  made : AreMade rules count marks' found'
  own : is_marked marks' n ≡ true
  still : (m : ℕ) → is_marked marks m ≡ true → is_marked marks' m ≡ true
  added : List ℕ
  pushed : found' ≡ found ++ added

stays_marked : (marks : List Bool) (n m : ℕ) → n < length marks → is_marked marks m ≡ true → is_marked (set marks n true) m ≡ true
stays_marked marks n m l h = elim (cases_eq m n) [
  | inl same ↦ ap (is_marked (set marks n true)) same ∙ get_or-set_same marks n true false l
  | inr other ↦ get_or-set_other marks n m true false other ∙ h
]

makes_new : (rules : List Rule) (count : ℕ) (marks : List Bool) (found : List ℕ) (n : ℕ) → AreMade rules count marks found → n < count →
    IsDerived rules n → is_marked marks n ≡ false → More rules count marks found n (set marks n true) (found ++ n ∷ [])
makes_new rules count marks found n made inside derived fresh =
    let long = made.long in
    let l : n < length marks = omega (arith, inside, long) in
    let none : (Contains found n → ⊥) = λ c. let m = (made.same n).1 c in let e = sym m ∙ fresh in absurd (cc) in
    record {
      made = record {
        long = length-set marks n true ∙ made.long;
        same = λ m. (
          λ h. elim (cases_eq m n) [
            | inl same ↦ subst (Contains (found ++ n ∷ [])) (sym same) (contains_from_at (found ++ n ∷ []) (length found) n (place_last found n))
            | inr other ↦
                Contains-append_left found (n ∷ []) m ((made.same m).0 (sym (get_or-set_other marks n m true false other) ∙ h))
          ],
          λ c. elim (in_pushed found n m c) [
            | inl old ↦ stays_marked marks n m l ((made.same m).1 old)
            | inr new ↦ ap (is_marked (set marks n true)) new ∙ get_or-set_same marks n true false l
          ],
        );
        counted = let a = count_set marks n l fresh in
            let b = made.counted in let c = length_push found n in omega (arith, a, b, c);
        once = λ m. let a = occurs_append m found (n ∷ []) in
            elim (cases_eq m n) [
              | inl same ↦
                  let b = occurs_here m n [] same in
                  let c = ap (λ z. occurs z found) same ∙ occurs_not n found none in omega (arith, a, b, c)
              | inr other ↦
                  let b = occurs_later m n [] other in
                  let c = made.once m in omega (arith, a, b, c)
            ];
        sound = λ m c. elim (in_pushed found n m c) [
          | inl old ↦ made.sound m old
          | inr new ↦ subst (IsDerived rules) (sym new) derived
        ];
      };
      own = get_or-set_same marks n true false l;
      still = λ m h. stays_marked marks n m l h;
      added = n ∷ [];
      pushed = refl;
    }

marked_or : (b : Bool) → (b ≡ true) ⊎ (b ≡ false)
marked_or true = inl refl
marked_or false = inr refl

marks_more : (rules : List Rule) (count n : ℕ) (old new : Work) → AreMade rules count old.marks.items old.found.items → n < count →
    IsDerived rules n → Marking n old new → More rules count old.marks.items old.found.items n new.marks.items new.found.items
marks_more rules count n old new made inside derived m = elim (marked_or (is_marked old.marks.items n)) [
  | inl had ↦
      let s = m.had had in
      subst (λ z. More rules count old.marks.items old.found.items n z new.found.items) (sym s.0)
      (subst (λ z. More rules count old.marks.items old.found.items n old.marks.items z) (sym s.1)
      (record { made = made; own = had; still = λ k h. h; added = []; pushed = sym (append-nil old.found.items) }))
  | inr fresh ↦
      let s = m.fresh fresh in
      subst (λ z. More rules count old.marks.items old.found.items n z new.found.items) (sym s.0)
      (subst (λ z. More rules count old.marks.items old.found.items n (set old.marks.items n true) z) (sym s.1)
      (makes_new rules count old.marks.items old.found.items n made inside derived fresh))
]

-- a rule is used once more
module _ (rules : List Rule) (count to k : ℕ) (old new : Work) (used used' : ℕ → ℕ) (w : IsWork rules count to old used)
    (u : Uses rules k old new) (inside : AreInside count rules) (low : k < to) (more : used' k ≡ suc (used k))
    (others : (j : ℕ) → (j ≡ k → ⊥) → used' j ≡ used j)
    (enough : length u.rule.callees ≤ suc (used k) → (m : ℕ) → Contains u.rule.callees m → Contains old.found.items m) where
  less_left : (j : ℕ) (rule : Rule) → j < to → slice_get rules j ≡ Some rule → get_or u.mid.left.items j 0 ≡ length rule.callees - used' j
  less_left j rule l there =
      let long = w.long in
      elim (cases_eq j k) [
        | inl same ↦
            let a = ap (λ z. get_or z j 0) u.less ∙ ap (λ z. get_or (set old.left.items k (get_or old.left.items k 0 - 1)) z 0) same ∙
            get_or-set_same old.left.items k (get_or old.left.items k 0 - 1) 0 (omega (arith, low, long)) in
            let b = w.left_is k rule low (ap (slice_get rules) (sym same) ∙ there) in
            let c = ap used' same in omega (arith, a, b, c, more)
        | inr other ↦
            let a = ap (λ z. get_or z j 0) u.less ∙ get_or-set_other old.left.items k j (get_or old.left.items k 0 - 1) 0 other in
            let b = w.left_is j rule l there in
            let c = others j other in omega (arith, a, b, c)
      ]

  mid_long : length u.mid.left.items ≡ to
  mid_long = ap length u.less ∙ length-set old.left.items k (get_or old.left.items k 0 - 1) ∙ w.long

  -- of another rule as many callees are left, so its head is marked as before
  closed_before : (j : ℕ) (rule : Rule) → j < to → slice_get rules j ≡ Some rule → (j ≡ k → ⊥) → get_or u.mid.left.items j 0 ≡ 0 →
      is_marked old.marks.items rule.head ≡ true
  closed_before j rule l there other e =
      w.closed j rule l there
      (sym (ap (λ z. get_or z j 0) u.less ∙ get_or-set_other old.left.items k j (get_or old.left.items k 0 - 1) 0 other) ∙ e)

  own_left : get_or u.mid.left.items k 0 ≡ get_or old.left.items k 0 - 1
  own_left =
      let long = w.long in
      ap (λ z. get_or z k 0) u.less ∙ get_or-set_same old.left.items k (get_or old.left.items k 0 - 1) 0 (omega (arith, low, long))

  mid_made : AreMade rules count u.mid.marks.items u.mid.found.items
  mid_made =
      subst (λ z. AreMade rules count z u.mid.found.items) (sym u.marks) (subst (λ z. AreMade rules count old.marks.items z) (sym u.found) w.made)

  -- the work goes on, and what was found before is there
  pub record Goes : Type 0 where
    pub work : IsWork rules count to new used'
    pub added : List ℕ
    pub pushed : new.found.items ≡ old.found.items ++ added

  when_spent : get_or old.left.items k 0 - 1 ≡ 0 → Goes
  when_spent none =
      let b = w.left_is k u.rule low u.there in
      let derived : IsDerived rules u.rule.head =
      derive k u.rule.head u.rule u.there refl (λ m c. w.made.sound m (enough (omega (arith, none, b)) m c)) in
      let marking = u.spent none in
      let m = marks_more rules count u.rule.head u.mid new mid_made (inside.heads k u.rule u.there) derived marking in
      record {
        work = record {
          made = m.made;
          long = ap length marking.left ∙ mid_long;
          left_is = λ j rule l there. ap (λ z. get_or z j 0) marking.left ∙ less_left j rule l there;
          closed = λ j rule l there e. elim (cases_eq j k) [
            | inl same ↦
                let one : rule ≡ u.rule = same_Some rule u.rule (sym there ∙ ap (slice_get rules) same ∙ u.there) in
                ap (λ (z : Rule). is_marked new.marks.items z.head) one ∙ m.own
            | inr other ↦
                m.still rule.head
                (ap (λ z. is_marked z rule.head) u.marks ∙
                closed_before j rule l there other (sym (ap (λ z. get_or z j 0) marking.left) ∙ e))
          ];
        };
        added = m.added;
        pushed = m.pushed ∙ ap (λ z. z ++ m.added) u.found;
      }

  when_not : (get_or old.left.items k 0 - 1 ≡ 0 → ⊥) → Goes
  when_not some =
      let same : new ≡ u.mid = u.not_spent some in
      record {
        work = subst (λ z. IsWork rules count to z used') (sym same)
            (record {
              made = mid_made;
              long = mid_long;
              left_is = less_left;
              closed = λ j rule l there e. elim (cases_eq j k) [
                | inl one ↦ absurd (some (sym own_left ∙ ap (λ z. get_or u.mid.left.items z 0) (sym one) ∙ e))
                | inr other ↦ ap (λ z. is_marked z rule.head) u.marks ∙ closed_before j rule l there other e
              ];
            });
        added = [];
        pushed = ap (λ (z : Work). z.found.items) same ∙ u.found ∙ sym (append-nil old.found.items);
      }

  pub uses_goes : Goes
  uses_goes = elim (cases_eq (get_or old.left.items k 0 - 1) 0) [
    | inl none ↦ when_spent none
    | inr some ↦ when_not some
  ]

at_middle : (xs : List ℕ) (x : ℕ) (ys : List ℕ) → slice_get (xs ++ x ∷ ys) (length xs) ≡ Some x
at_middle [] x ys = refl
at_middle (y ∷ xs) x ys = at_middle xs x ys

-- one of the users that are left is a rule
pub user_inside : (rules : List Rule) (count : ℕ) (users : List (List ℕ)) (now : Work) (base : List ℕ) (n k : ℕ) (left : List ℕ) →
    AreUsers count rules users → IsUsing rules count users now base n (k ∷ left) → k < length rules
user_inside rules count users now base n k left a s =
    a.inside n k (s.used ++ k ∷ left) s.there (Contains-append_right s.used (k ∷ left) k (contains_first k left))

-- the users of a number, one after another
module _ (count : ℕ) (rules : List Rule) (users : List (List ℕ)) (a : AreUsers count rules users) (inside : AreInside count rules) where
  found_inside : (work : Work) (to : ℕ) (used : ℕ → ℕ) → IsWork rules count to work used → (n : ℕ) → Contains work.found.items n → n < count
  found_inside work to used w n c =
      let m = marked_inside work.marks.items n ((w.made.same n).1 c) in
      let l = w.made.long in omega (arith, m, l)
    where
      marked_inside : (marks : List Bool) (k : ℕ) → is_marked marks k ≡ true → k < length marks
      marked_inside [] k e = absurd (cc)
      marked_inside (x ∷ xs) zero e = omega arith
      marked_inside (x ∷ xs) (suc k) e = let l = marked_inside xs k e in omega (arith, l)

  -- no rule was used more often than its callees are found
  used_found : (work : Work) (base : List ℕ) (n j : ℕ) (left : List ℕ) (rule : Rule) (s : IsUsing rules count users work base n left) →
      slice_get rules j ≡ Some rule → used_by users base j + occurs j (s.used ++ left) ≤ met work.found.items rule.callees
  used_found work base n j left rule s at =
      let w = s.work in
      let m = uses_met count rules users a work.found.items j rule (found_inside work (length rules) _ w) at in
      let p = ap (λ z. used_by users z j) s.parted ∙ used_append users base (n ∷ s.behind) j in
      let r = ap (occurs j) (get_or_from_slice_get users n (s.used ++ left) [] s.there) in omega (arith, m, p, r)

  pub using_more : (old new : Work) (base : List ℕ) (n k : ℕ) (left : List ℕ) → IsUsing rules count users old base n (k ∷ left) →
      Uses rules k old new → IsUsing rules count users new base n left
  using_more old new base n k left s u =
      let uses : (j : ℕ) → occurs j (s.used ++ k ∷ []) ≡ occurs j s.used + occurs j (k ∷ []) =
      (λ j. occurs_append j s.used (k ∷ [])) in
      let g =
      uses_goes rules count (length rules) k old new (λ j. used_by users base j + occurs j s.used)
      (λ j. used_by users base j + occurs j (s.used ++ k ∷ [])) s.work u inside (user_inside rules count users old base n k left a s)
      (let x = uses k in let y = occurs_here k k [] refl in omega (arith, x, y))
      (λ j other. let x = uses j in let y = occurs_later j k [] other in omega (arith, x, y))
      (λ few m c. all_met old.found.items u.rule.callees s.work.made.once
      (let f = used_found old base n k (k ∷ left) u.rule s u.there in
      let x = occurs_append k s.used (k ∷ left) in
      let y = occurs_here k k left refl in omega (arith, few, f, x, y)) m c) in
      record {
        used = s.used ++ k ∷ [];
        there = s.there ∙ ap Some (sym (append_assoc s.used (k ∷ []) left));
        work = g.work;
        behind = s.behind ++ g.added;
        parted = g.pushed ∙ ap (λ z. z ++ g.added) s.parted ∙ append_assoc base (n ∷ s.behind) g.added;
      }

  -- a turn begins and ends
  pub turn_begins : (work : Work) (turn n : ℕ) (row : List ℕ) → IsWork rules count (length rules) work (used_by users (take turn work.found.items)) →
      slice_get work.found.items turn ≡ Some n → slice_get users n ≡ Some row → IsUsing rules count users work (take turn work.found.items) n row
  turn_begins work turn n row w at there =
      let s = stands_at work.found.items turn n at in
      record {
        used = [];
        there = there;
        work = record {
          made = w.made;
          long = w.long;
          left_is = λ k rule l there. let e = w.left_is k rule l there in omega (arith, e);
          closed = w.closed;
        };
        behind = s.0;
        parted = s.1;
      }
    where
      stands_at : (xs : List ℕ) (i x : ℕ) → slice_get xs i ≡ Some x → (rest : List ℕ) × (xs ≡ take i xs ++ x ∷ rest)
      stands_at [] i x e = absurd (cc)
      stands_at (y ∷ ys) zero x e = (ys, ap (λ z. z ∷ ys) (same_Some y x e))
      stands_at (y ∷ ys) (suc i) x e = let r = stands_at ys i x e in (r.0, ap (λ z. y ∷ z) r.1)

  pub turn_ends : (old new : Work) (turn n : ℕ) → IsUsing rules count users new (take turn old.found.items) n [] →
      slice_get old.found.items turn ≡ Some n →
      IsWork rules count (length rules) new (used_by users (take (turn + 1) new.found.items))
  turn_ends old new turn n s at =
      let w = s.work in
      let t = slice_get_within old.found.items turn n at in
      let base_long = length-take-le turn old.found.items (omega (arith, t)) in
      let taken : take (turn + 1) new.found.items ≡ take turn old.found.items ++ n ∷ [] =
      ap (take (turn + 1)) s.parted ∙ ap (λ z. take (z + 1) (take turn old.found.items ++ n ∷ s.behind)) (sym base_long) ∙
      take_behind (take turn old.found.items) n s.behind in
      record {
        made = w.made;
        long = w.long;
        left_is = λ k rule low e.
            let x = w.left_is k rule low e in
            let y = ap (λ z. used_by users z k) taken ∙ used_append users (take turn old.found.items) (n ∷ []) k in
            let z = ap (occurs k) (get_or_from_slice_get users n (s.used ++ []) [] s.there ∙ append-nil s.used) in
            omega (arith, x, y, z);
        closed = w.closed;
      }
    where
      take_behind : (xs : List ℕ) (x : ℕ) (ys : List ℕ) → take (length xs + 1) (xs ++ x ∷ ys) ≡ xs ++ x ∷ []
      take_behind xs x ys =
          take_at (xs ++ x ∷ ys) (length xs) x (at_middle xs x ys) ∙ ap (λ z. z ++ x ∷ []) (take-append_seam xs (x ∷ ys))

  -- all that was found is used: then what is derived is marked
  pub all_derived : (work : Work) (turn : ℕ) → IsWork rules count (length rules) work (used_by users (take turn work.found.items)) →
      length work.found.items ≤ turn → (n : ℕ) → (is_marked work.marks.items n ≡ true) ↔ IsDerived rules n
  all_derived work turn w l n = (λ h. w.made.sound n ((w.made.same n).0 h), marked n)
    where
      marked : (n : ℕ) → IsDerived rules n → is_marked work.marks.items n ≡ true
      marked n (derive k _ rule there head each) =
          let low = slice_get_within rules k rule there in
          let found : (m : ℕ) → Contains rule.callees m → Contains work.found.items m = (λ m c. (w.made.same m).0 (marked m (each m c))) in
          let a' = met_all work.found.items rule.callees found in
          let b = uses_met count rules users a work.found.items k rule (found_inside work (length rules) _ w) there in
          let x = w.left_is k rule low there in
          let t = ap (λ z. used_by users z k) (take_all turn work.found.items l) in
          subst (λ z. is_marked work.marks.items z ≡ true) head (w.closed k rule low there (omega (arith, a', b, x, t)))

-- the lists of users
added_long : (k : ℕ) (users : List (List ℕ)) (ns : List ℕ) → length (added_users k users ns) ≡ length users
added_long k users [] = refl
added_long k users (n ∷ ns) =
    added_long k (set users n (get_or users n [] ++ k ∷ [])) ns ∙ length-set users n (get_or users n [] ++ k ∷ [])

added_here : (k m : ℕ) (users : List (List ℕ)) (ns : List ℕ) → m < length users →
    occurs k (get_or (added_users k users ns) m []) ≡ occurs k (get_or users m []) + occurs m ns
added_here k m users [] l = omega arith
added_here k m users (n ∷ ns) l =
    let row = get_or users n [] ++ k ∷ [] in
    let r = added_here k m (set users n row) ns (let s = length-set users n row in omega (arith, l, s)) in
    elim (cases_eq m n) [
      | inl same ↦
          let a = ap (occurs k) (ap (λ z. get_or (set users n row) z []) same ∙ get_or-set_same users n row [] (omega (arith, l, same))) in
          let b = occurs_append k (get_or users n []) (k ∷ []) in
          let c = occurs_here k k [] refl in
          let d = occurs_here m n ns same in
          let e = ap (λ z. occurs k (get_or users z [])) same in omega (arith, r, a, b, c, d, e)
      | inr other ↦
          let a = ap (occurs k) (get_or-set_other users n m row [] other) in
          let d = occurs_later m n ns other in omega (arith, r, a, d)
    ]

added_beside : (k j m : ℕ) (users : List (List ℕ)) (ns : List ℕ) → (j ≡ k → ⊥) → m < length users →
    occurs j (get_or (added_users k users ns) m []) ≡ occurs j (get_or users m [])
added_beside k j m users [] other l = refl
added_beside k j m users (n ∷ ns) other l =
    let row = get_or users n [] ++ k ∷ [] in
    let r = added_beside k j m (set users n row) ns other (let s = length-set users n row in omega (arith, l, s)) in
    elim (cases_eq m n) [
      | inl same ↦
          let a = ap (occurs j) (ap (λ z. get_or (set users n row) z []) same ∙ get_or-set_same users n row [] (omega (arith, l, same))) in
          let b = occurs_append j (get_or users n []) (k ∷ []) in
          let c = occurs_later j k [] other in
          let e = ap (λ z. occurs j (get_or users z [])) same in omega (arith, r, a, b, c, e)
      | inr apart ↦ r ∙ ap (occurs j) (get_or-set_other users n m row [] apart)
    ]

-- the users among the first rules
pub record AreUsersTo (count : ℕ) (rules : List Rule) (users : List (List ℕ)) (to : ℕ) : Type 0 where
  pub long : length users ≡ count
  pub same : (n k : ℕ) (rule : Rule) → n < count → k < to → slice_get rules k ≡ Some rule →
      occurs k (get_or users n []) ≡ occurs n rule.callees
  pub none : (n k : ℕ) → n < count → to ≤ k → occurs k (get_or users n []) ≡ 0

abbrev nothing : List ℕ
nothing = []

get_empty : (count n : ℕ) → get_or (replicate count nothing) n nothing ≡ nothing
get_empty zero n = refl
get_empty (suc count) zero = refl
get_empty (suc count) (suc n) = get_empty count n

pub users_begin : (count : ℕ) (rules : List Rule) (users : List (List ℕ)) → users ≡ replicate count [] → AreUsersTo count rules users 0
users_begin count rules users e =
    record {
      long = ap length e ∙ length-replicate count nothing;
      same = λ n k rule l low. absurd (omega (arith, low));
      none = λ n k l low. ap (λ z. occurs k (get_or z n [])) e ∙ ap (occurs k) (get_empty count n);
    }

pub users_go : (count : ℕ) (rules : List Rule) (users next : List (List ℕ)) (to : ℕ) (rule : Rule) → AreUsersTo count rules users to →
    slice_get rules to ≡ Some rule → next ≡ added_users to users rule.callees → AreUsersTo count rules next (to + 1)
users_go count rules users next to rule u there e =
    let s = u.long in
    record {
      long = ap length e ∙ added_long to users rule.callees ∙ u.long;
      same = λ n k other l low at. elim (cases_eq k to) [
        | inl same ↦
            let one : other ≡ rule = same_Some other rule (sym at ∙ ap (slice_get rules) same ∙ there) in
            let a = ap (λ z. occurs z (get_or next n [])) same in
            let b = ap (λ z. occurs to (get_or z n [])) e in
            let c = added_here to n users rule.callees (omega (arith, l, s)) in
            let d = u.none n to l (omega arith) in
            let f = ap (λ (z : Rule). occurs n z.callees) one in omega (arith, a, b, c, d, f)
        | inr apart ↦
            ap (λ z. occurs k (get_or z n [])) e ∙ added_beside to k n users rule.callees apart (omega (arith, l, s)) ∙
            u.same n k other l (omega (arith, low, apart)) at
      ];
      none = λ n k l high.
          ap (λ z. occurs k (get_or z n [])) e ∙
          added_beside to k n users rule.callees (λ same. omega (arith, high, same)) (omega (arith, l, s)) ∙ u.none n k l (omega (arith, high));
    }

pub users_end : (count : ℕ) (rules : List Rule) (users : List (List ℕ)) (to : ℕ) → AreUsersTo count rules users to → length rules ≡ to →
    AreUsers count rules users
users_end count rules users to u past =
    let l = past in
    record {
      long = u.long;
      inside = λ n k row at c. elim (le_or_lt (length rules) k) [
        | inr low ↦ low
        | inl high ↦
            let w = slice_get_within users n row at in
            let s = u.long in
            let a = occurs_in k row c in
            let r = ap (occurs k) (get_or_from_slice_get users n row [] at) in
            let b = u.none n k (omega (arith, w, s)) (omega (arith, high, past)) in absurd (omega (arith, a, b, r))
      ];
      same = λ n k row rule at there.
          let w = slice_get_within users n row at in
          let s = u.long in
          let m = slice_get_within rules k rule there in
          sym (ap (occurs k) (get_or_from_slice_get users n row [] at)) ∙ u.same n k rule (omega (arith, w, s)) (omega (arith, m, l)) there;
    }

-- the rules begin
pub works_begin : (rules : List Rule) (count : ℕ) (work : Work) → work.marks.items ≡ replicate count false → work.found.items ≡ [] →
    work.left.items ≡ [] → IsWork rules count 0 work (λ k. 0)
works_begin rules count work marks found left =
    record {
      made = record {
        long = ap length marks ∙ length-replicate count false;
        same = λ n. (
          λ h. absurd (never_marked count n (ap (λ z. is_marked z n) (sym marks) ∙ h)),
          λ c. absurd (none_in_nil n (subst (λ z. Contains z n) found c)),
        );
        counted = ap count_marks marks ∙ none_counted count ∙ sym (ap length found);
        once = λ n. let e = ap (occurs n) found in omega (arith, e);
        sound = λ n c. absurd (none_in_nil n (subst (λ z. Contains z n) found c));
      };
      long = ap length left;
      left_is = λ k rule low. absurd (omega (arith, low));
      closed = λ k rule low. absurd (omega (arith, low));
    }
  where
    none_counted : (n : ℕ) → count_marks (replicate n false) ≡ 0
    none_counted zero = refl
    none_counted (suc n) = none_counted n

module _ (rules : List Rule) (count to : ℕ) (rule : Rule) (old new : Work) (w : IsWork rules count to old (λ k. 0)) (b : Begins rule old new)
    (there : slice_get rules to ≡ Some rule) (inside : AreInside count rules) where
  begun_made : AreMade rules count b.mid.marks.items b.mid.found.items
  begun_made =
      subst (λ z. AreMade rules count z b.mid.found.items) (sym b.marks) (subst (λ z. AreMade rules count old.marks.items z) (sym b.found) w.made)

  begun_left : (k : ℕ) → k < to → get_or b.mid.left.items k 0 ≡ get_or old.left.items k 0
  begun_left k low =
      let l = w.long in
      ap (λ z. get_or z k 0) b.left ∙ get_or_append_left old.left.items (length rule.callees ∷ []) 0 k (omega (arith, low, l))

  begun_own : (k : ℕ) → k ≡ to → get_or b.mid.left.items k 0 ≡ length rule.callees
  begun_own k same = ap (λ z. get_or z k 0) b.left ∙ get_or_push old.left.items (length rule.callees) 0 k (w.long ∙ sym same)

  one_rule : (k : ℕ) (other : Rule) → k ≡ to → slice_get rules k ≡ Some other → other ≡ rule
  one_rule k other same at = same_Some other rule (sym at ∙ ap (slice_get rules) same ∙ there)

  begun_counts : (k : ℕ) (other : Rule) → k < to + 1 → slice_get rules k ≡ Some other → get_or b.mid.left.items k 0 ≡ length other.callees - 0
  begun_counts k other low at = elim (below_or_at k to low) [
    | inl less ↦ begun_left k less ∙ w.left_is k other less at
    | inr same ↦
        let a = begun_own k same in
        let c = ap (λ (z : Rule). length z.callees) (one_rule k other same at) in omega (arith, a, c)
  ]

  begun_long : length b.mid.left.items ≡ to + 1
  begun_long = ap length b.left ∙ length_push old.left.items (length rule.callees) ∙ ap (λ z. z + 1) w.long

  empty_or : (xs : List ℕ) → (xs ≡ []) ⊎ ((xs ≡ [] → ⊥) × (length xs ≡ 0 → ⊥))
  empty_or [] = inl refl
  empty_or (x ∷ xs) = inr (λ e. cc, λ e. omega (arith, e))

  pub works_go : IsWork rules count (to + 1) new (λ k. 0)
  works_go = elim (empty_or rule.callees) [
    | inl none ↦
        let marking = b.spent none in
        let derived : IsDerived rules rule.head =
        derive to rule.head rule there refl (λ m c. absurd (none_in_nil m (subst (λ z. Contains z m) none c))) in
        let m = marks_more rules count rule.head b.mid new begun_made (inside.heads to rule there) derived marking in
        record {
          made = m.made;
          long = ap length marking.left ∙ begun_long;
          left_is = λ k other low at. ap (λ z. get_or z k 0) marking.left ∙ begun_counts k other low at;
          closed = λ k other low at e. elim (below_or_at k to low) [
            | inl less ↦
                m.still other.head
                (ap (λ z. is_marked z other.head) b.marks ∙
                w.closed k other less at (sym (begun_left k less) ∙ sym (ap (λ z. get_or z k 0) marking.left) ∙ e))
            | inr same ↦ ap (λ (z : Rule). is_marked new.marks.items z.head) (one_rule k other same at) ∙ m.own
          ];
        }
    | inr some ↦
        subst (λ z. IsWork rules count (to + 1) z (λ k. 0)) (sym (b.not_spent some.0))
        (record {
          made = begun_made;
          long = begun_long;
          left_is = begun_counts;
          closed = λ k other low at e. elim (below_or_at k to low) [
            | inl less ↦ ap (λ z. is_marked z other.head) b.marks ∙ w.closed k other less at (sym (begun_left k less) ∙ e)
            | inr same ↦ absurd (some.1 (sym (begun_own k same) ∙ e))
          ];
        })
  ]

-- what the code reads
pub read_member : {X : Type 0} (xs : List X) (i : ℕ) (x : X) → i < length xs → x ≡ get_or xs i x → slice_get xs i ≡ Some x
read_member xs i x within read = slice_get-get_or xs i x within ∙ ap Some (sym read)

pub found_below : (rules : List Rule) (count to : ℕ) (work : Work) (used : ℕ → ℕ) → IsWork rules count to work used → (n : ℕ) →
    Contains work.found.items n → n < count
found_below rules count to work used w n c =
    let m = marked_below work.marks.items n ((w.made.same n).1 c) in
    let l = w.made.long in omega (arith, m, l)
  where
    marked_below : (marks : List Bool) (k : ℕ) → is_marked marks k ≡ true → k < length marks
    marked_below [] k e = absurd (cc)
    marked_below (x ∷ xs) zero e = omega arith
    marked_below (x ∷ xs) (suc k) e = let l = marked_below xs k e in omega (arith, l)

pub ends_derived : (rules : List Rule) (count turn : ℕ) (users : List (List ℕ)) (work : Work) → AreUsers count rules users → AreInside count rules →
    IsWork rules count (length rules) work (used_by users (take turn work.found.items)) → length work.found.items ≤ turn →
    MarkDerived count rules work.marks.items
ends_derived rules count turn users work a inside w l =
    record { long = w.made.long; same = all_derived count rules users a inside work turn w l }

pub stops_derived : (rules : List Rule) (count turn : ℕ) (users : List (List ℕ)) (work : Work) → AreUsers count rules users → AreInside count rules →
    IsWork rules count (length rules) work (used_by users (take turn work.found.items)) → slice_get work.found.items turn ≡ None →
    MarkDerived count rules work.marks.items
stops_derived rules count turn users work a inside w e = ends_derived rules count turn users work a inside w (past_end work.found.items turn e)

pub few_found : (rules : List Rule) (count to : ℕ) (work : Work) (used : ℕ → ℕ) → IsWork rules count to work used →
    length work.found.items ≤ count
few_found rules count to work used w =
    let a = count_few work.marks.items in
    let b = w.made.counted in
    let c = w.made.long in omega (arith, a, b, c)

pub false_not_true : false ≡ true → ⊥
false_not_true e = cc
