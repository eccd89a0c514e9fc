-- Members and places of lists: of beginnings and ranges, of lists one behind the other, of mapped lists.
use Rattle.std.proofs.Common.{◌≡◌, ◌⊎◌, ℕ, zero, suc, ◌+◌, ◌<◌, ◌≤◌, List, [], ◌∷◌, ◌++◌, Some, None, length, take, drop, get_or, Contains, slice_get, refl, sym, ap, ◌∙◌, inl, inr, ⊎_elim, arith, length-drop, ◌-◌, map, subst}
use Rattle.std.specs.Prelude.{All, slice_range, option_map}
use Rattle.std.specs.List.{AllByRecursion}
use Rattle.std.proofs.lemmas.List.{append_assoc, take_more, drop-append-le, take-append-le}
use Rattle.std.proofs.lemmas.List.Elements.{All-contains, All-nil, All-cons, All-head, All-tail, Contains-push, Contains-push_cases}
use Rattle.std.proofs.lemmas.Option.{slice_get-get_or, same_Some, slice_get_within, get_or_from_slice_get, slice_get-map}
use Rattle.std.proofs.Math.Seq.{take-length, drop-append_seam}

module _ {X : Type 0} where
  -- a member stands at some place
  pub at_from_contains : (xs : List X) (x : X) → Contains xs x → (k : ℕ) × (slice_get xs k ≡ Some x)
  at_from_contains xs x c = (c.0, slice_get-get_or xs c.0 x c.1 ∙ ap Some c.2)

  -- what stands at a place is a member
  pub contains_from_at : (xs : List X) (k : ℕ) (x : X) → slice_get xs k ≡ Some x → Contains xs x
  contains_from_at xs k x e = (k, slice_get_within xs k x e, get_or_from_slice_get xs k x x e)

  -- the empty list has no member
  pub none_in_nil : (x : X) → Contains [] x → ⊥
  none_in_nil x h = omega (arith, h.1)

  -- the first member is one
  pub contains_first : (x : X) (xs : List X) → Contains (x ∷ xs) x
  contains_first x xs = contains_from_at (x ∷ xs) 0 x refl

  -- and so is each of the others
  pub contains_later : (x : X) (xs : List X) (y : X) → Contains xs y → Contains (x ∷ xs) y
  contains_later x xs y m = let at = at_from_contains xs y m in contains_from_at (x ∷ xs) (suc at.0) y at.1

  -- a member is the first one, or one of the others
  pub in_rest : (y : X) (ys : List X) (x : X) → Contains (y ∷ ys) x → (y ≡ x) ⊎ Contains ys x
  in_rest y ys x (zero, l, e) = inl e
  in_rest y ys x (suc k, l, e) = inr (k, (let h : suc k < suc (length ys) = l in omega (arith, h)), e)

  -- a list of one has no other member
  pub contains_one : (x y : X) → Contains (x ∷ []) y → y ≡ x
  contains_one x y h = one_at h.0 h.1 h.2
    where
      one_at : (k : ℕ) → k < length (x ∷ []) → get_or (x ∷ []) k y ≡ y → y ≡ x
      one_at zero within e = sym e
      one_at (suc k) within e = absurd (omega (arith, within))

  -- a place within a list has a value
  pub get_within : (xs : List X) (k : ℕ) → k < length xs → (x : X) × (slice_get xs k ≡ Some x)
  get_within [] k within = absurd (omega (arith, within))
  get_within (x ∷ xs) zero within = (x, refl)
  get_within (x ∷ xs) (suc k) within = get_within xs k (omega (arith, within))

  -- a place that has nothing is behind the list
  pub past_end : (xs : List X) (k : ℕ) → slice_get xs k ≡ None → length xs ≤ k
  past_end [] k e = omega arith
  past_end (x ∷ xs) zero e = cc
  past_end (x ∷ xs) (suc k) e = omega (arith, past_end xs k e)

  -- what a list of one has is its member
  pub only_one : (x y : X) (k : ℕ) → slice_get (x ∷ []) k ≡ Some y → x ≡ y
  only_one x y zero e = same_Some x y e
  only_one x y (suc k) e = cc

  -- a place in a beginning is before its end, and a place of the whole
  pub within_take : (xs : List X) (n m : ℕ) (x : X) → slice_get (take n xs) m ≡ Some x →
      (m < n) × (slice_get xs m ≡ Some x)
  within_take [] zero m x e = cc
  within_take [] (suc n) m x e = cc
  within_take (y ∷ xs) zero m x e = cc
  within_take (y ∷ xs) (suc n) zero x e = (omega arith, e)
  within_take (y ∷ xs) (suc n) (suc m) x e = let h = within_take xs n m x e in (omega (arith, h.0), h.1)

  -- a place of the whole before the end of a beginning is a place of that
  pub in_take : (xs : List X) (n m : ℕ) (x : X) → m < n → slice_get xs m ≡ Some x →
      slice_get (take n xs) m ≡ Some x
  in_take [] n m x lt e = cc
  in_take (y ∷ xs) zero m x lt e = absurd (omega arith)
  in_take (y ∷ xs) (suc n) zero x lt e = e
  in_take (y ∷ xs) (suc n) (suc m) x lt e = in_take xs n m x (omega arith) e

  -- a place of the first of two lists
  pub left_at : (xs ys : List X) (m : ℕ) (x : X) → slice_get xs m ≡ Some x →
      slice_get (xs ++ ys) m ≡ Some x
  left_at [] ys m x e = cc
  left_at (y ∷ xs) ys zero x e = e
  left_at (y ∷ xs) ys (suc m) x e = left_at xs ys m x e

  -- a place of the second of two lists
  pub right_at : (xs ys : List X) (n m : ℕ) (x : X) → n ≡ length xs + m → slice_get ys m ≡ Some x →
      slice_get (xs ++ ys) n ≡ Some x
  right_at [] ys n m x n_is e = let same : n ≡ m = omega arith in ap (slice_get ys) same ∙ e
  right_at (y ∷ xs) ys zero m x n_is e = absurd (omega arith)
  right_at (y ∷ xs) ys (suc n) m x n_is e = right_at xs ys n m x (omega arith) e

  -- a place of two lists is a place of one of them
  pub sides : (xs ys : List X) (n : ℕ) (x : X) → slice_get (xs ++ ys) n ≡ Some x →
      (slice_get xs n ≡ Some x) ⊎ ((m : ℕ) × (n ≡ length xs + m) × (slice_get ys m ≡ Some x))
  sides [] ys n x e = inr (n, omega arith, e)
  sides (y ∷ xs) ys zero x e = inl e
  sides (y ∷ xs) ys (suc n) x e =
      ⊎_elim (λ h. inl h) (λ h. inr (h.0, omega (arith, h.1), h.2)) (sides xs ys n x e)

  -- the same, the place behind what stands there
  pub either_place : (xs ys : List X) (k : ℕ) (x : X) → slice_get (xs ++ ys) k ≡ Some x →
      (slice_get xs k ≡ Some x) ⊎ ((m : ℕ) × (slice_get ys m ≡ Some x) × (k ≡ length xs + m))
  either_place xs ys k x e = ⊎_elim (λ p. inl p) (λ p. inr (p.0, p.2, p.1)) (sides xs ys k x e)

  -- where two lists one behind the other are empty, each is
  pub both_empty : (xs ys : List X) → xs ++ ys ≡ [] → (xs ≡ []) × (ys ≡ [])
  both_empty [] ys e = (refl, e)
  both_empty (x ∷ xs) ys e = cc

  -- the last place of a list with one more at the end
  pub place_last : (xs : List X) (y : X) → slice_get (xs ++ y ∷ []) (length xs) ≡ Some y
  place_last [] y = refl
  place_last (z ∷ zs) y = place_last zs y

  -- a place of a list with one more at the end is an earlier one, or the last
  pub place_cases : (xs : List X) (y x : X) (k : ℕ) → slice_get (xs ++ y ∷ []) k ≡ Some x →
      (slice_get xs k ≡ Some x) ⊎ ((k ≡ length xs) × (y ≡ x))
  place_cases [] y x zero e = inr (refl, cc)
  place_cases [] y x (suc k) e = cc
  place_cases (z ∷ zs) y x zero e = inl e
  place_cases (z ∷ zs) y x (suc k) e =
      elim (place_cases zs y x k e) [ inl p ↦ inl p | inr p ↦ inr (ap suc p.0, p.1) ]

  -- a member of a list with one more at the end is an earlier one, or the last
  pub in_pushed : (xs : List X) (y x : X) → Contains (xs ++ y ∷ []) x → Contains xs x ⊎ (x ≡ y)
  in_pushed xs y x c = ⊎_elim (λ h. inl h) (λ h. inr (sym h)) (Contains-push_cases xs y x c)

  -- a list is empty, or has a last member
  pub last_cases : (xs : List X) →
      (xs ≡ []) ⊎ ((before : List X) × ((last : X) × (xs ≡ before ++ last ∷ [])))
  last_cases [] = inl refl
  last_cases (x ∷ xs) =
      elim (last_cases xs) [
        | inl e ↦ inr ([], (x, ap (λ (z : List _). x ∷ z) e))
        | inr p ↦ inr (x ∷ p.0, (p.1.0, ap (λ (z : List _). x ∷ z) p.1.1))
      ]

  -- a member of a beginning of the first of two lists
  pub left_before : (xs ys : List X) (n : ℕ) (x : X) → Contains (take n xs) x →
      Contains (take n (xs ++ ys)) x
  left_before xs ys n x c =
      let at = at_from_contains (take n xs) x c in
      let h = within_take xs n at.0 x at.1 in
      contains_from_at (take n (xs ++ ys)) at.0 x
      (in_take (xs ++ ys) n at.0 x h.0 (left_at xs ys at.0 x h.1))

  -- a member of a beginning of the second of two lists
  pub right_before : (xs ys : List X) (n m : ℕ) (x : X) → n ≡ length xs + m → Contains (take m ys) x →
      Contains (take n (xs ++ ys)) x
  right_before xs ys n m x n_is c =
      let at = at_from_contains (take m ys) x c in
      let h = within_take ys m at.0 x at.1 in
      let k = length xs + at.0 in
      contains_from_at (take n (xs ++ ys)) k x
      (in_take (xs ++ ys) n k x (omega (arith, h.0)) (right_at xs ys k at.0 x refl h.1))

  -- a member of the first of two lists, where the beginning ends in the second
  pub all_before : (xs ys : List X) (n m : ℕ) (x : X) → n ≡ length xs + m → Contains xs x →
      Contains (take n (xs ++ ys)) x
  all_before xs ys n m x n_is c =
      let at = at_from_contains xs x c in
      let lt = slice_get_within xs at.0 x at.1 in
      contains_from_at (take n (xs ++ ys)) at.0 x
      (in_take (xs ++ ys) n at.0 x (omega arith) (left_at xs ys at.0 x at.1))

  -- a member of a beginning is one of the whole
  pub among_all : (xs : List X) (i : ℕ) (x : X) → Contains (take i xs) x → Contains xs x
  among_all xs i x c =
      let at = at_from_contains (take i xs) x c in
      contains_from_at xs at.0 x (within_take xs i at.0 x at.1).1

  -- a beginning with the next member, which a place tells
  pub take_step : (xs : List X) (n : ℕ) (x : X) → slice_get xs n ≡ Some x →
      take (suc n) xs ≡ take n xs ++ x ∷ []
  take_step [] n x e = cc
  take_step (y ∷ xs) zero x e = ap (λ (z : X). z ∷ []) (same_Some y x e)
  take_step (y ∷ xs) (suc n) x e = ap (λ (zs : List X). y ∷ zs) (take_step xs n x e)

  -- the same, with the number as a loop has it
  pub take_at : (xs : List X) (n : ℕ) (x : X) → slice_get xs n ≡ Some x → take (n + 1) xs ≡ take n xs ++ x ∷ []
  take_at xs n x e = let next : n + 1 ≡ suc n = omega arith in ap (λ (k : ℕ). take k xs) next ∙ take_step xs n x e

  -- a beginning with the next member, as a loop has it
  pub take_next : (xs : List X) (i : ℕ) (x : X) → i < length xs → x ≡ get_or xs i x →
      take (i + 1) xs ≡ take i xs ++ x ∷ []
  take_next xs i x lt e = take_more xs i x lt ∙ ap (λ (z : X). take i xs ++ z ∷ []) (sym e)

  -- a list is its beginning and what is behind it
  pub split_at : (n : ℕ) (xs : List X) → xs ≡ take n xs ++ drop n xs
  split_at zero xs = refl
  split_at (suc n) [] = refl
  split_at (suc n) (x ∷ xs) = ap (λ (ys : List _). x ∷ ys) (split_at n xs)

  -- what the first of the members behind a beginning says of the list
  pub record Stands (xs : List X) (n : ℕ) (x : X) (rest : List X) : Type 0 where
    pub here : slice_get xs n ≡ Some x
    pub after : drop (suc n) xs ≡ rest
    pub within : n < length xs

  -- the first of the members behind a beginning stands at its end
  pub stands : (xs : List X) (n : ℕ) (x : X) (rest : List X) → drop n xs ≡ x ∷ rest → Stands xs n x rest
  stands [] zero x rest e = cc
  stands [] (suc n) x rest e = cc
  stands (y ∷ xs) zero x rest e = record { here = cc; after = cc; within = omega arith }
  stands (y ∷ xs) (suc n) x rest e =
      let h = stands xs n x rest e in
      record { here = h.here; after = h.after; within = omega (arith, h.within) }

  -- behind the whole list is nothing
  pub at_end : (xs : List X) (n : ℕ) → n ≤ length xs → drop n xs ≡ [] → n ≡ length xs
  at_end xs n within e = omega (arith, within, length-drop n xs, ap length e)

  -- what holds of all of two lists holds of all of each
  pub halves : (P : X → Type 0) (xs ys : List X) → All P (xs ++ ys) → All P xs × All P ys
  halves P [] ys all = (All-nil P, all)
  halves P (x ∷ xs) ys all =
      let rest = halves P xs ys (All-tail P x (xs ++ ys) all) in
      (All-cons P x xs (All-head P x (xs ++ ys) all) rest.0, rest.1)

  -- what holds of all apart holds of all together
  pub all_both : (P Q : X → Type 0) (xs : List X) → All P xs → All Q xs → All (λ x. P x × Q x) xs
  all_both P Q xs a b k d within = (a k d within, b k d within)

  -- what holds of all holds of the last
  pub last_of : (P : X → Type 0) (xs : List X) (y : X) → All P (xs ++ y ∷ []) → P y
  last_of P xs y h = All-contains P (xs ++ y ∷ []) y h (Contains-push xs y)

  -- a list in brackets, of which the last stands before the rest
  pub closed_text : (front : List X) (stop : X) (inside rest : List X) →
      (front ++ (inside ++ stop ∷ [])) ++ rest ≡ front ++ (inside ++ stop ∷ rest)
  closed_text front stop inside rest =
      append_assoc front (inside ++ stop ∷ []) rest ∙
      ap (λ (z : List X). front ++ z) (append_assoc inside (stop ∷ []) rest)

  -- the member of a list of one
  pub it_is_in : (x : X) → Contains (x ∷ []) x
  it_is_in x = contains_from_at (x ∷ []) 0 x refl

  -- a range of a list that grows stays
  pub range_left : (xs ys : List X) (a b : ℕ) → a ≤ b → b ≤ length xs →
      slice_range (xs ++ ys) a b ≡ slice_range xs a b
  range_left xs ys a b onward within =
      let few : b - a ≤ length (drop a xs) = omega (arith, length-drop a xs, within) in
      ap (take (b - a)) (drop-append-le a xs ys (omega (arith, onward, within))) ∙ take-append-le (b - a) (drop a xs) ys few

  -- the range of what was added
  pub range_right : (xs ys : List X) (a b : ℕ) → a ≡ length xs → b ≡ length xs + length ys →
      slice_range (xs ++ ys) a b ≡ ys
  range_right xs ys a b a_is b_is =
      let d : drop a (xs ++ ys) ≡ ys = ap (λ n. drop n (xs ++ ys)) a_is ∙ drop-append_seam xs ys in
      let n : b - a ≡ length ys = omega (arith, a_is, b_is) in
      ap (take (b - a)) d ∙ ap (λ m. take m ys) n ∙ take-length ys

module _ {X Y : Type 0} (f : X → Y) where
  -- what is made of a member is a member of the mapped list
  pub mapped_in : (xs : List X) (x : X) → Contains xs x → Contains (map f xs) (f x)
  mapped_in xs x c =
      let at = at_from_contains xs x c in
      contains_from_at (map f xs) at.0 (f x) (slice_get-map f xs at.0 ∙ ap (option_map f) at.1)

  -- what is made of a member stands at its place
  pub mapped_at : (xs : List X) (k : ℕ) (x : X) → slice_get xs k ≡ Some x → slice_get (map f xs) k ≡ Some (f x)
  mapped_at xs k x e = slice_get-map f xs k ∙ ap (option_map f) e

  -- what stands at a place of a mapped list is made of what stands there in the list
  pub unmapped_at : (xs : List X) (k : ℕ) (y : Y) → slice_get (map f xs) k ≡ Some y →
      (x : X) × (slice_get xs k ≡ Some x) × (f x ≡ y)
  unmapped_at [] k y e = cc
  unmapped_at (x ∷ xs) zero y e = (x, refl, same_Some (f x) y e)
  unmapped_at (x ∷ xs) (suc k) y e = unmapped_at xs k y e

  -- the same, what it is made of last
  pub from_map : (xs : List X) (k : ℕ) (y : Y) → slice_get (map f xs) k ≡ Some y →
      (x : X) × (slice_get xs k ≡ Some x) × (y ≡ f x)
  from_map xs k y e = let u = unmapped_at xs k y e in (u.0, u.1, sym u.2)

  -- a member of a mapped list is made of a member
  pub unmapped_in : (xs : List X) (y : Y) → Contains (map f xs) y → (x : X) × Contains xs x × (f x ≡ y)
  unmapped_in xs y c =
      let at = at_from_contains (map f xs) y c in
      let h = unmapped_at xs at.0 y at.1 in (h.0, contains_from_at xs at.0 h.0 h.1, h.2)

-- lists with equal first members and equal others are equal
paired : {Y : Type 0} {a b : Y} {us vs : List Y} → a ≡ b → us ≡ vs → a ∷ us ≡ b ∷ vs
paired e h = cc

-- a list is mapped by one function and by another one behind it
pub map_twice : {X Y Z : Type 0} (f : X → Y) (g : Y → Z) (xs : List X) → map g (map f xs) ≡ map (λ x. g (f x)) xs
map_twice f g [] = refl
map_twice f g (x ∷ xs) = ap (λ (z : List _). g (f x) ∷ z) (map_twice f g xs)

-- functions that are alike on the members map the list alike
pub same_map : {X Y : Type 0} (f g : X → Y) (xs : List X) → ((x : X) → Contains xs x → f x ≡ g x) → map f xs ≡ map g xs
same_map f g [] same = refl
same_map f g (x ∷ xs) same =
    paired (same x (contains_from_at (x ∷ xs) 0 x refl))
    (same_map f g xs
    (λ y c. let at = at_from_contains xs y c in same y (contains_from_at (x ∷ xs) (suc at.0) y at.1)))

-- what holds of each member holds of the one at a place
pub all_at : {X : Type 0} (P : X → Type 0) (xs : List X) (k : ℕ) (x : X) → AllByRecursion P xs → slice_get xs k ≡ Some x → P x
all_at P [] k x all e = cc
all_at P (y ∷ xs) zero x all e = subst P (same_Some y x e) all.0
all_at P (y ∷ xs) (suc k) x all e = all_at P xs k x all.1 e
