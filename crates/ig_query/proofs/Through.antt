-- What loops over lists keep.
use Rattle.std.proofs.Common.{◌≡◌, ◌↔◌, ◌⊎◌, ⊎_elim, inl, inr, ℕ, ◌+◌, ◌<◌, ◌≤◌, List, [], ◌∷◌, ◌++◌, Some, None, Option, max, length, take, get_or, Contains, refl, sym, ap, ◌∙◌, subst, arith}
use Rattle.std.specs.List.{filter_map, cons_option}
use Rattle.std.specs.Option.{option_to_list}
use Rattle.std.proofs.lemmas.List.{take_all, take_more}
use Rattle.std.proofs.lemmas.List.Elements.{filter_map-append, Contains-append_left, Contains-append_right, Contains-append_cases, Contains-push}
use Rattle.ig_text.proofs.Lists.{contains_from_at, contains_one, in_pushed, none_in_nil}
use Rattle.ig_text.proofs.Orders.{le_or_lt}

module _ {X : Type 0} where
  pub old_in : (zs : List X) (x y : X) → Contains zs y → Contains (zs ++ x ∷ []) y
  old_in zs x y c = Contains-append_left zs (x ∷ []) y c

  module _ (P : X → Type 0) where
    -- no member has the fact
    abbrev pub NoneHas : List X → Type 0
    NoneHas zs = (y : X) → Contains zs y → P y → ⊥

    pub none_has : NoneHas []
    none_has y c p = none_in_nil y c

    pub none_more : (zs : List X) (x : X) → NoneHas zs → (P x → ⊥) → NoneHas (zs ++ x ∷ [])
    none_more zs x none not y c p =
        ⊎_elim (λ d. none y d p) (λ e. not (subst P e p)) (in_pushed zs x y c)

    module _ (place : X → ℕ) where
      -- the greatest place of those that have the fact, and 0 where none does
      pub record IsMost (zs : List X) (m : ℕ) : Type 0 where
        pub greatest : (y : X) → Contains zs y → P y → place y ≤ m
        pub reached : ((y : X) × Contains zs y × P y × (place y ≡ m)) ⊎ (NoneHas zs × (m ≡ 0))

      pub most_none : IsMost [] 0
      most_none = record { greatest = λ y c p. absurd (none_in_nil y c); reached = inr (none_has, refl) }

      pub most_without : (zs : List X) (x : X) (m : ℕ) → IsMost zs m → (P x → ⊥) → IsMost (zs ++ x ∷ []) m
      most_without zs x m most not =
          record {
            greatest = λ y c p. ⊎_elim (λ d. most.greatest y d p) (λ e. absurd (not (subst P e p))) (in_pushed zs x y c);
            reached =
                ⊎_elim (λ r. inl (r.0, old_in zs x r.0 r.1, r.2, r.3)) (λ n. inr (none_more zs x n.0 not, n.1)) most.reached;
          }

      pub most_with : (zs : List X) (x : X) (m n : ℕ) → IsMost zs m → P x → n ≡ max m (place x) → IsMost (zs ++ x ∷ []) n
      most_with zs x m n most p is =
          record {
            greatest = λ y c q.
                ⊎_elim (λ d. let low = most.greatest y d q in omega (arith, low, is))
                (λ e. let same : place y ≡ place x = ap place e in omega (arith, same, is)) (in_pushed zs x y c);
            reached = highest (le_or_lt (place x) m);
          }
        where
          highest : (place x ≤ m) ⊎ (m < place x) → ((y : X) × Contains (zs ++ x ∷ []) y × P y × (place y ≡ n)) ⊎ (NoneHas (zs ++ x ∷ []) × (n ≡ 0))
          highest (inr lt) = inl (x, Contains-push zs x, p, omega (arith, lt, is))
          highest (inl le) =
              ⊎_elim (λ r. inl (r.0, old_in zs x r.0 r.1, r.2, let at = r.3 in omega (arith, at, le, is)))
              (λ e. let zero_is = e.1 in inl (x, Contains-push zs x, p, omega (arith, zero_is, le, is))) most.reached

  -- the list has what g gives of those members that have the fact
  module _ {Y : Type 0} (P : X → Type 0) (g : X → Y) where
    abbrev pub IsImage : List X → List Y → Type 0
    IsImage zs ds = (d : Y) → Contains ds d ↔ ((y : X) × Contains zs y × P y × (g y ≡ d))

    pub image_none : IsImage [] []
    image_none d = (λ c. absurd (none_in_nil d c), λ r. absurd (none_in_nil r.0 r.1))

    pub image_without : (zs : List X) (x : X) (ds : List Y) → IsImage zs ds → (P x → ⊥) → IsImage (zs ++ x ∷ []) ds
    image_without zs x ds image not d = (
      λ c. let r = (image d).0 c in (r.0, old_in zs x r.0 r.1, r.2, r.3),
      λ r. ⊎_elim (λ h. (image d).1 (r.0, h, r.2, r.3)) (λ e. absurd (not (subst P e r.2))) (in_pushed zs x r.0 r.1),
    )

    pub image_with : (zs : List X) (x : X) (ds es : List Y) → IsImage zs ds → P x →
        ((d : Y) → Contains es d ↔ (Contains ds d ⊎ (d ≡ g x))) → IsImage (zs ++ x ∷ []) es
    image_with zs x ds es image p more d = (
      λ c. ⊎_elim (λ h. let r = (image d).0 h in (r.0, old_in zs x r.0 r.1, r.2, r.3)) (λ e. (x, Contains-push zs x, p, sym e)) ((more d).0 c),
      λ r. (more d).1 (⊎_elim (λ h. inl ((image d).1 (r.0, h, r.2, r.3))) (λ e. inr (sym r.3 ∙ ap g e)) (in_pushed zs x r.0 r.1)),
    )

-- members of what a partial function gives
from_cons : {Y : Type 0} (o : Option Y) (rest : List Y) (y : Y) → Contains (cons_option o rest) y → (o ≡ Some y) ⊎ Contains rest y
from_cons None rest y c = inr c
from_cons (Some w) rest y c = ⊎_elim (λ h. inl (ap Some (sym (contains_one w y h)))) (λ h. inr h) (Contains-append_cases (w ∷ []) rest y c)

behind_cons : {Y : Type 0} (o : Option Y) (rest : List Y) (y : Y) → Contains rest y → Contains (cons_option o rest) y
behind_cons None rest y c = c
behind_cons (Some w) rest y c = Contains-append_right (w ∷ []) rest y c

at_cons : {Y : Type 0} (o : Option Y) (rest : List Y) (y : Y) → o ≡ Some y → Contains (cons_option o rest) y
at_cons o rest y e =
    subst (λ (v : Option _). Contains (cons_option v rest) y) (sym e) (contains_from_at (y ∷ rest) 0 y refl)

pub from_filter_map : {X Y : Type 0} (h : X → Option Y) (xs : List X) (y : Y) → Contains (filter_map h xs) y →
    (x : X) × Contains xs x × (h x ≡ Some y)
from_filter_map h [] y c = absurd (none_in_nil y c)
from_filter_map h (x ∷ xs) y c =
    let rest : Contains (filter_map h xs) y → (z : _) × Contains xs z × (h z ≡ Some y) = from_filter_map h xs y in
    ⊎_elim (λ e. (x, contains_from_at (x ∷ xs) 0 x refl, e))
    (λ d. let r = rest d in (r.0, Contains-append_right (x ∷ []) xs r.0 r.1, r.2)) (from_cons (h x) (filter_map h xs) y c)

pub to_filter_map : {X Y : Type 0} (h : X → Option Y) (xs : List X) (x : X) (y : Y) → Contains xs x → h x ≡ Some y →
    Contains (filter_map h xs) y
to_filter_map h [] x y c e = absurd (none_in_nil x c)
to_filter_map h (z ∷ zs) x y c e =
    let rest : Contains zs x → Contains (filter_map h zs) y = λ d. to_filter_map h zs x y d e in
    ⊎_elim (λ d. at_cons (h z) (filter_map h zs) y (ap h (sym (contains_one z x d)) ∙ e)) (λ d. behind_cons (h z) (filter_map h zs) y (rest d))
    (Contains-append_cases (z ∷ []) zs x c)

-- a whole list, once the loop is behind it
pub all_through : {X : Type 0} (P : List X → Type 0) (k : ℕ) (xs : List X) → length xs ≤ k → P (take k xs) → P xs
all_through P k xs le p = subst P (take_all k xs le) p

cons_alone : {Y : Type 0} (o : Option Y) → cons_option o [] ≡ option_to_list o
cons_alone None = refl
cons_alone (Some y) = refl

-- what a partial function gives of one more member
pub filter_next : {X Y : Type 0} (h : X → Option Y) (xs : List X) (i : ℕ) (x : X) (ps qs : List Y) → i < length xs →
    ps ≡ filter_map h (take i xs) → qs ≡ ps ++ option_to_list (h (get_or xs i x)) → qs ≡ filter_map h (take (i + 1) xs)
filter_next h xs i x ps qs lt so_far more =
    more ∙ ap (λ z. z ++ option_to_list (h (get_or xs i x))) so_far ∙
    ap (λ z. filter_map h (take i xs) ++ z) (sym (cons_alone (h (get_or xs i x)))) ∙
    sym (filter_map-append h (take i xs) (get_or xs i x ∷ [])) ∙ ap (filter_map h) (sym (take_more xs i x lt))
