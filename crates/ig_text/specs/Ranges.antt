-- Ranges of characters, and their normal form. A character is its number; a range is its first and its last character.
use Rattle.std.specs.Prelude.{◌≡◌, ℕ, ◌+◌, ◌≤◌, List, [], ◌∷◌, Bool, ◌&&◌, Some, nat_le, nat_lt, min, max, if◌then◌else◌}
use Rattle.std.specs.List.{All, list_any, slice_get}

-- no range falls
abbrev pub NoneFalls : List (ℕ × ℕ) → Type 0
NoneFalls = All (λ r. r.0 ≤ r.1)

-- the first characters ascend from low on, and no range falls
abbrev pub Ascends : ℕ → List (ℕ × ℕ) → Type 0
Ascends low [] = Unit {0}
Ascends low (r ∷ rest) = (low ≤ r.0) × (r.0 ≤ r.1) × Ascends r.0 rest

-- the number lies in the range
abbrev pub is_within : ℕ × ℕ → ℕ → Bool
is_within r c = nat_le r.0 c && nat_le c r.1

-- the number lies in one of the ranges
abbrev pub is_among : List (ℕ × ℕ) → ℕ → Bool
is_among ranges c = list_any (λ r. is_within r c) ranges

-- each of the truth values says of its place whether that number lies in one of the ranges
abbrev pub KnowsFirst : List (ℕ × ℕ) → List Bool → Type 0
KnowsFirst ranges known = (c : ℕ) (b : Bool) → slice_get known c ≡ Some b → b ≡ is_among ranges c

-- the first range begins at low or later, none falls, and between two neighbours at least one number is free
abbrev pub IsNormalFrom : ℕ → List (ℕ × ℕ) → Type 0
IsNormalFrom low [] = Unit {0}
IsNormalFrom low (r ∷ rest) = (low ≤ r.0) × (r.0 ≤ r.1) × IsNormalFrom (r.1 + 2) rest

-- the ranges are in normal form, and have the numbers of the pairs
pub record IsNormalFormOf (pairs ranges : List (ℕ × ℕ)) : Type 0 where
  pub normal : IsNormalFrom 0 ranges
  pub members : (c : ℕ) → is_among ranges c ≡ is_among pairs c

-- pairs have at most one normal form
abbrev pub HasOneNormalForm : Type 0
HasOneNormalForm =
    (pairs xs ys : List (ℕ × ℕ)) → IsNormalFormOf pairs xs → IsNormalFormOf pairs ys → xs ≡ ys

-- a range is put among ranges in normal form, and joined with those that it overlaps or touches
abbrev pub with_range : ℕ × ℕ → List (ℕ × ℕ) → List (ℕ × ℕ)
with_range r [] = r ∷ []
with_range r (s ∷ rest) =
    if nat_lt (r.1 + 1) s.0 then r ∷ s ∷ rest
    else (if nat_lt (s.1 + 1) r.0 then s ∷ with_range r rest else with_range (min r.0 s.0, max r.1 s.1) rest)

-- the normal form of pairs of which none falls
abbrev pub normal_form : List (ℕ × ℕ) → List (ℕ × ℕ)
normal_form [] = []
normal_form (r ∷ pairs) = with_range r (normal_form pairs)

-- the normal form is in normal form, and has the numbers of the pairs
abbrev pub NormalFormIsNormal : Type 0
NormalFormIsNormal = (pairs : List (ℕ × ℕ)) → NoneFalls pairs → IsNormalFormOf pairs (normal_form pairs)

-- ranges in normal form are their own normal form
abbrev pub NormalRangesStay : Type 0
NormalRangesStay = (ranges : List (ℕ × ℕ)) → IsNormalFrom 0 ranges → normal_form ranges ≡ ranges
