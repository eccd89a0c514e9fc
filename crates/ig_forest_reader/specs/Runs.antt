-- Runs of bytes of one kind.
use Rattle.std.specs.Prelude.{◌≡◌, ℕ, ◌<◌, ◌≤◌, List, [], ◌∷◌, Bool, nat_lt, not, ◌==◌, ◌&&◌, MatchOption, Option, drop, take}
use denote.Ref.{Bor}

-- each member has the property
pub data Each (P : ℕ → Type 0) : List ℕ → Type 0 where
  none : Each P []
  more : (c : ℕ) (cs : List ℕ) → P c → Each P cs → Each P (c ∷ cs)

-- the list doesn't begin with a member that has it
pub data Stops (P : ℕ → Type 0) : List ℕ → Type 0 where
  at_end : Stops P []
  at : (c : ℕ) (cs : List ℕ) → (P c → ⊥) → Stops P (c ∷ cs)

-- digits
abbrev pub IsDigit : ℕ → Type 0
IsDigit c = (48 ≤ c) × (c < 58)

-- there are digits, of which the first is no zero before others
abbrev pub LeadsWell : List ℕ → Type 0
LeadsWell [] = ⊥
LeadsWell (c ∷ []) = Unit {0}
LeadsWell (c ∷ d ∷ ds) = c ≡ 48 → ⊥

-- what the texts of values are made of: no comma, blank or closing bracket
abbrev pub IsInner : ℕ → Type 0
IsInner c = (44 < c) × (c ≡ 93 → ⊥)

abbrev pub is_inner : ℕ → Bool
is_inner c = nat_lt 44 c && not (c == 93)

-- bytes that names and tags have
abbrev pub IsPlain : ℕ → Type 0
IsPlain c = 32 < c

-- what the line of an entry begins with, and the line of an item doesn't
abbrev pub NoItem : ℕ → Type 0
NoItem c = c ≡ 105 → ⊥

-- what the line of an alternative begins with
abbrev pub IsChoice : ℕ → Type 0
IsChoice c = c ≡ 97

abbrev pub IsComma : ℕ → Type 0
IsComma c = c ≡ 44

-- the number is that of the digits before place i, and after it stands what begins there; none where these digits don't lead well
abbrev pub IsBefore : List ℕ → ℕ → ℕ → Option (ℕ × Bor (List ℕ)) → Type 0
IsBefore bytes i number result =
    MatchOption result (LeadsWell (take i bytes) → ⊥)
    (λ r. LeadsWell (take i bytes) × (r.0 ≡ number) × (r.1.now ≡ drop i bytes))
