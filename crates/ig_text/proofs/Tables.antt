-- Tables: lists of keys, each with what stands beside it.
use Rattle.std.proofs.Common.{◌≡◌, List, [], ◌∷◌, Bool, true, false, cond, ◌&&◌, Option, Some, refl}
use Rattle.std.specs.Map.{lookup}
use Rattle.std.proofs.lemmas.Bool.{and_parts}

-- the test passes for each row
abbrev pub all_rows : {K A : Type 0} → (K → A → Bool) → List (K × A) → Bool
all_rows test [] = true
all_rows test (row ∷ rows) = test row.0 row.1 && all_rows test rows

-- the key of a row that is found
pub record Row {K A : Type 0} (is_key : K → Bool) (test : K → A → Bool) (x : A) : Type 0 where
  pub key : K
  pub found : is_key key ≡ true
  pub passes : test key x ≡ true

one_row : {K A : Type 0} (is_key : K → Bool) (test : K → A → Bool) (k : K) (y x : A) (rest : Option A) (b : Bool) →
    is_key k ≡ b → test k y ≡ true → (rest ≡ Some x → Row is_key test x) → cond b (Some y) rest ≡ Some x →
    Row is_key test x
one_row is_key test k y x rest true e t other h =
    let same : y ≡ x = let s : Some y ≡ Some x = h in cc in
    record { key = k; found = e; passes = rw (← same) t }
one_row is_key test k y x rest false e t other h = other h

-- what holds of all rows of a table holds of the one that is found
pub found_row : {K A : Type 0} (is_key : K → Bool) (test : K → A → Bool) (rows : List (K × A)) (x : A) →
    all_rows test rows ≡ true → lookup is_key rows ≡ Some x → Row is_key test x
found_row is_key test [] x all h = absurd (cc)
found_row is_key test (row ∷ rows) x all h =
    let parts = and_parts (test row.0 row.1) (all_rows test rows) all in
    one_row is_key test row.0 row.1 x (lookup is_key rows) (is_key row.0) refl parts.0
    (found_row is_key test rows x parts.1) h
