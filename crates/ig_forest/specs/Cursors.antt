-- Cursors, and their order.
use Rattle.std.specs.Prelude.{◌≡◌, ℕ, ◌<◌, List, [], ◌∷◌}
use Rattle.std.specs.List.{All}
use Rattle.ig_text.specs.Limits.{numbers_end}

-- each number of the cursor has 32 bits
abbrev pub IsShortCursor : List ℕ → Type 0
IsShortCursor = All (λ n. n < numbers_end)

-- the order of lists of numbers: the first difference decides, and a list that goes on comes behind one that ends
pub data Less : List ℕ → List ℕ → Type 0 where
  shorter : (j : ℕ) (ds : List ℕ) → Less [] (j ∷ ds)
  here : (i j : ℕ) (cs ds : List ℕ) → i < j → Less (i ∷ cs) (j ∷ ds)
  later : (i j : ℕ) (cs ds : List ℕ) → i ≡ j → Less cs ds → Less (i ∷ cs) (j ∷ ds)
