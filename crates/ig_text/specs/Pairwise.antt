-- Lists that belong together place by place.
use Rattle.std.specs.Prelude.{List, [], ◌∷◌}

-- the two lists are equally long, and what stands at one place belongs together
pub data Each {X Y : Type 0} (P : X → Y → Type 0) : List X → List Y → Type 0 where
  none : Each P [] []
  more : (x : X) (y : Y) (xs : List X) (ys : List Y) → P x y → Each P xs ys → Each P (x ∷ xs) (y ∷ ys)
