-- What the places end as, where a reference to one of their values was lent.
use Rattle.std.specs.Prelude.{ℕ, List, slice_set}
use Rattle.std.specs.Borrow.{Lends, Fml, RattleType, MutBor}
use Rattle.std.specs.declared.alloc.Allocator.{Ghosts}
use Rattle.ig_chunk.specs.declared.places.Places.{Places}
use Rattle.ig_chunk.specs.contracts.places.Places.{the_row}

-- the same places with other values
abbrev pub with_values : {X A : Type 0} → Places X A → List X → Places X A
with_values p values = record { mark = p.mark; at = p.at; count = p.count; values = values; alloc = p.alloc }

module _ (R A : RattleType) (g : Ghosts A.Denot) (p : MutBor (Places R.Denot A.Denot)) (place : ℕ) where
  -- once the borrow ends, the place has the last value written through the reference
  abbrev pub lends_place : MutBor R.Denot → Fml
  lends_place r = Lends (the_row R A g) R p r (λ w. with_values p.now (slice_set p.now.values place w))
