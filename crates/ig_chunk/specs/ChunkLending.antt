-- What a chunk ends as, where a reference to one of its values was lent.
use Rattle.std.specs.Prelude.{ℕ, List, Option, slice_set}
use Rattle.std.specs.Borrow.{LendsIf, Fml, RattleType, MutBor}
use Rattle.ig_chunk.specs.contracts.chunk.Chunk.{the_row}

module _ (T : RattleType) (c : MutBor (List T.Denot)) (place : ℕ) where
  -- once the borrow ends, the place has the last value written through the reference; at `None` the chunk stays as it is
  abbrev pub lends_place : Option (MutBor T.Denot) → Fml
  lends_place r = LendsIf (the_row T) T c r (slice_set c.now place) c.now
