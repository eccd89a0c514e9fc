-- What the places of a chunk own and lend, at values of the row R.
use Rattle.std.specs.Prelude.{ℕ, ◌*◌, ◌^◌, List, length}
use Rattle.std.specs.Mem.{type_size}
use base.Fml.{Fml, Lft, fsep, flt}
use mir.Syntax.{Ty}
use denote.RattleType.{RattleType}
use denote.RawPtr.{Ptr, in_block}
use denote.Array.{Array}
use denote.Sharing.{said, beside}
use denote.Struct.Lending.{lent_at}
use Rattle.core.specs.Allocator.{block_with_items}

-- so many places take fewer than 2 ^ 63 bytes
abbrev pub small : RattleType → ℕ → Fml
small R count = flt (count * type_size R) (2 ^ 63)

-- a block of so many places: the first ones have the values, the others are room, and the token lets the block go back
abbrev pub places_owned : (Ty → Ptr → Fml) → (R : RattleType) → Ptr → ℕ → List R.Denot → Fml
places_owned token R at count values = fsep (small R count) (in_block at (block_with_items token R at (length values) count values))

-- a `&` to the places reaches the values, and neither the room nor the token
abbrev pub places_lent : (R : RattleType) → Ptr → ℕ → List R.Denot → Lft → Fml
places_lent R at count values = beside (said (small R count)) (lent_at (Array R (length values)) at values)
