-- Items with their numbers, in chains by their hashes.
use Rattle.std.specs.Prelude.{ℕ, ◌+◌, ◌*◌, List, map, slice_index_or, bit_and}
use Rattle.ig_item.specs.declared.items.Item.{Item}
use Rattle.ig_run_tables.specs.Chained as chained
use Rattle.ig_run_tables.specs.declared.returned.Cell.{Cell}

-- the number by which an item is put into a bucket; why these factors, `src/returned.rt` says
unfoldable pub hash_of : Item → ℕ
hash_of x = x.position + x.instance * 0x2d933659 + x.alternative * 0x33333333 + x.dot * 0x55555555 + x.env * 0x1e1e1e1e

abbrev pub bucket_of : ℕ → Item → ℕ
bucket_of mask x = bit_and (hash_of x) mask

-- an item and its number
pub record Entry : Type 0 where
  pub item : Item
  pub number : ℕ

abbrev pub entry : Item → ℕ → Entry
entry item number = record { item = item; number = number }

abbrev pub entries_of : List Cell → List Entry
entries_of = map (λ c. entry c.item c.number)

abbrev pub nothing : Cell
nothing = record { item = record { instance = 0; alternative = 0; dot = 0; env = 0; position = 0 }; number = 0; next = 0 }

abbrev pub home_of : ℕ → Cell → ℕ
home_of mask c = bucket_of mask c.item

abbrev pub next_of : List Cell → ℕ → ℕ
next_of cells k = (slice_index_or cells k nothing).next

abbrev pub AreChained : ℕ → ℕ → List ℕ → List Cell → Type 0
AreChained mask base heads cells = chained.AreChained (home_of mask) nothing (next_of cells) mask base heads cells

-- how far a walk has come that looks for the item
abbrev pub Walks : ℕ → ℕ → List Cell → Item → ℕ → Type 0
Walks mask base cells item at = chained.Walks (home_of mask) nothing (λ c. c.item) base cells item (bucket_of mask item) at
