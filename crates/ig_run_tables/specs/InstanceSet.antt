-- The instances of a run by number, in chains by their hashes.
use Rattle.std.specs.Prelude.{◌≡◌, ◌⊎◌, ℕ, ◌+◌, ◌*◌, List, [], bit_and, length, slice_index_or}
use Rattle.ig_item.specs.WellKinded.{NoneTwice}
use Rattle.ig_item.specs.declared.items.InstanceKey.{InstanceKey}
use Rattle.ig_run_tables.specs.Chained as chains

-- the number by which an instance is put into a bucket; why these factors, `src/buckets.rt` says
unfoldable pub hash_of : InstanceKey → ℕ
hash_of x = x.start + x.nonterminal * 0x1c053c97 + x.env * 0x41bd386f

abbrev pub bucket_of : ℕ → InstanceKey → ℕ
bucket_of mask x = bit_and (hash_of x) mask

abbrev pub nothing : InstanceKey
nothing = record { nonterminal = 0; env = 0; start = 0 }

abbrev pub earlier_at : List ℕ → ℕ → ℕ
earlier_at earlier k = slice_index_or earlier k 0

-- heads are those of the buckets, and each instance names the one before it in its bucket
pub record AreInBuckets (keys : List InstanceKey) (heads earlier : List ℕ) (mask : ℕ) : Type 0 where
  pub long : length earlier ≡ length keys
  pub chained : chains.AreChained (bucket_of mask) nothing (earlier_at earlier) mask 0 heads keys

-- so it is, or there is nothing yet
abbrev pub AreFound : List InstanceKey → List ℕ → List ℕ → ℕ → Type 0
AreFound keys heads earlier mask = ((keys ≡ []) × ((heads ≡ []) × (earlier ≡ []))) ⊎ AreInBuckets keys heads earlier mask

pub record AreInstances (keys : List InstanceKey) (heads earlier : List ℕ) (mask : ℕ) : Type 0 where
  pub once : NoneTwice keys
  pub found : AreFound keys heads earlier mask

-- how far a walk has come that looks for the instance
abbrev pub Walks : ℕ → List InstanceKey → InstanceKey → ℕ → Type 0
Walks mask keys key at = chains.Walks (bucket_of mask) nothing (λ (k : InstanceKey). k) 0 keys key (bucket_of mask key) at
