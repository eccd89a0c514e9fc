-- Values that stand in a list.
use Rattle.std.proofs.Common.{◌≡◌, ℕ, ◌<◌, List, length, inl, refl, get_or}
use Rattle.std.proofs.lemmas.Option.{slice_get-get_or}
use Rattle.ig_run_tables.specs.Extends.{Enters}

-- a value that stands in the list is entered without a change
pub stands_there : {X : Type 0} (list : List X) (k : ℕ) (d : X) → k < length list → Enters list list (get_or list k d) k
stands_there list k d there = record { is = inl refl; there = slice_get-get_or list k d there }
