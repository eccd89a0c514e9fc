-- Items in chains of cells.
use Rattle.std.proofs.Common.{◌≡◌, ℕ, ◌+◌, ◌-◌, ◌<◌, ◌≤◌, List, [], ◌∷◌, ◌++◌, length, refl, sym, ap, ◌∙◌, subst, arith, set, Contains}
use Rattle.std.specs.Prelude.{slice_index_or, Some}
use Rattle.std.proofs.lemmas.Nat.{and_le_r}
use Rattle.std.proofs.lemmas.List.{get_or_append_left, get_or_push}
use Rattle.std.proofs.lemmas.Option.{slice_get_within, get_or_from_slice_get, slice_get-get_or}
use Rattle.ig_text.proofs.Lists.{at_from_contains, contains_from_at, mapped_in, unmapped_in}
use Rattle.ig_item.specs.declared.items.Item.{Item}
use Rattle.ig_run_tables.specs.declared.returned.Cell.{Cell}
use Rattle.ig_run_tables.specs.Returned.{Entry, entry, nothing, bucket_of, hash_of, home_of, next_of, entries_of, AreChained, Walks}
use Rattle.ig_run_tables.proofs.Chains as chains

-- a clearing keeps the heads: they are all before the new base
pub cleared : (mask base : ℕ) (heads : List ℕ) (cells : List Cell) → AreChained mask base heads cells →
    AreChained mask (base + length cells) heads []
cleared mask base heads cells b =
    record {
      head = λ bucket h. omega (arith, b.within bucket h);
      next = λ k h. absurd (omega arith);
      within = λ bucket h. omega (arith, b.within bucket h);
      all = b.all;
    }

-- the walk from a head
pub walk_starts : (mask base : ℕ) (heads : List ℕ) (cells : List Cell) (item : Item) (at : ℕ) →
    AreChained mask base heads cells → at ≡ slice_index_or heads (bucket_of mask item) at → Walks mask base cells item at
walk_starts mask base heads cells item at b at_is =
    chains.walk_starts (home_of mask) nothing (λ c. c.item) item (bucket_of mask item) (λ c e. ap (bucket_of mask) e)
    (next_of cells) mask base heads cells at b (and_le_r (hash_of item) mask)
    (at_is ∙ chains.any_default heads (bucket_of mask item) at 0 (let le = and_le_r (hash_of item) mask in omega (arith, le, b.all)))

-- the cell before which the walk stands
cell_there : (mask base : ℕ) (cells : List Cell) (item : Item) (at : ℕ) (cell : Cell) → Walks mask base cells item at → base < at →
    cell ≡ slice_index_or cells (at - base - 1) cell → cell ≡ slice_index_or cells (at - base - 1) nothing
cell_there mask base cells item at cell w lt cell_is =
    cell_is ∙ chains.any_default cells (at - base - 1) cell nothing (omega (arith, w.within, lt))

pub walk_smaller : (mask base : ℕ) (heads : List ℕ) (cells : List Cell) (item : Item) (at : ℕ) (cell : Cell) →
    AreChained mask base heads cells → Walks mask base cells item at → base < at →
    cell ≡ slice_index_or cells (at - base - 1) cell → cell.next - base ≤ at - base - 1
walk_smaller mask base heads cells item at cell b w lt cell_is =
    let same : cell.next ≡ (slice_index_or cells (at - base - 1) nothing).next =
    ap (λ (c : Cell). c.next) (cell_there mask base cells item at cell w lt cell_is) in
    let s : (slice_index_or cells (at - base - 1) nothing).next - base ≤ at - base - 1 =
    chains.walk_smaller (home_of mask) nothing (next_of cells) mask base heads cells (at - base - 1) b (omega (arith, w.within, lt)) in
    omega (arith, same, s)

pub walk_goes : (mask base : ℕ) (heads : List ℕ) (cells : List Cell) (item : Item) (at : ℕ) (cell : Cell) →
    AreChained mask base heads cells → Walks mask base cells item at → base < at →
    cell ≡ slice_index_or cells (at - base - 1) cell → (cell.item ≡ item → ⊥) →
    Walks mask base cells item cell.next
walk_goes mask base heads cells item at cell b w lt cell_is not_here =
    let same = cell_there mask base cells item at cell w lt cell_is in
    subst (λ (c : Cell). Walks mask base cells item c.next) (sym same)
    (chains.walk_goes (home_of mask) nothing (λ c. c.item) item (bucket_of mask item) (λ c e. ap (bucket_of mask) e)
    (next_of cells) mask base heads cells at (at - base - 1) b w (omega (arith, lt)) (λ e. not_here (ap (λ (c : Cell). c.item) same ∙ e)))

-- where the walk found the item, and where it came to an end
pub walk_finds : (cells : List Cell) (item : Item) (k : ℕ) (cell : Cell) → k < length cells → cell ≡ slice_index_or cells k cell →
    cell.item ≡ item → Contains (entries_of cells) (entry item cell.number)
walk_finds cells item k cell within cell_is is =
    subst (λ (z : Item). Contains (entries_of cells) (entry z cell.number)) is
    (mapped_in (λ (c : Cell). entry c.item c.number) cells cell
    (contains_from_at cells k cell (slice_get-get_or cells k cell within ∙ ap Some (sym cell_is))))

pub walk_ends : (mask base : ℕ) (cells : List Cell) (item : Item) (at : ℕ) → Walks mask base cells item at → at ≤ base →
    (number : ℕ) → Contains (entries_of cells) (entry item number) → ⊥
walk_ends mask base cells item at w le number c =
    let u = unmapped_in (λ (c : Cell). entry c.item c.number) cells (entry item number) c in
    let k = at_from_contains cells u.0 u.1 in
    let within = slice_get_within cells k.0 u.0 k.1 in
    w.passed k.0 (omega arith) within
    (ap (λ (c : Cell). c.item) (get_or_from_slice_get cells k.0 u.0 nothing k.1) ∙ ap (λ (e : Entry). e.item) u.2)

-- a number is added
added : (mask base : ℕ) (heads : List ℕ) (cells : List Cell) (c : Cell) → AreChained mask base heads cells →
    c.next ≡ slice_index_or heads (bucket_of mask c.item) 0 →
    AreChained mask base (set heads (bucket_of mask c.item) (base + length cells + 1)) (cells ++ c ∷ [])
added mask base heads cells c b next_is =
    chains.added (home_of mask) nothing (next_of cells) (next_of (cells ++ c ∷ [])) mask base heads cells c b (and_le_r (hash_of c.item) mask)
    (λ k lt. ap (λ (z : Cell). z.next) (get_or_append_left cells (c ∷ []) nothing k lt))
    (ap (λ (z : Cell). z.next) (get_or_push cells c nothing (length cells) refl) ∙ next_is)

pub added_by : (mask base : ℕ) (heads : List ℕ) (cells more : List Cell) (item : Item) (number next place : ℕ) →
    AreChained mask base heads cells →
    next ≡ slice_index_or heads (bucket_of mask item) next → more ≡ cells ++ record { item = item; number = number; next = next } ∷ [] →
    place ≡ base + length cells + 1 → AreChained mask base (set heads (bucket_of mask item) place) more
added_by mask base heads cells more item number next place b next_is more_is place_is =
    let le = and_le_r (hash_of item) mask in
    let same : next ≡ slice_index_or heads (bucket_of mask item) 0 =
    next_is ∙ chains.any_default heads (bucket_of mask item) next 0 (omega (arith, le, b.all)) in
    subst (λ (z : List Cell). AreChained mask base (set heads (bucket_of mask item) place) z) (sym more_is)
    (subst (λ (z : ℕ). AreChained mask base (set heads (bucket_of mask item) z) (cells ++ record { item = item; number = number; next = next } ∷ [])) (sym place_is)
    (added mask base heads cells (record { item = item; number = number; next = next }) b same))
