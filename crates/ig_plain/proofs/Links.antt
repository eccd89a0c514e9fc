-- A chain of callers gets one more at its end, and the other chains stay.
use Rattle.std.proofs.Common.{◌≡◌, ◌⊎◌, ⊎_elim, inl, inr, ℕ, zero, suc, ◌<◌, ◌≤◌, List, [], ◌∷◌, ◌++◌, Some, length, Contains, refl, sym, ap, ◌∙◌, subst, arith, slice_get}
use Rattle.std.specs.Prelude.{Bool}
use Rattle.std.proofs.lemmas.Option.{same_Some, slice_get_within}
use Rattle.std.proofs.lemmas.List.Elements.{Contains-append_cases, Contains-append_left, Contains-append_right}
use Rattle.ig_text.proofs.Lists.{left_at, right_at, it_is_in, contains_one}
use Rattle.ig_item.specs.declared.items.Item as stored
use Rattle.ig_run_moves.specs.declared.waiting.Caller.{Caller}
use Rattle.ig_run_moves.specs.Waiting.{linked_at, linked, lengthened, first_or}
use Rattle.ig_plain.specs.Run as run
use Rattle.ig_plain.specs.Run.{Chains, ChainEnds}
use Rattle.ig_plain.proofs.Returns.{Heads, heads, empties}

-- the cell that is linked names the new one, and the others are as before
pub linked_here : (cells : List Caller) (k next : ℕ) (cell : Caller) → slice_get cells k ≡ Some cell →
    slice_get (linked_at cells k next) k ≡ Some (record cell { next = next })
linked_here [] k next cell at = cc
linked_here (c ∷ cells) zero next cell at = ap (λ (z : Caller). Some (record z { next = next })) (same_Some c cell at)
linked_here (c ∷ cells) (suc k) next cell at = linked_here cells k next cell at

pub linked_apart : (cells : List Caller) (m next k : ℕ) (cell : Caller) → (k ≡ m → ⊥) → slice_get cells k ≡ Some cell →
    slice_get (linked_at cells m next) k ≡ Some cell
linked_apart [] m next k cell apart at = cc
linked_apart (c ∷ cells) zero next zero cell apart at = absurd (apart refl)
linked_apart (c ∷ cells) zero next (suc k) cell apart at = at
linked_apart (c ∷ cells) (suc m) next zero cell apart at = at
linked_apart (c ∷ cells) (suc m) next (suc k) cell apart at = linked_apart cells m next k cell (λ e. apart (ap suc e)) at

-- the same of a place + 1
pub linked_other : (cells : List Caller) (last next k : ℕ) (cell : Caller) → (suc k ≡ last → ⊥) → slice_get cells k ≡ Some cell →
    slice_get (linked cells last next) k ≡ Some cell
linked_other cells zero next k cell apart at = at
linked_other cells (suc m) next k cell apart at = linked_apart cells m next k cell (λ e. apart (ap suc e)) at

-- each cell is one that was there, but for the next one that it names
pub linked_from : (cells : List Caller) (last next : ℕ) (cell : Caller) → Contains (linked cells last next) cell →
    (before : Caller) × Contains cells before × (cell.item ≡ before.item) × (cell.number ≡ before.number) ×
    (cell.is_bare ≡ before.is_bare)
linked_from cells zero next cell c = (cell, c, refl, refl, refl)
linked_from cells (suc m) next cell c = from cells m c
  where
    from : (cells : List Caller) (m : ℕ) → Contains (linked_at cells m next) cell →
        (before : Caller) × Contains cells before × (cell.item ≡ before.item) × (cell.number ≡ before.number) ×
        (cell.is_bare ≡ before.is_bare)
    from [] m c = (cell, c, refl, refl, refl)
    from (x ∷ cells) zero c =
        ⊎_elim
        (λ (h : Contains (record x { next = next } ∷ []) cell).
        let e = contains_one (record x { next = next }) cell h in (
          x,
          Contains-append_left (x ∷ []) cells x (it_is_in x),
          ap (λ (z : Caller). z.item) e,
          ap (λ (z : Caller). z.number) e,
          ap (λ (z : Caller). z.is_bare) e,
        ))
        (λ (h : Contains cells cell). (cell, Contains-append_right (x ∷ []) cells cell h, refl, refl, refl))
        (Contains-append_cases (record x { next = next } ∷ []) cells cell c)
    from (x ∷ cells) (suc m) c =
        ⊎_elim (λ (h : Contains (x ∷ []) cell). (cell, Contains-append_left (x ∷ []) cells cell h, refl, refl, refl))
        (λ (h : Contains (linked_at cells m next) cell).
        let q = from cells m h in (q.0, Contains-append_right (x ∷ []) cells q.0 q.1, q.2, q.3, q.4))
        (Contains-append_cases (x ∷ []) (linked_at cells m next) cell c)

-- the first cell of a chain, read at its place
module _ (cells : List Caller) (k : ℕ) (xs : List stored.Item) (cell : Caller) (at : slice_get cells k ≡ Some cell) (h : Heads cells k xs) where
  cell_is : cell ≡ h.cell
  cell_is = same_Some cell h.cell (sym at ∙ h.there)

  whole_is : xs ≡ cell.item ∷ h.rest
  whole_is = h.is ∙ ap (λ (z : Caller). z.item ∷ h.rest) (sym cell_is)

  first_in : Contains xs cell.item
  first_in =
      subst (λ (z : List stored.Item). Contains z cell.item) (sym whole_is) (Contains-append_left (cell.item ∷ []) h.rest cell.item (it_is_in cell.item))

  rest_in : (x : stored.Item) → Contains h.rest x → Contains xs x
  rest_in x c = subst (λ (z : List stored.Item). Contains z x) (sym whole_is) (Contains-append_right (cell.item ∷ []) h.rest x c)

  rest_chained : Chains cells cell.next h.rest
  rest_chained = subst (λ (z : Caller). Chains cells z.next h.rest) (sym cell_is) h.chained

-- a chain stays where its cells stay
pub chain_stays : (cells others : List Caller) (head : ℕ) (xs : List stored.Item) → Chains cells head xs →
    ((k : ℕ) (cell : Caller) → slice_get cells k ≡ Some cell → Contains xs cell.item → slice_get others k ≡ Some cell) →
    Chains others head xs
chain_stays cells others head xs run.none same = run.none
chain_stays cells others head xs (run.more k cell ys at behind c) same =
    run.more k cell ys (same k cell at (Contains-append_left (cell.item ∷ []) ys cell.item (it_is_in cell.item))) behind
    (chain_stays cells others cell.next ys c (λ j d e m. same j d e (Contains-append_right (cell.item ∷ []) ys d.item m)))

-- its end, too
pub end_stays : (cells others : List Caller) (head last : ℕ) → ChainEnds cells head last → (xs : List stored.Item) → Chains cells head xs →
    ((k : ℕ) (cell : Caller) → slice_get cells k ≡ Some cell → Contains xs cell.item → slice_get others k ≡ Some cell) →
    ChainEnds others head last
end_stays cells others head last run.nowhere xs c same = run.nowhere
end_stays cells others head last (run.here k cell at ends) xs c same =
    run.here k cell (same k cell at (first_in cells k xs cell at (heads cells (suc k) xs c k refl))) ends
end_stays cells others head last (run.onward k l cell at less e) xs c same =
    let h = heads cells (suc k) xs c k refl in
    run.onward k l cell (same k cell at (first_in cells k xs cell at h)) less
    (end_stays cells others cell.next l e h.rest (rest_chained cells k xs cell at h)
    (λ j d f m. same j d f (rest_in cells k xs cell at h d.item m)))

-- the last cell stands behind the first one, and is there
pub end_behind : (cells : List Caller) (head last : ℕ) → ChainEnds cells head last → head ≤ last
end_behind cells head last run.nowhere = omega arith
end_behind cells head last (run.here k cell at ends) = omega arith
end_behind cells head last (run.onward k l cell at less e) = let b = end_behind cells cell.next l e in omega (arith, b, less)

pub end_within : (cells : List Caller) (head last : ℕ) → ChainEnds cells head last → last ≤ length cells
end_within cells head last run.nowhere = omega arith
end_within cells head last (run.here k cell at ends) = let l = slice_get_within cells k cell at in omega (arith, l)
end_within cells head last (run.onward k l cell at less e) = end_within cells cell.next l e

-- the item of the last cell is one of the chain
pub last_in : (cells : List Caller) (head last : ℕ) → ChainEnds cells head last → (xs : List stored.Item) → Chains cells head xs →
    (m : ℕ) (cell : Caller) → last ≡ suc m → slice_get cells m ≡ Some cell → Contains xs cell.item
last_in cells head last run.nowhere xs c m cell is there = cc
last_in cells head last (run.here k one at ends) xs c m cell is there =
    let same : k ≡ m = omega (arith, is) in
    first_in cells k xs cell (ap (slice_get cells) same ∙ there) (heads cells (suc k) xs c k refl)
last_in cells head last (run.onward k l one at less e) xs c m cell is there =
    let h = heads cells (suc k) xs c k refl in
    rest_in cells k xs one at h cell.item
    (last_in cells one.next l e h.rest (rest_chained cells k xs one at h) m cell is there)

-- a chain that isn't empty begins where it did
first_kept : (head place : ℕ) → 0 < head → first_or head place ≡ head
first_kept zero place less = absurd (omega (arith, less))
first_kept (suc k) place less = refl

-- one more caller at the end of a chain
module _ (cells : List Caller) (item : stored.Item) (number : ℕ) (is_bare : Bool) where
  abbrev cell : Caller
  cell = record { item = item; number = number; is_bare = is_bare; next = 0 }

  abbrev more : List Caller
  more = cells ++ cell ∷ []

  old_there : (k : ℕ) (c : Caller) → slice_get cells k ≡ Some c → slice_get more k ≡ Some c
  old_there k c at = left_at cells (cell ∷ []) k c at

  new_there : slice_get more (length cells) ≡ Some cell
  new_there = right_at cells (cell ∷ []) (length cells) 0 cell (omega arith) refl

  -- the new cell is at the end
  new_at : (last : ℕ) → last ≤ length cells → slice_get (lengthened cells last item number is_bare) (length cells) ≡ Some cell
  new_at last within = linked_other more last (suc (length cells)) (length cells) cell (λ e. omega (arith, e, within)) new_there

  -- a cell that isn't the last one of the chain stays
  pub stays_at : (last k : ℕ) (c : Caller) → (suc k ≡ last → ⊥) → slice_get cells k ≡ Some c →
      slice_get (lengthened cells last item number is_bare) k ≡ Some c
  stays_at last k c apart at = linked_other more last (suc (length cells)) k c apart (old_there k c at)

  -- the chain of the last cell has the new item at its end
  pub chain_longer : (head last : ℕ) → ChainEnds cells head last → (xs : List stored.Item) → Chains cells head xs →
      Chains (lengthened cells last item number is_bare) (first_or head (suc (length cells))) (xs ++ item ∷ [])
  chain_longer head last run.nowhere xs c =
      subst (λ (z : List stored.Item). Chains more (suc (length cells)) (z ++ item ∷ [])) (sym (empties cells 0 xs c refl))
      (run.more (length cells) cell [] new_there (inl refl) run.none)
  chain_longer head last (run.here k one at ends) xs c =
      let h = heads cells (suc k) xs c k refl in
      let none : h.rest ≡ [] = empties cells one.next h.rest (rest_chained cells k xs one at h) ends in
      let within = slice_get_within cells k one at in
      subst (λ (z : List stored.Item). Chains (lengthened cells (suc k) item number is_bare) (suc k) (z ++ item ∷ []))
      (sym (whole_is cells k xs one at h ∙ ap (λ (z : List stored.Item). one.item ∷ z) none))
      (run.more k (record one { next = suc (length cells) }) (item ∷ []) (linked_here more k (suc (length cells)) one (old_there k one at))
      (inr (omega (arith, within)))
      (run.more (length cells) cell [] (new_at (suc k) (omega (arith, within))) (inl refl) run.none))
  chain_longer head last (run.onward k l one at less e) xs c =
      let h = heads cells (suc k) xs c k refl in
      let b = end_behind cells one.next l e in
      let on : Chains (lengthened cells l item number is_bare) one.next (h.rest ++ item ∷ []) =
      subst (λ (n : ℕ). Chains (lengthened cells l item number is_bare) n (h.rest ++ item ∷ [])) (first_kept one.next (suc (length cells)) (omega (arith, less)))
      (chain_longer one.next l e h.rest (rest_chained cells k xs one at h)) in
      subst (λ (z : List stored.Item). Chains (lengthened cells l item number is_bare) (suc k) (z ++ item ∷ [])) (sym (whole_is cells k xs one at h))
      (run.more k one (h.rest ++ item ∷ []) (stays_at l k one (λ q. omega (arith, q, b, less)) at) (inr less) on)

  -- and ends at the new cell
  pub end_longer : (head last : ℕ) → ChainEnds cells head last →
      ChainEnds (lengthened cells last item number is_bare) (first_or head (suc (length cells))) (suc (length cells))
  end_longer head last run.nowhere = run.here (length cells) cell new_there refl
  end_longer head last (run.here k one at ends) =
      let within = slice_get_within cells k one at in
      run.onward k (suc (length cells)) (record one { next = suc (length cells) }) (linked_here more k (suc (length cells)) one (old_there k one at))
      (omega (arith, within))
      (run.here (length cells) cell (new_at (suc k) (omega (arith, within))) refl)
  end_longer head last (run.onward k l one at less e) =
      let b = end_behind cells one.next l e in
      run.onward k (suc (length cells)) one (stays_at l k one (λ q. omega (arith, q, b, less)) at) less
      (subst (λ (n : ℕ). ChainEnds (lengthened cells l item number is_bare) n (suc (length cells))) (first_kept one.next (suc (length cells)) (omega (arith, less)))
      (end_longer one.next l e))

  -- each cell is that of a caller, an old one or the new one
  pub longer_from : (last : ℕ) (one : Caller) → Contains (lengthened cells last item number is_bare) one →
      (before : Caller) × (Contains cells before ⊎ (before ≡ cell)) × (one.item ≡ before.item) × (one.number ≡ before.number) ×
      (one.is_bare ≡ before.is_bare)
  longer_from last one c =
      let q = linked_from more last (suc (length cells)) one c in (
        q.0,
        ⊎_elim (λ (h : Contains cells q.0). inl h) (λ (h : Contains (cell ∷ []) q.0). inr (contains_one cell q.0 h)) (Contains-append_cases cells (cell ∷ []) q.0 q.1),
        q.2,
        q.3,
        q.4,
      )
