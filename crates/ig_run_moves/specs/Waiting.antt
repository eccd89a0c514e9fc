-- What is known of the instances that were called.
use Rattle.std.specs.Prelude.{Bool, ℕ, zero, suc, List, [], ◌∷◌, ◌++◌, length, None, Some, slice_index_or}
use Rattle.ig_item.specs.declared.items.Item.{Item}
use Rattle.ig_run_moves.specs.declared.waiting.Waiting.{Waiting}
use Rattle.ig_run_moves.specs.declared.waiting.Called.{Called}
use Rattle.ig_run_moves.specs.declared.waiting.Caller.{Caller}

abbrev pub not_called : Called
not_called = record { first = 0; last = 0; last_end = None; last_done = 0 }

-- what is known of the instance of that number
abbrev pub called_at : Waiting → ℕ → Called
called_at w k = slice_index_or w.called.items k not_called

-- the cells, where the one at that place names another one as the next
abbrev pub linked_at : List Caller → ℕ → ℕ → List Caller
linked_at [] k next = []
linked_at (cell ∷ cells) zero next = record cell { next = next } ∷ cells
linked_at (cell ∷ cells) (suc k) next = cell ∷ linked_at cells k next

-- the same for a place + 1, if that isn't 0
abbrev pub linked : List Caller → ℕ → ℕ → List Caller
linked cells zero next = cells
linked cells (suc k) next = linked_at cells k next

-- the cells with one more at the end, behind that at the place + 1
abbrev pub lengthened : List Caller → ℕ → Item → ℕ → Bool → List Caller
lengthened cells last item number is_bare =
    linked (cells ++ record { item = item; number = number; is_bare = is_bare; next = 0 } ∷ []) last (suc (length cells))

-- the first place, and the other one where it is 0
abbrev pub first_or : ℕ → ℕ → ℕ
first_or zero place = place
first_or (suc k) place = suc k

-- what is known of an instance that has one more caller, at that place + 1
abbrev pub with_caller : Called → ℕ → Called
with_caller c place = record c { first = first_or c.first place; last = place }

-- what is known of an instance that ended at p, where the item of that number is the first complete one
abbrev pub with_end : Called → ℕ → ℕ → Called
with_end c p done = record c { last_end = Some p; last_done = done }
