-- Marks of the items of a run: which are live, and which of these are complete.
use Rattle.std.specs.Prelude.{◌≡◌, ◌↔◌, ℕ, List, length, map, Bool, true, false, Some, slice_get}
use Rattle.ig_text.specs.Input.{Input}
use Rattle.ig_item.specs.Items.{Item, IsComplete}
use Rattle.ig_item.specs.declared.core_grammar.Nonterminal.{Nonterminal}
use Rattle.ig_forest_live.specs.Live.{IsLive}
use Rattle.ig_forest_live.specs.declared.mark.Mark.{Mark}
use Rattle.ig_forest_live.specs.declared.mark.Mark.TheVariants.{Dead, Open, Complete}

abbrev pub is_live : Mark → Bool
is_live Dead = false
is_live Open = true
is_live Complete = true

-- the item of that number has a mark of live ones
abbrev pub IsMarked : List Mark → ℕ → Type 0
IsMarked marks k = slice_get (map is_live marks) k ≡ Some true

-- exactly the live items are marked so, and exactly those of them that are complete as complete
pub record AreMarks (core : List Nonterminal) (text : Input) (items : List Item) (marks : List Mark) : Type 0 where
  pub long : length marks ≡ length items
  pub live : (k : ℕ) (x : Item) → slice_get items k ≡ Some x → IsMarked marks k ↔ IsLive core text x
  pub complete : (k : ℕ) (x : Item) → slice_get items k ≡ Some x →
      (slice_get marks k ≡ Some Complete) ↔ (IsLive core text x × IsComplete core x)
