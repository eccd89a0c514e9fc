-- What holds of the texts of cursors.
use Rattle.std.specs.Prelude.{◌≡◌, ℕ, List}
use Rattle.ig_forest.specs.Cursors.{IsShortCursor}
use Rattle.ig_show_trees.specs.TreeText.{cursor_text}

-- a text is that of one short cursor at most
abbrev pub CursorTextsDiffer : Type 0
CursorTextsDiffer =
    (cs ds : List ℕ) → IsShortCursor cs → IsShortCursor ds → cursor_text cs ≡ cursor_text ds → cs ≡ ds
