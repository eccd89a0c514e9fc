use Rattle.std.proofs.Common.{◌≡◌, ℕ, List, ◌∷◌, length, take, vec_items}
use Rattle.ig_forest.specs.Cursors.{IsShortCursor}
use Rattle.ig_show_trees.specs.TreeText.{cursor_text}
use Rattle.ig_show_trees.proofs.cursor_text.read_numbers.Given as goal

abbrev pub invariant-loop-piece : goal.invariant-loop-piece
invariant-loop-piece l =
    (goal.iterator-loop-piece).can_next l.piece-iterator ×
    (goal.iterator-loop-piece).is_finite l.piece-iterator ×
    ((n : ℕ) (ns : List ℕ) → IsShortCursor (n ∷ ns) → cursor_text (n ∷ ns) ≡ l.word →
    vec_items l.numbers ≡ take (length l.yielded) (n ∷ ns))
