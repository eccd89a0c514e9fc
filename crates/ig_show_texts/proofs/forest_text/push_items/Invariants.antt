use Rattle.std.proofs.Common.{◌≡◌, ◌++◌, drop}
use Rattle.ig_show_texts.specs.Listed.{numbered_texts}
use Rattle.ig_show_texts.specs.ForestText.{item_text}
use Rattle.ig_show_texts.proofs.forest_text.push_items.Given as goal

abbrev pub invariant-loop-number : goal.invariant-loop-number
invariant-loop-number l =
    l.out.items ++ numbered_texts item_text l.number (drop l.number l.forest.items) ≡
    l.fn.out.items ++ numbered_texts item_text 0 l.forest.items
