use Rattle.std.proofs.Common.{◌≡◌, ◌++◌, drop}
use Rattle.std.specs.Prelude.{flat_map}
use Rattle.ig_show_texts.specs.ForestText.{entry_text}
use Rattle.ig_show_texts.proofs.forest_text.push_entries.Given as goal

abbrev pub invariant-loop-entry : goal.invariant-loop-entry
invariant-loop-entry l =
    l.out.items ++ flat_map entry_text (drop l.entry-index l.entries) ≡
    l.fn.out.items ++ flat_map entry_text l.entries
