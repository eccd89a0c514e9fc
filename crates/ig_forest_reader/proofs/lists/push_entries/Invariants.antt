use Rattle.std.proofs.Common.{◌≡◌, ℕ, List, ◌++◌, length}
use Rattle.std.specs.Prelude.{flat_map}
use Rattle.std.specs.List.{AllByRecursion}
use Rattle.ig_show_texts.specs.ForestText.{entry_text}
use Rattle.ig_forest_tables.specs.declared.entry.Entry.{Entry}
use Rattle.ig_forest_reader.specs.Runs.{Stops, NoItem}
use Rattle.ig_forest_reader.specs.Shown.{Added}
use Rattle.ig_forest_reader.specs.Written.{IsSmallEntry}
use Rattle.ig_forest_reader.proofs.LinesLeft.{Left}
use Rattle.ig_forest_reader.proofs.lists.push_entries.Given as goal

abbrev pub invariant-loop : goal.invariant-loop
invariant-loop l =
    Added IsSmallEntry (flat_map entry_text) l.fn.bytes l.rest l.fn.out.items l.out.items ×
    ((xs : List Entry) (us : List ℕ) → AllByRecursion IsSmallEntry xs → Stops NoItem us → l.fn.bytes ≡ flat_map entry_text xs ++ us →
    Left IsSmallEntry entry_text us l.rest l.out.items (l.fn.out.items ++ xs) l.counter (length l.fn.bytes))
