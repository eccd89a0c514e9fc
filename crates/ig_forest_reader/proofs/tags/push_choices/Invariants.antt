use Rattle.std.proofs.Common.{◌≡◌, ℕ, List, ◌++◌, length}
use Rattle.std.specs.Prelude.{flat_map}
use Rattle.std.specs.List.{AllByRecursion}
use Rattle.ig_show_texts.specs.ForestText.{choice_text}
use Rattle.ig_forest_tables.specs.declared.entry.Choice.{Choice}
use Rattle.ig_forest_reader.specs.Runs.{Stops, IsChoice}
use Rattle.ig_forest_reader.specs.Shown.{Added}
use Rattle.ig_forest_reader.specs.Written.{IsNamed, IsTagOf}
use Rattle.ig_forest_reader.proofs.LinesLeft.{Left}
use Rattle.ig_forest_reader.proofs.tags.push_choices.Given as goal

abbrev pub invariant-loop : goal.invariant-loop
invariant-loop l =
    ((name : List ℕ) → IsNamed l.core l.nonterminal name →
    Added (IsTagOf l.core l.nonterminal) (flat_map (choice_text name)) l.fn.bytes l.rest l.fn.out.items l.out.items) ×
    ((name : List ℕ) (xs : List Choice) (us : List ℕ) → IsNamed l.core l.nonterminal name →
    AllByRecursion (IsTagOf l.core l.nonterminal) xs → Stops IsChoice us → l.fn.bytes ≡ flat_map (choice_text name) xs ++ us →
    Left (IsTagOf l.core l.nonterminal) (choice_text name) us l.rest l.out.items (l.fn.out.items ++ xs) l.counter (length l.fn.bytes))
