use Rattle.std.proofs.Common.{List}
use Rattle.ig_item.specs.declared.core_grammar.Nonterminal.{Nonterminal}
use Rattle.ig_show_texts.specs.ForestText.{item_text}
use Rattle.ig_forest_reader.specs.Runs.{NoItem}
use Rattle.ig_forest_reader.specs.Shown.{IsBegunItem, IsIndex, Keeps, ShowsItem}
use Rattle.ig_forest_reader.specs.Written.{TellsNames}
use Rattle.ig_forest_reader.proofs.PartsRead.{SoFar}
use Rattle.ig_forest_reader.proofs.items.push_items.Given as goal

abbrev pub invariant-loop-number : goal.invariant-loop-number
invariant-loop-number l =
    Keeps l.fn.lists l.lists ×
    ((core : List Nonterminal) → TellsNames core → IsIndex core l.index →
    SoFar (ShowsItem l.lists) (IsBegunItem core) item_text NoItem l.number l.many l.fn.bytes l.rest l.items)
