use Rattle.std.proofs.Common.{◌≡◌, ℕ, List, ◌++◌, length}
use Rattle.std.specs.List.{AllByRecursion}
use Rattle.ig_expr.specs.declared.value.Value.{Value}
use Rattle.ig_forest_reader.specs.Runs.{Stops, IsInner, IsComma}
use Rattle.ig_forest_reader.specs.Shown.{Added}
use Rattle.ig_forest_reader.specs.Written.{IsSmall}
use Rattle.ig_forest_reader.proofs.ValuesLeft.{Left, others}
use Rattle.ig_forest_reader.proofs.lists.push_others.Given as goal

abbrev pub invariant-loop : goal.invariant-loop
invariant-loop l =
    Added IsSmall others l.fn.bytes l.rest l.fn.out.items l.out.items ×
    ((xs : List Value) (us : List ℕ) → AllByRecursion IsSmall xs → Stops IsInner us → Stops IsComma us → l.fn.bytes ≡ others xs ++ us →
    Left us l.rest l.out.items (l.fn.out.items ++ xs) l.counter (length l.fn.bytes))
