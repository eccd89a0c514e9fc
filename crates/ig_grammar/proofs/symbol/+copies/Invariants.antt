use Rattle.std.proofs.Common.{◌≡◌, take}
use Rattle.ig_grammar.proofs.symbol.+copies.Given as goal

abbrev pub invariant-copy_of_alternatives-loop-cell : goal.invariant-copy_of_alternatives-loop-cell
invariant-copy_of_alternatives-loop-cell l = l.cells.items ≡ take l.cell-index l.cell-items

abbrev pub invariant-copy_of_symbols-loop-cell : goal.invariant-copy_of_symbols-loop-cell
invariant-copy_of_symbols-loop-cell l = l.cells.items ≡ take l.cell-index l.cell-items
