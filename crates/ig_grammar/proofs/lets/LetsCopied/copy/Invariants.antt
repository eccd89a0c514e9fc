use Rattle.std.proofs.Common.{◌≡◌, take}
use Rattle.ig_grammar.proofs.lets.LetsCopied.copy.Given as goal

abbrev pub invariant-loop-cell : goal.invariant-loop-cell
invariant-loop-cell l = l.cells.items ≡ take l.cell-index l.cell-items
