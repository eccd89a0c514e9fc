use Rattle.std.proofs.Common.{◌≡◌, take}
use Rattle.ig_text.proofs.sequence.SequenceCopied.copy.Given as goal

-- the copies are equal to the cells so far
abbrev pub invariant-loop-cell : goal.invariant-loop-cell
invariant-loop-cell g l = l.cells.items ≡ take l.cell-index l.cell-items
