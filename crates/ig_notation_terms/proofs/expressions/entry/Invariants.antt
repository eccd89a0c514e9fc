use Rattle.std.proofs.Common.{◌≡◌, drop}
use Rattle.ig_notation_syntax.specs.Spelling.{entry}
use Rattle.ig_notation_terms.specs.Readers.{rows_of}
use Rattle.ig_notation_terms.proofs.expressions.entry.Given as goal

abbrev pub invariant-loop-key : goal.invariant-loop-key
invariant-loop-key l = entry (rows_of (drop l.key-index l.table)) l.fn.word ≡ entry (rows_of l.table) l.fn.word
