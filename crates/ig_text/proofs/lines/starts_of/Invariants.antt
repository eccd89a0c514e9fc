use Rattle.std.proofs.Common.{◌≡◌, ◌++◌, drop}
use Rattle.ig_text.specs.LineTable.{starts_behind, line_starts}
use Rattle.ig_text.proofs.lines.starts_of.Given as goal

-- the starts so far and those behind the other line feeds are all
abbrev pub invariant-loop-index : goal.invariant-loop-index
invariant-loop-index l = l.starts.items ++ starts_behind l.index (drop l.index l.characters) ≡ line_starts l.characters
