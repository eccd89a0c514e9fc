use Rattle.std.proofs.Common.{◌≡◌, take, map}
use Rattle.std.specs.Prelude.{string_bytes}
use Rattle.ig_show.specs.CanonicalText.{pattern_bytes}
use Rattle.ig_show_trees.proofs.report.texts_of.Given as goal

abbrev pub invariant-loop-pattern : goal.invariant-loop-pattern
invariant-loop-pattern l = map string_bytes l.texts.items ≡ map pattern_bytes (take l.pattern-index l.patterns)
