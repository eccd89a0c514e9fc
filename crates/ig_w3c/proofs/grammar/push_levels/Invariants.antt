use Rattle.std.proofs.Common.{drop}
use Rattle.std.specs.Prelude.{flat_map, string_bytes}
use Rattle.ig_show.specs.Steps.{Left}
use Rattle.ig_w3c.specs.Text.{level_text}
use Rattle.ig_w3c.proofs.grammar.push_levels.Given as goal

abbrev pub invariant-loop-level : goal.invariant-loop-level
invariant-loop-level l =
    Left (string_bytes l.fn.out) (string_bytes l.out) (flat_map level_text l.levels) (flat_map level_text (drop l.level-index l.levels))
