use Rattle.std.proofs.Common.{drop}
use Rattle.std.specs.Prelude.{flat_map, string_bytes}
use Rattle.ig_show.specs.Steps.{Left}
use Rattle.ig_w3c.specs.Text.{rule_text}
use Rattle.ig_w3c.proofs.grammar.push_rules.Given as goal

abbrev pub invariant-loop-rule : goal.invariant-loop-rule
invariant-loop-rule l =
    Left (string_bytes l.fn.out) (string_bytes l.out) (flat_map rule_text l.rules) (flat_map rule_text (drop l.rule-index l.rules))
