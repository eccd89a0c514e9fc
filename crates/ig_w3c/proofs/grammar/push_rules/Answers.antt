use Rattle.std.specs.Prelude.{flat_map}
use Rattle.ig_show.specs.Steps.{all_left, less_left, none_left}
use Rattle.ig_w3c.specs.Text.{rule_text}
use Rattle.ig_w3c.proofs.grammar.push_rules.Goals as goal

pub loop-rule-init : goal.loop-rule-init
loop-rule-init c = all_left (flat_map rule_text c.args.rules.now)

pub loop-rule-preserved : goal.loop-rule-preserved
loop-rule-preserved c =
    less_left rule_text c.args.rules.now c.loop-rule.rule-index c.rule-item.result c.rule-item.result c.rule-item.is c.loop-rule-test.true c.loop-rule.invariant
    c.in_ok-push_rule.ensures

pub returns : goal.returns
returns c = none_left rule_text c.args.rules.now c.loop-rule.rule-index c.loop-rule-test.false c.loop-rule.invariant
