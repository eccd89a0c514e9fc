use Rattle.ig_heights.specs.Table.{choice_rule}
use Rattle.ig_heights.proofs.Ruling.{made_none, made_next, made_all}
use Rattle.ig_heights.proofs.least_rules.add_choices.Goals as goal

pub loop-choice-init : goal.loop-choice-init
loop-choice-init c = made_none (choice_rule c.args.nodes c.args.bottom c.args.v) c.args.choices.now c.args.rules.now.items

pub loop-choice-preserved : goal.loop-choice-preserved
loop-choice-preserved c =
    made_next (choice_rule c.args.nodes c.args.bottom c.args.v) c.args.choices.now c.args.rules.now.items c.loop-choice.rules.items c.push.new.self.items
    c.loop-choice.choice-index _ c.choice_rule.result c.loop-choice-test.true c.loop-choice.invariant c.in_ok-push.ensures.items c.choice_rule.ensures

pub returns : goal.returns
returns c =
    made_all (choice_rule c.args.nodes c.args.bottom c.args.v) c.args.choices.now c.args.rules.now.items c.loop-choice.rules.items c.loop-choice.choice-index
    c.loop-choice-test.false c.loop-choice.invariant
