use Rattle.std.proofs.Common.{List, subst, ap, OnOk}
use Rattle.ig_forest_tables.specs.declared.entry.Choice.{Choice}
use Rattle.ig_heights.specs.Table.{Adds, IsRuleBy, choice_rule, choices_in, choices_at}
use Rattle.ig_heights.proofs.Ruling.{made_nil}
use Rattle.ig_heights.proofs.least_rules.add_node.Goals as goal

pub returns-in-Some : goal.returns-in-Some
returns-in-Some c =
    subst (λ (z : List Choice). OnOk c.add_choices.result
    (Adds c.args.rules.now.items c.add_choices.new.rules.items (IsRuleBy (choice_rule c.args.nodes c.args.bottom c.args.v) z)))
    (ap choices_in c.in-Some.ensures) c.add_choices.ensures

pub returns-in-None : goal.returns-in-None
returns-in-None c =
    made_nil (choice_rule c.args.nodes c.args.bottom c.args.v) (choices_at c.args.forest.now c.args.v) c.args.rules.now.items (ap choices_in c.in-None.ensures)
