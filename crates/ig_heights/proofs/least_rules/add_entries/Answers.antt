use Rattle.ig_heights.specs.Table.{entry_rule}
use Rattle.ig_heights.proofs.Ruling.{made_none, made_next, made_all}
use Rattle.ig_heights.proofs.least_rules.add_entries.Goals as goal

pub loop-entry-init : goal.loop-entry-init
loop-entry-init c = made_none (entry_rule c.args.nodes c.args.bottom c.args.k) c.args.entries.now c.args.rules.now.items

pub loop-entry-preserved : goal.loop-entry-preserved
loop-entry-preserved c =
    made_next (entry_rule c.args.nodes c.args.bottom c.args.k) c.args.entries.now c.args.rules.now.items c.loop-entry.rules.items c.push.new.self.items
    c.loop-entry.entry-index _ c.entry_rule.result c.loop-entry-test.true c.loop-entry.invariant c.in_ok-push.ensures.items c.entry_rule.ensures

pub returns : goal.returns
returns c =
    made_all (entry_rule c.args.nodes c.args.bottom c.args.k) c.args.entries.now c.args.rules.now.items c.loop-entry.rules.items c.loop-entry.entry-index
    c.loop-entry-test.false c.loop-entry.invariant
