use Rattle.std.proofs.Common.{List, subst, ap, OnOk}
use Rattle.ig_forest_tables.specs.declared.entry.Entry.{Entry}
use Rattle.ig_heights.specs.Table.{Adds, IsRuleBy, entry_rule, entries_in, entries_at}
use Rattle.ig_heights.proofs.Ruling.{made_nil}
use Rattle.ig_heights.proofs.least_rules.add_item.Goals as goal

pub returns-in-Some : goal.returns-in-Some
returns-in-Some c =
    subst (λ (z : List Entry). OnOk c.add_entries.result
    (Adds c.args.rules.now.items c.add_entries.new.rules.items (IsRuleBy (entry_rule c.args.nodes c.args.bottom c.args.k) z)))
    (ap entries_in c.in-Some.ensures) c.add_entries.ensures

pub returns-in-None : goal.returns-in-None
returns-in-None c =
    made_nil (entry_rule c.args.nodes c.args.bottom c.args.k) (entries_at c.args.forest.now c.args.k) c.args.rules.now.items (ap entries_in c.in-None.ensures)
