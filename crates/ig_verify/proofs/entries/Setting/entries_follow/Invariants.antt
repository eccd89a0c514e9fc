use Rattle.ig_forest_tables.specs.Views.{item_node_view}
use Rattle.ig_verify.specs.Sound.{EntryFollows}
use Rattle.ig_verify.proofs.Below.{EachBelow}
use Rattle.ig_verify.proofs.entries.Setting.entries_follow.Given as goal

abbrev pub invariant-loop-entry : goal.invariant-loop-entry
invariant-loop-entry l =
    EachBelow (EntryFollows l.self.core.now l.self.text.now l.self.draft.now (item_node_view l.it)) l.entries l.entry-index
