use Rattle.std.proofs.Common.{refl}
use Rattle.std.proofs.lemmas.Bool.{false≢true}
use Rattle.ig_text.proofs.Booleans.{refuted}
use Rattle.ig_forest_tables.specs.Views.{item_node_view}
use Rattle.ig_verify.specs.Sound.{EntryFollows}
use Rattle.ig_verify.proofs.Below.{each_next, each_member}
use Rattle.ig_verify.proofs.entries.Setting.entries_follow.Goals as goal

pub loop-entry-preserved : goal.loop-entry-preserved
loop-entry-preserved c =
    each_next (EntryFollows c.args.self.now.core.now c.args.self.now.text.now c.args.self.now.draft.now (item_node_view c.args.it.now))
    c.args.it.now.entries.now c.loop-entry.entry-index _ c.loop-entry-test.true c.loop-entry.invariant
    (c.entry_follows.ensures.0 c.if-not-entry_follows.false)

pub returns-then-not-entry_follows : goal.returns-then-not-entry_follows
returns-then-not-entry_follows c = (
  λ e. absurd (false≢true e),
  λ all. absurd (refuted c.entry_follows.result c.entry_follows.ensures c.if-not-entry_follows.true (all c.loop-entry.entry-index _ c.loop-entry-test.true)),
)

pub returns : goal.returns
returns c = (
  λ e. each_member (EntryFollows c.args.self.now.core.now c.args.self.now.text.now c.args.self.now.draft.now (item_node_view c.args.it.now))
      c.args.it.now.entries.now c.loop-entry.entry-index c.loop-entry-test.false c.loop-entry.invariant,
  λ all. refl,
)
