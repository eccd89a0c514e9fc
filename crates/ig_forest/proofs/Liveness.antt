-- Live items are reachable, and the least collection of those that are used.
use Rattle.std.proofs.Common.{List}
use Rattle.ig_text.specs.Input.{Input}
use Rattle.ig_item.specs.Items.{Item, Reachable}
use Rattle.ig_item.specs.declared.core_grammar.Nonterminal.{Nonterminal}
use Rattle.ig_item.specs.Gives as rules
use Rattle.ig_forest_live.specs.Live as live
use Rattle.ig_item.specs.Gives.{Taken, NodeKey, Completes}
use Rattle.ig_forest_live.specs.Live.{Gives, IsLive}
use Rattle.ig_forest.specs.Laws.{LiveIsReachable, LiveIsLeast}

module _ (core : List Nonterminal) (text : Input) where
  pub previous_reachable : {prev x : Item} {taken : Taken} → Gives core text prev taken x → Reachable core text prev
  previous_reachable (rules.test prev names e x reachable before holds is) = reachable
  previous_reachable (rules.bind prev names name e v x reachable before has is) = reachable
  previous_reachable (rules.terminal prev names what label excluded j taken x reachable before matches free t is) = reachable
  previous_reachable (rules.return prev done label excluded key x reachable r calls c free is) = reachable

pub live_is_reachable : LiveIsReachable
live_is_reachable core text _ (live.root x reachable root end) = reachable
live_is_reachable core text _ (live.previous x prev taken l gives) = previous_reachable core text gives
live_is_reachable core text _ (live.child x prev done key l gives reachable completes) = reachable

pub live_is_least : LiveIsLeast
live_is_least core text has used _ (live.root x reachable root end) = used.root x reachable root end
live_is_least core text has used _ (live.previous x prev taken l gives) =
    used.previous x prev taken (live_is_least core text has used x l) gives
live_is_least core text has used _ (live.child x prev done key l gives reachable completes) =
    used.child x prev done key (live_is_least core text has used x l) gives reachable completes
