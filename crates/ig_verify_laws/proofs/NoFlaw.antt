-- A sound forest has no flaw.
use Rattle.std.proofs.Common.{ℕ, List, Some, None, refl}
use Rattle.ig_text.specs.Input.{Input}
use Rattle.ig_item.specs.declared.core_grammar.Nonterminal.{Nonterminal}
use Rattle.ig_forest_tables.specs.Forest.{Forest, Node, ItemNode}
use Rattle.ig_verify.specs.Flaws as flaws
use Rattle.ig_verify.specs.Flaws.{IsFirstFlaw, NodeBreaks, EntriesBreak}
use Rattle.ig_verify.specs.Sound.{IsSound, NodeHolds, EntriesHold}
use Rattle.ig_verify.specs.declared.flaw.Flaw.{Flaw}
use Rattle.ig_verify_laws.specs.ReducedLaws.{SoundHasNoFlaw}

module _ (core : List Nonterminal) (text : Input) (f : Forest) where
  node_whole : (v : ℕ) (node : Node) (rule : ℕ) → NodeHolds core text f v node → NodeBreaks core text f v node rule → ⊥
  node_whole v node rule holds (flaws.root _ is broken number) = broken (holds.root is)
  node_whole v node rule holds (flaws.choices _ root broken number) = broken holds.choices

  entries_whole : (it : ItemNode) (rule : ℕ) → EntriesHold core text f it → EntriesBreak core text f it rule → ⊥
  entries_whole it rule holds (flaws.begin _ first broken number) = broken (holds.begin first)
  entries_whole it rule holds (flaws.further _ later broken number) = broken (holds.further later)

  never : (flaw : Flaw) → IsSound core text f → IsFirstFlaw core text f flaw → ⊥
  never flaw sound (flaws.at_node b) =
      node_whole flaw.number b.node flaw.rule (sound.nodes flaw.number b.node b.there) b.breaks
  never flaw sound (flaws.at_item nodes b) = b.breaks (sound.items flaw.number b.it b.there)
  never flaw sound (flaws.at_entries nodes items b) =
      entries_whole b.it flaw.rule (sound.entries flaw.number b.it b.there) b.breaks

pub no_flaw : SoundHasNoFlaw
no_flaw core text f None sound h = refl
no_flaw core text f (Some flaw) sound h = absurd (never core text f flaw sound h)
