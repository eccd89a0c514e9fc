-- The alternatives of nodes.
use Rattle.std.proofs.Common.{◌≡◌, ◌↔◌, ℕ, List, Some, IsTrue, Bool, sym, ap, ◌∙◌, subst, slice_get}
use Rattle.std.specs.Prelude.{option_map, option_and_then}
use Rattle.std.proofs.lemmas.Option.{same_Some}
use Rattle.ig_item.specs.Core.{IsAlternative, alternative_at, numbered}
use Rattle.ig_item.specs.Gives.{Completes}
use Rattle.ig_item.specs.declared.core_grammar.Nonterminal.{Nonterminal}
use Rattle.ig_item.specs.declared.core_grammar.CoreAlt.{CoreAlt}
use Rattle.ig_forest_tables.specs.Forest.{Forest, Node, ItemNode, item_of}
use Rattle.ig_forest_tables.specs.declared.entry.Choice.{Choice}
use Rattle.ig_verify.specs.Sound.{ChoiceFits, key_of}

tagged : (core : List Nonterminal) (n a : ℕ) (nonterminal : Nonterminal) (alternative : CoreAlt) →
    IsAlternative core n a nonterminal alternative →
    option_map (λ (b : CoreAlt). b.tag) (alternative_at core n a) ≡ Some alternative.tag
tagged core n a nonterminal alternative is =
    ap (option_map (λ (b : CoreAlt). b.tag))
    (ap (option_and_then (λ (m : Nonterminal). numbered m.alternatives a)) is.there ∙ is.has)

-- the alternative of a node fits exactly where the complete item has its tag
pub choice_by : (core : List Nonterminal) (f : Forest) (node : Node) (choice : Choice) (it : ItemNode) (b : Bool) →
    Some it ≡ slice_get f.items choice.item → Completes core (item_of it) (key_of node) →
    IsTrue b ↔ (option_map (λ (a : CoreAlt). a.tag) (alternative_at core it.nonterminal it.alternative) ≡ Some choice.tag) →
    IsTrue b ↔ ChoiceFits core f node choice
choice_by core f node choice it b at completes tells = (
  λ e.
      let c = completes.complete in
      let own = tagged core it.nonterminal it.alternative c.nonterminal c.alternative c.has in
      record { it = it; there = sym at; completes = completes; tagged = same_Some _ _ (sym (tells.0 e) ∙ own) },
  λ fits.
      let same : fits.it ≡ it = same_Some fits.it it (sym fits.there ∙ sym at) in
      let c = fits.completes.complete in
      let own = tagged core fits.it.nonterminal fits.it.alternative c.nonterminal c.alternative c.has in
      tells.1
      (subst (λ (x : ItemNode). option_map (λ (a : CoreAlt). a.tag) (alternative_at core x.nonterminal x.alternative) ≡ Some choice.tag)
      same (own ∙ ap Some (sym fits.tagged))),
)
