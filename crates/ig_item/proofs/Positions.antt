-- Where the items of a text stand.
use Rattle.std.proofs.Common.{ℕ, List, sym, subst, arith}
use Rattle.ig_text.specs.Input.{Input}
use Rattle.ig_text.proofs.Matching.{match_goes}
use Rattle.ig_item.specs.Items as items
use Rattle.ig_item.specs.Items.{Item, Follows}
use Rattle.ig_item.specs.Laws.{IsInText, ItemsAreInText}
use Rattle.ig_item.specs.declared.core_grammar.Nonterminal.{Nonterminal}
use Rattle.ig_item.specs.Induction.{kept}

module _ (core : List Nonterminal) (text : Input) where
  rule : (x : Item) → Follows core text (IsInText text) x → IsInText text x
  rule _ (items.root x e) = subst (IsInText text) (sym e) (record { onward = omega arith; within = omega arith })
  rule _ (items.test it names c x k before holds e) =
      subst (IsInText text) (sym e) (record { onward = k.onward; within = k.within })
  rule _ (items.bind it names name c v x k before has e) =
      subst (IsInText text) (sym e) (record { onward = k.onward; within = k.within })
  rule _ (items.terminal it names what label excluded j x k before matches free e) =
      let m = match_goes text what it.position j matches in
      subst (IsInText text) (sym e) (record { onward = omega (arith, k.onward, m.0); within = m.1 })
  rule _ (items.call it callee label excluded nonterminal a alternative x k calls at e) =
      subst (IsInText text) (sym e) (record { onward = omega arith; within = omega (arith, calls.here, k.within) })
  rule _ (items.return it done label excluded x k l calls complete free e) =
      subst (IsInText text) (sym e)
      (record { onward = omega (arith, k.onward, calls.here, l.onward); within = l.within })

pub in_text : ItemsAreInText
in_text core text x reachable = kept core text (IsInText text) (rule core text) x reachable
