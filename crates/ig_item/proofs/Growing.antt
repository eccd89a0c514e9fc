-- The environment of an item begins with the values of its instance.
use Rattle.std.proofs.Common.{◌≡◌, ℕ, List, [], ◌∷◌, ◌++◌, sym, ap, ◌∙◌, subst, append_assoc}
use Rattle.std.proofs.lemmas.List.{append-nil}
use Rattle.ig_text.specs.Input.{Input}
use Rattle.ig_expr.specs.declared.value.Value.{Value}
use Rattle.ig_item.specs.Items as items
use Rattle.ig_item.specs.Items.{Item, Follows, first, past, root_instance, span_of}
use Rattle.ig_item.specs.Induction.{kept}
use Rattle.ig_item.specs.Laws.{EnvironmentsGrow}
use Rattle.ig_item.specs.declared.core_grammar.Nonterminal.{Nonterminal}
use Rattle.ig_item.specs.declared.items.Instance.{Instance}

abbrev Grown : Item → Type 0
Grown x = (bound : List Value) × (x.env ≡ x.instance.values ++ bound)

begun : (instance : Instance) (a : ℕ) → Grown (first instance a)
begun instance a = ([], sym (append-nil instance.values))

grown : (it : Item) (vs : List Value) (j : ℕ) → Grown it → Grown (past it vs j)
grown it vs j g =
    (g.0 ++ vs, ap (λ (s : List Value). s ++ vs) g.1 ∙ append_assoc it.instance.values g.0 vs)

module _ (core : List Nonterminal) (text : Input) where
  rule : (x : Item) → Follows core text Grown x → Grown x
  rule _ (items.root x e) = subst Grown (sym e) (begun root_instance 1)
  rule _ (items.test it names c x k before holds e) = subst Grown (sym e) (grown it [] it.position k)
  rule _ (items.bind it names name c v x k before has e) = subst Grown (sym e) (grown it (v ∷ []) it.position k)
  rule _ (items.terminal it names what label excluded j x k before matches free e) =
      subst Grown (sym e) (grown it (span_of label it.position j) j k)
  rule _ (items.call it callee label excluded nonterminal a alternative x k calls at e) =
      subst Grown (sym e) (begun callee a)
  rule _ (items.return it done label excluded x k l calls complete free e) =
      subst Grown (sym e) (grown it (span_of label it.position done.position) done.position k)

pub environments_grow : EnvironmentsGrow
environments_grow core text x reachable = kept core text Grown (rule core text) x reachable
