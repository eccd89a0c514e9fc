-- The order in which permitted trees are listed is a strict and total one.
use Rattle.std.proofs.Common.{◌≡◌, ℕ, List, refl, sym, ◌∙◌, ap, subst, inl, inr}
use Rattle.std.specs.Prelude.{◌⊎◌}
use Rattle.std.specs.declared.cmp.Ordering.{Ordering}
use Rattle.std.specs.declared.cmp.Ordering.TheVariants.{Less, Equal, Greater}
use Rattle.std.specs.Ordering.{ordering_reverse}
use Rattle.ig_text.specs.Input.{Input}
use Rattle.ig_text.specs.Tree as plain
use Rattle.ig_meaning.specs.Permitted.{Permitted}
use Rattle.ig_expr.specs.ValuedTree.{Tree}
use Rattle.ig_meaning.specs.Annotated.{Annotates}
use Rattle.ig_meaning.specs.AnnotatedLaws.{AreUnique}
use Rattle.ig_expr.specs.TreeOrder.{tree_cmp, IsAnOrder}
use Rattle.ig_meaning.specs.Order.{Precedes, AreToldApart, PermittedTreesAreOrdered}
use Rattle.ig_grammar.specs.declared.grammar.Grammar.{Grammar}
use Rattle.ig_grammar.specs.declared.place.Shape.{Shape}
use Rattle.ig_meaning.proofs.Annotation.{derivations_annotated}
use Rattle.ig_meaning.proofs.Equality.{undiffering, unique}

less_than_equal : Less ≡ Equal → ⊥
less_than_equal e = cc

module _ (order : IsAnOrder) (g : Grammar) (shapes : List Shape) (text : Input) (once : AreUnique g shapes text) (apart : AreToldApart g shapes text) where
  never : (t : plain.Tree) → Precedes g shapes text t t → ⊥
  never t p =
      let alike : p.one ≡ p.other = once.annotates p.of_first p.of_second in
      less_than_equal (sym p.less ∙ ap (tree_cmp p.one) (sym alike) ∙ order.itself p.one)

  onward : (t u v : plain.Tree) → Precedes g shapes text t u → Precedes g shapes text u v → Precedes g shapes text t v
  onward t u v p q =
      let alike : p.other ≡ q.one = once.annotates p.of_second q.of_first in
      record {
        first = p.first;
        second = q.second;
        one = p.one;
        other = q.other;
        of_first = p.of_first;
        of_second = q.of_second;
        less = order.onward p.one p.other q.other p.less (ap (λ z. tree_cmp z q.other) alike ∙ q.less);
      }

  by_case : (o : Ordering) (t u : plain.Tree) (a b : Tree) → Permitted g shapes text t → Permitted g shapes text u →
      Annotates g shapes text t a → Annotates g shapes text u b → tree_cmp a b ≡ o →
      (t ≡ u) ⊎ (Precedes g shapes text t u ⊎ Precedes g shapes text u t)
  by_case Less t u a b first second p q e =
      inr (inl (record { first = first; second = second; one = a; other = b; of_first = p; of_second = q; less = e }))
  by_case Equal t u a b first second p q e =
      inl (sym p.same ∙ apart.permitted a b (subst (Permitted g shapes text) (sym p.same) first) (subst (Permitted g shapes text) (sym q.same) second) e ∙ q.same)
  by_case Greater t u a b first second p q e =
      inr (inr (record { first = second; second = first; one = b; other = a; of_first = q; of_second = p; less = order.turned b a ∙ ap ordering_reverse e }))

  either : (t u : plain.Tree) → Permitted g shapes text t → Permitted g shapes text u →
      (t ≡ u) ⊎ (Precedes g shapes text t u ⊎ Precedes g shapes text u t)
  either t u first second =
      let p = (derivations_annotated g shapes text).permitted first in
      let q = (derivations_annotated g shapes text).permitted second in
      by_case (tree_cmp p.0 q.0) t u p.0 q.0 first second p.1 q.1 refl

pub ordered : IsAnOrder → PermittedTreesAreOrdered
ordered order g shapes text distinct fit =
    let once = unique g shapes text distinct fit in
    let apart = undiffering g shapes text distinct fit in
    record {
      never = never order g shapes text once apart;
      onward = onward order g shapes text once apart;
      either = either order g shapes text once apart;
    }
