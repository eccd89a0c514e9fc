use Rattle.std.proofs.Common.{◌∙◌, ◌+◌, ap, sym, subst}
use Rattle.std.specs.Prelude.{option_map}
use Rattle.ig_forest_tables.specs.Views.{node_view}
use Rattle.ig_query.specs.CodeAmbiguity.{AreNumbers}
use Rattle.ig_query.proofs.Forks.{numbers_with, numbers_without}
use Rattle.ig_query.proofs.ambiguity.numbers_of.Goals as goal
use Rattle.ig_query.proofs.ambiguity.numbers_of.Goals.{then-leads_to_mark+in_ok-push, else-leads_to_mark}

pub loop-number-preserved : goal.loop-number-preserved
loop-number-preserved c =
    elim c.if-leads_to_mark.branch [
      | then-leads_to_mark+in_ok-push w ↦
          subst (λ v. AreNumbers c.args.forest.now c.args.marks.now (c.loop-number.number + 1) v.items) (sym w.numbers-is)
          (numbers_with c.args.forest.now c.args.marks.now c.loop-number.number (node_view c.in-Some.node) c.loop-number.numbers.items
          c.loop-number.invariant (sym c.node.ensures ∙ ap (option_map node_view) c.in-Some.is) w.push.new.self.items
          (c.leads_to_mark.ensures.0 w.if-leads_to_mark.true) w.in_ok-push.ensures.items)
      | else-leads_to_mark w ↦
          subst (λ v. AreNumbers c.args.forest.now c.args.marks.now (c.loop-number.number + 1) v.items) (sym w.numbers-is)
          (numbers_without c.args.forest.now c.args.marks.now c.loop-number.number (node_view c.in-Some.node) c.loop-number.numbers.items
          c.loop-number.invariant (sym c.node.ensures ∙ ap (option_map node_view) c.in-Some.is)
          (λ leads. let t = c.leads_to_mark.ensures.1 leads in let f = w.if-leads_to_mark.false in cc))
    ]
