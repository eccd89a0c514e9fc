use Rattle.std.proofs.Common.{◌∙◌, ◌+◌, ◌≤◌, ap, sym, subst}
use Rattle.std.specs.Prelude.{option_map, chars}
use Rattle.ig_forest_tables.specs.Views.{node_view}
use Rattle.ig_query.proofs.Spanning.{SpansUpTo, spans_with, spans_without, spans_all}
use Rattle.ig_query.proofs.node_spans.spans_of.Goals as goal
use Rattle.ig_query.proofs.node_spans.spans_of.Goals.{then-is_of_declaration+in_ok-push, else-is_of_declaration}

pub loop-number-preserved : goal.loop-number-preserved
loop-number-preserved c =
    elim c.if-is_of_declaration.branch [
      | then-is_of_declaration+in_ok-push w ↦
          subst (λ v. SpansUpTo c.args.forest.now (chars c.args.name.now) (c.loop-number.number + 1) v.items) (sym w.spans-is)
          (spans_with c.args.forest.now (chars c.args.name.now) c.loop-number.number (node_view c.in-Some.node) c.loop-number.spans.items
          c.loop-number.invariant (sym c.node.ensures ∙ ap (option_map node_view) c.in-Some.is) w.push.new.self.items
          (c.is_of_declaration.ensures.0 w.if-is_of_declaration.true) w.in_ok-push.ensures.items)
      | else-is_of_declaration w ↦
          subst (λ v. SpansUpTo c.args.forest.now (chars c.args.name.now) (c.loop-number.number + 1) v.items) (sym w.spans-is)
          (spans_without c.args.forest.now (chars c.args.name.now) c.loop-number.number (node_view c.in-Some.node) c.loop-number.spans.items
          c.loop-number.invariant (sym c.node.ensures ∙ ap (option_map node_view) c.in-Some.is)
          (λ of. let t = c.is_of_declaration.ensures.1 of in let f = w.if-is_of_declaration.false in cc))
    ]

pub returns : goal.returns
returns c =
    spans_all c.args.forest.now (chars c.args.name.now) c.loop-number.number c.loop-number.spans.items
    (subst (λ n. n ≤ c.loop-number.number) c.nodes-number-end.ensures c.loop-number-test.false) c.loop-number.invariant
