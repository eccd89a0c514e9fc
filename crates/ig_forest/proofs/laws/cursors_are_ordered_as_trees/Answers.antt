use Rattle.ig_forest.proofs.OrderedTrees.{ordered_trees}
use Rattle.ig_forest.proofs.laws.cursors_are_ordered_as_trees.Goals as goal

pub returns : goal.returns
returns c =
    ordered_trees
    (record {
      given =
          record {
            closed = c.reachable_is_closed.ensures;
            in_text = c.items_are_in_text.ensures;
            items_by_trees = c.items_are_reached_by_trees.ensures;
            instance_trees = c.complete_items_are_trees.ensures;
            alternatives_begin = c.alternatives_begin_together.ensures;
            before_one = c.stands_before_one.ensures;
            alternatives_one = c.alternatives_are_one.ensures;
          };
      fit = c.environments_fit.ensures;
      grow = c.environments_grow.ensures;
      in_turn = c.steps_leave_in_turn.ensures;
      environments = c.steps_leave_environments.ensures;
      last_child = c.last_child_starts_decide.ensures;
    })
