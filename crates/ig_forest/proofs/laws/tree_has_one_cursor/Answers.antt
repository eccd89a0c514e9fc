use Rattle.ig_forest.proofs.Cursors.{one_cursor}
use Rattle.ig_forest.proofs.laws.tree_has_one_cursor.Goals as goal

pub returns : goal.returns
returns c =
    one_cursor
    (record {
      closed = c.reachable_is_closed.ensures;
      in_text = c.items_are_in_text.ensures;
      items_by_trees = c.items_are_reached_by_trees.ensures;
      instance_trees = c.complete_items_are_trees.ensures;
      alternatives_begin = c.alternatives_begin_together.ensures;
      before_one = c.stands_before_one.ensures;
      alternatives_one = c.alternatives_are_one.ensures;
    })
