use Rattle.std.proofs.Common.{vec_items}
use Rattle.ig_text.proofs.Emptiness.{is_nothing, is_something}
use Rattle.ig_walker.proofs.Closing.{shows_none, shows_cursor}
use Rattle.ig_walker.proofs.walker.Walker.cursor.Goals as goal

pub returns-then-is_empty : goal.returns-then-is_empty
returns-then-is_empty c =
    shows_none c.self.inside.forest c.self.inside.depth (vec_items c.self.inside.visits) _
    (is_nothing c.as_slice-visits.result.now (vec_items c.self.inside.visits) c.is_empty.result c.is_empty.ensures c.if-is_empty.true c.as_slice-visits.ensures.value)
    c.self.view_is

pub returns : goal.returns
returns c =
    shows_cursor c.self.inside.forest c.self.inside.depth (vec_items c.self.inside.visits) _ _ _
    (is_something c.as_slice-visits.result.now (vec_items c.self.inside.visits) c.is_empty.result c.is_empty.ensures c.if-is_empty.false c.as_slice-visits.ensures.value)
    c.as_slice-visits.ensures.value c.in_ok-cursor.ensures c.self.view_is
