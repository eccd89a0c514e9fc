use Rattle.ig_show_trees.proofs.CursorTexts.{cursor_texts_differ}
use Rattle.ig_show_trees.proofs.laws.cursor_texts_differ.Goals as goal

pub returns : goal.returns
returns c = cursor_texts_differ
