use Rattle.std.specs.Prelude.{codes}
use Rattle.ig_show_trees.proofs.CursorTexts.{only_is, not_only, same_bytes, other_bytes}
use Rattle.ig_show_trees.proofs.cursor_text.read_loosely.Goals as goal

pub returns-then-eq : goal.returns-then-eq
returns-then-eq c =
    λ cs short e.
    only_is cs c.args.word.now _ short e (same_bytes c.eq.result c.args.word.now (codes "only") c.eq.ensures c.if-eq.true)
    c.new.ensures.items

pub returns : goal.returns
returns c =
    not_only _ c.args.word.now (other_bytes c.eq.result c.args.word.now (codes "only") c.eq.ensures c.if-eq.false)
    c.read_numbers.ensures
