use Rattle.std.proofs.Common.{reverse, vec_items, None}
use Rattle.std.specs.Prelude.{string_bytes}
use Rattle.ig_show_trees.proofs.Nested.{all_written, named_at}
use Rattle.ig_show_trees.proofs.tree_text.push_tree.Goals as goal

pub push_part-requires : goal.push_part-requires
push_part-requires c =
    named_at c.args.core.now c.args.tree.now c.as_slice-part-items.result.now c.loop-part.part-index
    record { tag = None; span = record { begin = 0; end = 0 }; children = 0 } c.requires.named c.as_slice-part-items.ensures
    c.loop-part-test.true

pub returns : goal.returns
returns c =
    λ t whole.
    all_written c.args.core.now t c.args.tree.now c.as_slice-part-items.result.now c.loop-part.part-index
    (reverse (vec_items c.loop-part.counts)) (string_bytes c.loop-part.out) (string_bytes c.args.out.now) whole c.as_slice-part-items.ensures c.loop-part-test.false c.loop-part.invariant
