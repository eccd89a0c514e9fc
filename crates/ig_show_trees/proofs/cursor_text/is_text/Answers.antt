use Rattle.std.proofs.Common.{◌∙◌, sym}
use Rattle.std.specs.Cmp.Lexicographic.{bytes_decides}
use Rattle.ig_show_trees.proofs.cursor_text.is_text.Goals as goal

pub returns : goal.returns
returns c =
    let same = bytes_decides c.args.shown.now c.as_bytes-bytes.result.now in (
      λ t. same.0 (sym c.eq.ensures ∙ t) ∙ c.as_bytes-bytes.ensures.value,
      λ e. c.eq.ensures ∙ same.1 (e ∙ sym c.as_bytes-bytes.ensures.value),
    )
