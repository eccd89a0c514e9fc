use Rattle.std.proofs.Common.{◌∙◌, ap, ℕ, List}
use Rattle.std.specs.BTreeMap.{get_by}
use Rattle.std.specs.Cmp.Lexicographic.{slice_cmp}
use Rattle.std.specs.Ordering.{nat_cmp}
use Rattle.ig_text.proofs.Characters.{word_bytes}
use Rattle.ig_blocks_parts.proofs.guide.kind_of.Goals as goal

pub returns : goal.returns
returns c =
    let b = word_bytes c.as_str.result.now c.args.name.now c.as_str.utf8 c.as_str.ensures in
    c.copied.ensures ∙ c.get.ensures.value ∙ ap (λ (z : List ℕ). get_by (λ k. slice_cmp nat_cmp z k.now) c.args.guide.now.kinds) b
