use Rattle.std.proofs.Common.{◌∙◌, refl, chars}
use Rattle.ig_w3c_syntax.proofs.Reading.{shorter}
use Rattle.ig_w3c_syntax.proofs.Determined.{comment_goes_on, comment_ends, comment_never}
use Rattle.ig_w3c_syntax.proofs.separators.behind_comment.Goals as goal

pub loop-after-smaller : goal.loop-after-smaller
loop-after-smaller c = shorter c.loop-after.rest.now _ c.in-Some.after.now c.in-Some.ensures
