use Rattle.std.specs.Str.{chars}
use Rattle.ig_levels.proofs.naming.right_word.Goals as goal

pub returns : goal.returns
unfolding chars
returns c = c.new.ensures
