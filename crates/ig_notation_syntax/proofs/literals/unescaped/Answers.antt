use Rattle.std.proofs.Common.{◌∙◌, ap, chars}
use Rattle.std.proofs.lemmas.Str.{chars-nil}
use Rattle.ig_notation_syntax.proofs.LetterSteps.{literal_begins}
use Rattle.ig_notation_syntax.proofs.literals.unescaped.Goals as goal

pub loop-c-init : goal.loop-c-init
loop-c-init c = (c.utf8.inside, literal_begins _ _ (ap chars c.new-text.ensures.bytes ∙ chars-nil))
