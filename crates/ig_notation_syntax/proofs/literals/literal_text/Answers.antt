use Rattle.std.proofs.Common.{◌∙◌, sym, chars}
use Rattle.std.proofs.lemmas.Str.{chars-nil}
use Rattle.ig_notation_syntax.proofs.LetterSteps.{literal_text_none, word_is}
use Rattle.ig_notation_syntax.proofs.literals.literal_text.Goals as goal

pub returns-in-None : goal.returns-in-None
returns-in-None c =
    word_is c.new-in-None.result _ _
    (chars-nil ∙ sym (literal_text_none (chars c.args.inside.now) (rw c.in-None.is at c.in_ok-text.ensures)))
    c.new-in-None.ensures
