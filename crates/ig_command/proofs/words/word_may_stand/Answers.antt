use Rattle.std.proofs.Common.{None, arith}
use Rattle.std.proofs.lemmas.Str.Pattern.{split_once_first}
use Rattle.ig_command.proofs.Sorting.{named, no_equals, stripped}
use Rattle.ig_command.proofs.words.word_may_stand.Goals as goal

pub returns-in-None : goal.returns-in-None
returns-in-None c =
    named c.args.word.now c.in-Some.rest.now c.is_empty.result (stripped _ _ c.in-Some.ensures.cases)
    (no_equals _ (split_once_first 61 c.in-Some.rest.now None c.in-None.ensures.cases (omega arith))) c.is_empty.ensures
