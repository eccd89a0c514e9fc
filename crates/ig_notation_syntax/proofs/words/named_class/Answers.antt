use Rattle.std.proofs.Common.{chars}
use Rattle.ig_notation_syntax.specs.View.{token_of}
use Rattle.ig_notation_syntax.proofs.Tables.{named_class_is}
use Rattle.ig_notation_syntax.proofs.words.named_class.Goals as goal

pub returns-in-Some : goal.returns-in-Some
returns-in-Some c = (
  c.split.ensures.whole_rest,
  named_class_is (chars c.args.after.now) (chars c.split.result.0.now) (chars c.split.result.1.now) (token_of c.in-Some.token)
      c.split.ensures.front_is c.split.ensures.rest_is (rw c.in-Some.is at c.class_named.ensures),
)
