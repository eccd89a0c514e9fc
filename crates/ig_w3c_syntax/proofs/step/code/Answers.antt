use Rattle.std.proofs.Common.{chars}
use Rattle.ig_w3c_syntax.proofs.Longest.{code_broken, code_longest}
use Rattle.ig_w3c_syntax.proofs.step.code.Goals as goal

pub returns-in-Some : goal.returns-in-Some
returns-in-Some c = (
  c.in-Some.ensures.0,
  code_longest (chars c.args.text.now) (chars c.in-Some.rest.now) c.in-Some.c c.requires c.in-Some.ensures.1,
)

pub returns-in-None : goal.returns-in-None
returns-in-None c = code_broken (chars c.args.text.now) c.requires c.in-None.ensures
