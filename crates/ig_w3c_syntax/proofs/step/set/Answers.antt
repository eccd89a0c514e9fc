use Rattle.std.proofs.Common.{chars}
use Rattle.ig_w3c_syntax.specs.Token.{OneOf}
use Rattle.ig_w3c_syntax.proofs.Longest.{set_broken, set_longest}
use Rattle.ig_w3c_syntax.proofs.step.set.Goals as goal

pub returns-in-Some : goal.returns-in-Some
returns-in-Some c =
    let h = rw c.in-Some.is at c.in_ok-class.ensures in (
      h.0,
      set_longest (chars c.args.text.now) (chars c.args.after.now) (chars c.in-Some.rest.now) (OneOf c.in-Some.class) c.requires.spelled h.1,
    )

pub returns-in-None : goal.returns-in-None
returns-in-None c =
    let h = rw c.in-None.is at c.in_ok-class.ensures in
    set_broken (chars c.args.text.now) (chars c.args.after.now) c.requires.spelled c.requires.no_separator h
