use Rattle.std.proofs.Common.{chars}
use Rattle.ig_w3c_syntax.proofs.Longest.{Quoted, string_broken, string_open, string_longest}
use Rattle.ig_w3c_syntax.proofs.step.string.Goals as goal

pub returns-then-is_empty : goal.returns-then-is_empty
returns-then-is_empty c =
    let q : Quoted (chars c.args.text.now) c.args.quote (chars c.args.after.now) =
    record { parts = c.requires.text.spelled; quote = c.requires.quote; no_separator = c.requires.text.no_separator } in
    string_broken (chars c.args.text.now) (chars c.args.after.now) (chars c.split.result.0.now) c.args.quote q
    c.split.ensures.front_is (c.is_empty.ensures.yes c.if-is_empty.true)

pub returns-in-Some : goal.returns-in-Some
returns-in-Some c =
    let q : Quoted (chars c.args.text.now) c.args.quote (chars c.args.after.now) =
    record { parts = c.requires.text.spelled; quote = c.requires.quote; no_separator = c.requires.text.no_separator } in (
      c.in-Some.ensures.0,
      string_longest (chars c.args.text.now) (chars c.args.after.now) (chars c.split.result.0.now) (chars c.split.result.1.now)
          (chars c.in-Some.behind.now) c.args.quote q c.split.ensures.front_is c.split.ensures.rest_is
          (c.is_empty.ensures.no c.if-is_empty.false) c.in-Some.ensures.1,
    )

pub returns-in-None : goal.returns-in-None
returns-in-None c =
    let q : Quoted (chars c.args.text.now) c.args.quote (chars c.args.after.now) =
    record { parts = c.requires.text.spelled; quote = c.requires.quote; no_separator = c.requires.text.no_separator } in
    string_open (chars c.args.text.now) (chars c.args.after.now) (chars c.split.result.1.now) c.args.quote q
    c.split.ensures.rest_is c.in-None.ensures
