use Rattle.std.proofs.Common.{chars, ◌<◌, ◌≤◌, arith}
use Rattle.std.proofs.lemmas.Bool.Decides.{nat_tests}
use Rattle.ig_w3c_syntax.specs.Spelling.{alone}
use Rattle.ig_w3c_syntax.proofs.Determined.{no_end, falls, rises}
use Rattle.ig_w3c_syntax.proofs.sets.part.Goals as goal

pub returns-in_default : goal.returns-in_default
returns-in_default c = (
  c.in_ok-a.ensures.0,
  alone (chars c.args.text.now) (chars c.in_ok-a.more.now) c.in_ok-a.a c.in_ok-a.ensures.1 c.in_default.ensures,
)

pub returns-in_err-b : goal.returns-in_err-b
returns-in_err-b c =
    rw c.from_residual-in_err-b.ensures
    (no_end (chars c.args.text.now) (chars c.in_ok-a.more.now) (chars c.in-Some.behind.now) c.in_ok-a.a c.in_ok-a.ensures.1
    c.in-Some.ensures.1 c.in-Some.ensures.2 c.in_err-b.ensures)

pub returns-then-a-b : goal.returns-then-a-b
returns-then-a-b c =
    let l : c.in_ok-a.a ≤ c.in_ok-b.b = let t = c.if-a-b.true in grind (arith, nat_tests) in (
      c.in_ok-b.ensures.0,
      rises (chars c.args.text.now) (chars c.in_ok-a.more.now) (chars c.in-Some.behind.now) (chars c.in_ok-b.rest.now) c.in_ok-a.a c.in_ok-b.b
          c.in_ok-a.ensures.1 c.in-Some.ensures.1 c.in-Some.ensures.2 c.in_ok-b.ensures.1 l,
    )

pub returns-else-a-b : goal.returns-else-a-b
returns-else-a-b c =
    let l : c.in_ok-b.b < c.in_ok-a.a = let t = c.if-a-b.false in grind (arith, nat_tests) in
    falls (chars c.args.text.now) (chars c.in_ok-a.more.now) (chars c.in-Some.behind.now) (chars c.in_ok-b.rest.now) c.in_ok-a.a c.in_ok-b.b
    c.in_ok-a.ensures.1 c.in-Some.ensures.1 c.in-Some.ensures.2 c.in_ok-b.ensures.1 l
