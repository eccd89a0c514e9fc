use Rattle.std.proofs.Common.{chars, sym, subst, ◌∙◌}
use Rattle.ig_w3c_syntax.specs.Spelling.{IsSeparator, blank, comment}
use Rattle.ig_w3c_syntax.proofs.Determined.{no_comment, no_slash}
use Rattle.ig_w3c_syntax.proofs.separators.separator.Goals as goal

pub returns-then-is_blank : goal.returns-then-is_blank
returns-then-is_blank c = (
  c.in_ok-c.ensures.whole,
  subst (λ z. IsSeparator z (chars c.in_ok-c.after.now)) (sym c.in_ok-c.ensures.spelled)
      (blank c.in_ok-c.c (chars c.in_ok-c.after.now) (sym c.is_blank.ensures ∙ c.if-is_blank.true)),
)

pub returns-in-Some : goal.returns-in-Some
returns-in-Some c = (
  c.in-Some.ensures.0,
  subst (λ z. IsSeparator z (chars c.in-Some.rest.now)) (sym c.in_ok-inside.ensures.1)
      (comment (chars c.in_ok-inside.inside.now) (chars c.in-Some.rest.now) c.in-Some.ensures.1),
)

pub returns-in-None : goal.returns-in-None
returns-in-None c =
    no_comment (chars c.args.text.now) (chars c.in_ok-c.after.now) (chars c.in_ok-inside.inside.now) c.in_ok-c.c
    c.in_ok-c.ensures.spelled (sym c.is_blank.ensures ∙ c.if-is_blank.false) c.in_ok-inside.ensures.1 c.in-None.ensures
