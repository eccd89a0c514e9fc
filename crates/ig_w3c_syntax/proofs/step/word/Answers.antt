use Rattle.std.proofs.Common.{chars, sym, ◌∙◌}
use Rattle.ig_w3c_syntax.proofs.Longest.{word_broken, head_longest, name_longest}
use Rattle.ig_w3c_syntax.proofs.step.word.Goals as goal

pub returns-then-is_keyword : goal.returns-then-is_keyword
returns-then-is_keyword c =
    word_broken (chars c.args.text.now) (chars c.split.result.0.now) c.requires c.split.ensures.front_is
    (sym c.is_keyword.ensures ∙ c.if-is_keyword.true)

pub returns-in-Some : goal.returns-in-Some
returns-in-Some c = (
  c.in-Some.ensures.0,
  head_longest (chars c.args.text.now) (chars c.split.result.0.now) (chars c.split.result.1.now) (chars c.in-Some.behind.now) c.requires
      c.split.ensures.front_is c.split.ensures.rest_is (sym c.is_keyword.ensures ∙ c.if-is_keyword.false) c.in-Some.ensures.1,
)

pub returns-in-None : goal.returns-in-None
returns-in-None c = (
  c.split.ensures.whole_rest,
  name_longest (chars c.args.text.now) (chars c.split.result.0.now) (chars c.split.result.1.now) c.requires
      c.split.ensures.front_is c.split.ensures.rest_is (sym c.is_keyword.ensures ∙ c.if-is_keyword.false) c.in-None.ensures,
)
