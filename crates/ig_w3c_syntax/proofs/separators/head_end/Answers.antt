use Rattle.std.proofs.Common.{chars, ◌∷◌, sym, ◌∙◌}
use Rattle.ig_w3c_syntax.proofs.Determined.{no_head, same_behind, whole_head}
use Rattle.ig_w3c_syntax.proofs.separators.head_end.Goals as goal

pub returns-in_err-second : goal.returns-in_err-second
returns-in_err-second c =
    rw c.from_residual.ensures
    (no_head (chars c.args.text.now) (chars c.past_separators-sign.result.now) c.past_separators-sign.ensures.separators
    c.past_separators-sign.ensures.all (λ more p. c.in_err-second.ensures (58 ∷ 61 ∷ more) p))

pub returns-in_err-third : goal.returns-in_err-third
returns-in_err-third c =
    rw c.from_residual-in_err-third.ensures
    (no_head (chars c.args.text.now) (chars c.past_separators-sign.result.now) c.past_separators-sign.ensures.separators
    c.past_separators-sign.ensures.all
    (λ more p. c.in_err-third.ensures (61 ∷ more)
    (same_behind (chars c.past_separators-sign.result.now) (chars c.in_ok-second.second.now) (58 ∷ 61 ∷ more) 58 c.in_ok-second.ensures.1 p)))

pub returns-in-Some : goal.returns-in-Some
returns-in-Some c = (
  c.in-Some.ensures.0,
  whole_head (chars c.args.text.now) (chars c.past_separators-sign.result.now) (chars c.in_ok-second.second.now)
      (chars c.in_ok-third.third.now) (chars c.in-Some.rest.now) c.past_separators-sign.ensures.separators c.in_ok-second.ensures.1
      c.in_ok-third.ensures.1 c.in-Some.ensures.1,
)

pub returns-in-None : goal.returns-in-None
returns-in-None c =
    no_head (chars c.args.text.now) (chars c.past_separators-sign.result.now) c.past_separators-sign.ensures.separators
    c.past_separators-sign.ensures.all
    (λ more p. c.in-None.ensures more
    (same_behind (chars c.in_ok-second.second.now) (chars c.in_ok-third.third.now) (61 ∷ more) 58 c.in_ok-third.ensures.1
    (same_behind (chars c.past_separators-sign.result.now) (chars c.in_ok-second.second.now) (58 ∷ 61 ∷ more) 58 c.in_ok-second.ensures.1 p)))
