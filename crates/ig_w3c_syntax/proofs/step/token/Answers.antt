use Rattle.std.proofs.Common.{◌≡◌, chars, sym, ap, ◌∙◌, ◌∷◌, arith}
use Rattle.std.proofs.lemmas.Bool.Decides.{nat_tests}
use Rattle.ig_w3c_syntax.specs.View.{token_of}
use Rattle.ig_w3c_syntax.proofs.Found.{other_is}
use Rattle.ig_w3c_syntax.proofs.Longest.{sign_longest, sign_broken}
use Rattle.ig_w3c_syntax.proofs.step.token.Goals as goal

pub word-requires : goal.word-requires
word-requires c = record {
  first = c.args.c;
  others = chars c.args.after.now;
  parts = c.requires.begun.spelled;
  letter = sym c.starts.ensures ∙ c.if-starts.true;
  no_separator = c.requires.begun.no_separator;
}

pub code-requires : goal.code-requires
code-requires c =
    let e : c.args.c ≡ 35 = let t = c.is_hash.ensures in let u = c.if-is_hash.true in grind (arith, nat_tests) in record {
      after = chars c.args.after.now;
      parts = c.requires.begun.spelled ∙ ap (λ z. z ∷ chars c.args.after.now) e;
      no_separator = c.requires.begun.no_separator;
    }

pub returns-in-Some : goal.returns-in-Some
returns-in-Some c = (
  c.requires.begun.whole,
  sign_longest (chars c.args.text.now) (chars c.args.after.now) c.args.c (token_of c.in-Some.sign) c.requires.begun.spelled
      (other_is c.args.c (sym c.starts.ensures ∙ c.if-starts.false) (sym c.is_quote.ensures ∙ c.if-is_quote.false)
      (sym c.is_hash.ensures ∙ c.if-is_hash.false) c.requires.no_set)
      (sym (rw c.in-Some.is at c.sign.ensures)),
)

pub returns-in-None : goal.returns-in-None
returns-in-None c =
    sign_broken (chars c.args.text.now) (chars c.args.after.now) c.args.c c.requires.begun.spelled c.requires.begun.no_separator
    (other_is c.args.c (sym c.starts.ensures ∙ c.if-starts.false) (sym c.is_quote.ensures ∙ c.if-is_quote.false)
    (sym c.is_hash.ensures ∙ c.if-is_hash.false) c.requires.no_set)
    (sym (rw c.in-None.is at c.sign.ensures))
