use Rattle.std.proofs.Common.{◌≡◌, true, false, Some, rules}
use Rattle.std.specs.Option.{option_eq}
use Rattle.std.specs.Prelude.{nat_eq}
use Rattle.std.specs.Str.Iter.{chars_rest}
use Rattle.ig_text.proofs.Spelling.{all_left, one_more, another, none_left}
use Rattle.ig_text.proofs.text.are_letters_of.Goals as goal

pub loop-letter-init : goal.loop-letter-init
loop-letter-init c =
    all_left c.args.letters.now c.args.text.now (chars_rest c.chars-rest.result) c.utf8.text c.chars-rest.ensures.rest

pub loop-letter-preserved : goal.loop-letter-preserved
loop-letter-preserved c =
    let same : option_eq nat_eq c.next.result (Some c.letter-item.result) ≡ true = grind (rules, c.if-ne.ensures) in
    one_more c.args.letters.now c.args.text.now (chars_rest c.loop-letter.rest) (chars_rest c.next.new.self)
    c.loop-letter.letter-index c.letter-item.result c.next.result _ c.loop-letter.invariant c.loop-letter-test.true
    c.letter-item.is c.next.ensures.steps.0 same

pub returns-then-ne : goal.returns-then-ne
returns-then-ne c =
    let other : option_eq nat_eq c.next.result (Some c.letter-item.result) ≡ false = grind (rules, c.if-ne.ensures) in (
      λ t. cc,
      λ h.
          absurd
          (another c.args.letters.now c.args.text.now (chars_rest c.loop-letter.rest) c.loop-letter.letter-index
          c.letter-item.result c.next.result c.loop-letter.invariant c.loop-letter-test.true c.letter-item.is
          c.next.ensures.steps.2 other h),
    )

pub returns : goal.returns
returns c =
    none_left c.args.letters.now c.args.text.now (chars_rest c.loop-letter.rest) c.loop-letter.letter-index
    c.next-2.result c.is_none.result c.loop-letter.invariant c.loop-letter-test.false c.next-2.ensures.steps.2
    c.is_none.ensures
