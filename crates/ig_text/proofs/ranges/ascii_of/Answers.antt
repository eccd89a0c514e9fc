use Rattle.std.proofs.Common.{length, rules, sym, ◌∙◌, ap, inl, inr}
use Rattle.ig_text.specs.Ranges.{is_among}
use Rattle.ig_text.proofs.Lists.{place_cases}
use Rattle.ig_text.proofs.ranges.ascii_of.Goals as goal

pub loop-c-init : goal.loop-c-init
loop-c-init c = (search rules, λ k b e. search rules)

-- the new truth value is that of the character in turn
pub loop-c-preserved : goal.loop-c-preserved
loop-c-preserved c =
    let grown = c.in_ok-push.ensures.items in
    let (long, known) = c.loop-c.invariant in (
      ap length grown ∙ search rules,
      λ k b e. elim (place_cases c.loop-c.ascii.items c.is_in_some.result b k (rw grown at e)) [
        | inl before ↦ known k b before
        | inr last ↦ sym last.1 ∙ c.is_in_some.ensures ∙ ap (is_among c.args.pairs.now) (sym (last.0 ∙ long))
      ],
    )

pub returns : goal.returns
returns c = c.loop-c.invariant.1
