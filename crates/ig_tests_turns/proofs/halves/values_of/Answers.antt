use Rattle.std.proofs.Common.{◌+◌, take, sym, subst, rules}
use Rattle.std.proofs.lemmas.List.Elements.{all_zip_more}
use Rattle.std.specs.List.{AllZip}
use Rattle.ig_tests_turns.specs.Halves.{IsHalf}
use Rattle.ig_tests_turns.proofs.halves.values_of.Goals as goal

pub loop-half-preserved : goal.loop-half-preserved
loop-half-preserved c =
    subst (λ values. AllZip IsHalf (take (c.loop-half.half-index + 1) c.args.halves.now) values) (sym c.in_ok-push.ensures.items)
    (all_zip_more IsHalf c.args.halves.now c.loop-half.values.items c.loop-half.half-index _ _ c.loop-half-test.true (search rules)
    c.loop-half.invariant c.value.ensures)
