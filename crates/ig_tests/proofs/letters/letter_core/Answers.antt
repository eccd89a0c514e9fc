use Rattle.ig_tests.proofs.LoneRoot.{lone_root_is_well_kinded}
use Rattle.ig_tests.proofs.letters.letter_core.Goals as goal

pub of-core-requires : goal.of-core-requires
of-core-requires c =
    lone_root_is_well_kinded _ _ _ _ c.in_ok-letter_but_b.ensures c.in_ok-alternatives.ensures c.in_ok-lone_root.ensures
