use Rattle.std.proofs.Common.{refl}
use Rattle.ig_tests.proofs.Barren.{named_s_is_fresh}
use Rattle.ig_tests.proofs.rewrite.writes_the_root.Goals as goal

pub root-rooted-requires : goal.root-rooted-requires
root-rooted-requires g c = record { fresh = λ e. named_s_is_fresh _ _ c.in_ok-checked.ensures.grammar refl }
