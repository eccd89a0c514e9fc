-- Forests are cyclic only where trees have no bounded height.
use Rattle.std.proofs.Common.{ℕ, ◌+◌, ◌*◌, length, arith}
use Rattle.ig_core.specs.Laws.{CoreTreesArePermitted, CoresAreRegular}
use Rattle.ig_core.specs.Lowered.{CoreOf}
use Rattle.ig_parse.specs.Laws.{CyclicIsWithoutHighest}
use Rattle.ig_analyse.specs.Laws.{HeightsAreBounded}
use Rattle.ig_parse.specs.FactLaws.{ForestsAreNotCyclic}

pub not_cyclic : HeightsAreBounded → CoreTreesArePermitted → CoresAreRegular → CyclicIsWithoutHighest → ForestsAreNotCyclic
not_cyclic bounded permitted regular without c buildable numbered none text f is cyclic =
    let most : ℕ = length (CoreOf c) * (length text.characters + 1) in
    let higher = (without c text f is).0 cyclic most in
    let low = bounded (CoreOf c) (regular c buildable numbered) none text higher.0
    ((permitted c text higher.0 buildable numbered).1 higher.1) in
    let over = higher.2 in
    omega (arith, low, over)
