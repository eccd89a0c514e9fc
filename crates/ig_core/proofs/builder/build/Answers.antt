use Rattle.std.proofs.Common.{◌≡◌, ◌<◌, ◌≤◌, subst}
use Rattle.std.specs.Prelude.{IfOk, IfErr}
use Rattle.ig_item.specs.Core.{dots}
use Rattle.ig_item.specs.Limits.{most_dots}
use Rattle.ig_core.specs.declared.fault.CoreFault.TheVariants.{TooManyDots}
use Rattle.ig_core.proofs.InTurn.{core_is}
use Rattle.ig_core.proofs.builder.build.Goals as goal

pub returns-clause-core : goal.returns-clause-core
returns-clause-core c =
    subst (λ z. IfOk c.build_lowered.result (λ core. core ≡ z))
    (core_is c.args.checked.now c.in_ok-lowered.lowered c.in_ok-lowered.ensures.lowered) c.build_lowered.ensures.core

pub returns-clause-few : goal.returns-clause-few
returns-clause-few c =
    subst (λ z. IfOk c.build_lowered.result (λ core. dots z ≤ most_dots))
    (core_is c.args.checked.now c.in_ok-lowered.lowered c.in_ok-lowered.ensures.lowered) c.build_lowered.ensures.few

pub returns-clause-exact : goal.returns-clause-exact
returns-clause-exact c =
    subst (λ z. IfErr c.build_lowered.result (λ fault. fault ≡ TooManyDots → most_dots < dots z))
    (core_is c.args.checked.now c.in_ok-lowered.lowered c.in_ok-lowered.ensures.lowered) c.build_lowered.ensures.exact
