use Rattle.std.proofs.Common.{[], ◌∷◌, ◌++◌, ap, ◌∙◌}
use Rattle.ig_gss.specs.Chains.{cell}
use Rattle.ig_gss.proofs.Linked.{onward_more}
use Rattle.ig_gss.proofs.chains.Chains.add.Goals as goal

pub invariant_of-self-2 : goal.invariant_of-self-2
invariant_of-self-2 g c =
    let new = cell c.args.mark c.args.earlier in
    onward_more c.self.inside.cells.values _ new c.self.invariant (rw c.self.view_is c.requires)
    (c.push_reserved-id.ensures.values ∙ ap (λ z. z ++ new ∷ []) c.in_ok-reserve.ensures.values)
