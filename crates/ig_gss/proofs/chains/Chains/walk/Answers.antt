use Rattle.ig_gss.proofs.chains.Chains.walk.Goals as goal

pub invariant_of-result : goal.invariant_of-result
invariant_of-result g c = (c.self.invariant, rw c.self.view_is c.requires)
