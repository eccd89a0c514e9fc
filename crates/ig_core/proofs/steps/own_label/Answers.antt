use Rattle.std.proofs.Common.{◌≡◌, subst, List, ℕ, Option}
use Rattle.std.specs.Prelude.{IfOk}
use Rattle.ig_core.proofs.steps.own_label.Goals as goal

pub returns : goal.returns
returns c = subst (λ (z : Option (List ℕ)). IfOk c.copy_label.result (λ r. r ≡ z)) c.label_of.ensures c.copy_label.ensures
