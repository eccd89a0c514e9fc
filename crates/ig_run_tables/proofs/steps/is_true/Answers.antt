use Rattle.std.proofs.Common.{◌≡◌, ◌↔◌, IsTrue, Some, true, subst}
use Rattle.ig_expr.specs.declared.value.Value.TheVariants.{Bool as truth}
use Rattle.ig_run_tables.proofs.steps.is_true.Goals as goal

pub value-requires : goal.value-requires
value-requires c = c.requires

pub returns : goal.returns
returns c = subst (λ z. IsTrue c.holds.result ↔ (z ≡ Some (truth true))) c.value.ensures c.holds.ensures
