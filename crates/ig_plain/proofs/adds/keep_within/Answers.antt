use Rattle.std.proofs.Common.{arith}
use Rattle.std.proofs.lemmas.Result.{on_ok_weaker, IfErr-weaker}
use Rattle.ig_plain.proofs.adds.keep_within.Goals as goal

pub returns : goal.returns
returns c = record {
  within = on_ok_weaker c.within_budget.result (λ few. omega (arith, few)) c.within_budget.ensures.within;
  fault = IfErr-weaker c.within_budget.result _ _ (λ fault more is. omega (arith, more)) c.within_budget.ensures.over;
}
