use Rattle.ig_gss.proofs.Pairs.{each_pair_meets_once}
use Rattle.ig_gss.proofs.laws.each_pair_once.Goals as goal

pub returns : goal.returns
returns c = each_pair_meets_once
