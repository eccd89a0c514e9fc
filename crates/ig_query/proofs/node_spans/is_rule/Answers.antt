use Rattle.std.proofs.Common.{◌≡◌, false, true}
use Rattle.ig_query.proofs.node_spans.is_rule.Goals as goal

pub returns-in-Root : goal.returns-in-Root
returns-in-Root c =
    rw c.in-Root.is (λ t. let e : false ≡ true = t in absurd (cc), λ i. let e = i.2 in absurd (cc))
